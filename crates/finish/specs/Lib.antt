-- For proofs only: what the parts of `finish` ask of each other.
pub mod Finishing
