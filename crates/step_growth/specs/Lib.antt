-- For proofs only: what the functions of growing ask of each other.
pub mod Growing
