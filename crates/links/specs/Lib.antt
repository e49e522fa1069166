-- For proofs only: what the functions of a head ask and leave.
pub mod Heads
