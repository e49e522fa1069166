-- For proofs only: what `step` knows after each test, and how it writes the session.

pub mod Writing
pub mod Tests
