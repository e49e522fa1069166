-- What must be believed of tables, in reading order. Nothing is proved here: `proofs/` has what follows.
pub mod Table
pub mod Runs
pub mod Trails
pub mod Living
pub mod Answers
pub mod Parts
pub mod Nesting
pub mod Joining
pub mod Sentences
