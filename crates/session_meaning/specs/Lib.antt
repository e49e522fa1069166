-- What must be believed of sessions, in reading order. Nothing is proved here: `proofs/` has what follows.
pub mod Sessions
pub mod Soundly
pub mod Bytes
pub mod Numbers
