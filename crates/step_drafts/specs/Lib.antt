-- For proofs only: the room that a step drafts links in, and what the functions of drafts ask of each other.
pub mod Drafts
