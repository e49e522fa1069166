-- What follows of sets of states.
pub mod Members
