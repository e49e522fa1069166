-- What must be believed of sets of states.
pub mod Sets
