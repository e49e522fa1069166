-- What the parts of the joined table's file are, and what those that put them ask.
pub mod Written
