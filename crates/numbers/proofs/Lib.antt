-- What follows of the table of numbers.
pub mod Told
