-- Document 01's table of numbers.
pub mod Numbers
