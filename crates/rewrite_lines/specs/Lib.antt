-- What must be believed of lines: the text of each, as bytes, and what the functions that put text leave.
pub mod Text
pub mod Calls
