-- What must be believed of rule files, in reading order: which byte says what and the table that a file stands for,
-- when a file is good, and what the readers answer.
pub mod File
pub mod Good
pub mod Calls
