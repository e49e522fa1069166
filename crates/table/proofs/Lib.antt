-- What follows of rule files, one family of facts a file; each function's own proof stands in its folder.
pub mod Marks
pub mod Passed
pub mod Told
pub mod Symbols
pub mod Stands
