-- What follows of files that are put part after part, one family of facts a file, each building on those before it.
pub mod Numbers
pub mod Rows
pub mod Sets
pub mod File
pub mod Joined
