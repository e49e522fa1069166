-- What follows of the definitions in `specs/`, one family of facts a file.
pub mod Numerals
pub mod Short
pub mod Lined
mod Worked
