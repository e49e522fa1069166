-- What follows of the definitions in `specs/`, one family of facts a file, each building on those before it.
pub mod Tested
pub mod Rewritten
pub mod Asked
pub mod Ended
