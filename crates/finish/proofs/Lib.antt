-- What follows of the definitions in `specs/`, one family of facts a file, each building on those before it.
pub mod Accepting
pub mod Closing
