-- What follows of the definitions in `specs/`, one family of facts a file, each building on those before it.
pub mod Moves
pub mod Found
pub mod Passing
pub mod Findings
pub mod Given
pub mod FromMarks
pub mod Hopped
pub mod Told
