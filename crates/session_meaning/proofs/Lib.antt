-- What follows of the definitions in `specs/`, one family of facts a file, each building on those before it.
pub mod Tests
pub mod Spells
pub mod Same
pub mod Listed
pub mod Beginning
pub mod Loads
pub mod Soundly
pub mod Bytes
pub mod Encoded
pub mod RoundTrip
pub mod Passed
pub mod Feet
pub mod Keys
pub mod ByPlace
pub mod Started
pub mod Clear
pub mod Held
mod Worked
