-- What follows of rule files that are written, one family of facts a file.
pub mod Digits
pub mod Laid
pub mod Back
pub mod GoodFile
pub mod FileBytes
pub mod JoinedFile
pub mod Promised
pub mod Told
pub mod Worked
