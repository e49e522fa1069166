-- What the functions of a session's places rest on.
pub mod Entered
