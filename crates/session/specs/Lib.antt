-- What the call `begin` promises, in words of `session_meaning`.
pub mod Calls
