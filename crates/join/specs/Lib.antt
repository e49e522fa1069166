-- What the functions of the joiner ask and answer, beyond the definitions of the crates below.
pub mod Reading
pub mod Gathering
pub mod Hopping
pub mod Calls
