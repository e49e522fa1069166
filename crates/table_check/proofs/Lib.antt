-- What the parts of `check` rest on; each function's own proof stands in its folder.
pub mod Within
pub mod Classes
pub mod Heads
