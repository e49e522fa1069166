-- What the functions of drafts rest on.
pub mod Listed
pub mod Numbers
pub mod Rooms
pub mod Carried
pub mod Putting
pub mod Shaken
pub mod Groups
pub mod Pushing
pub mod Cut
