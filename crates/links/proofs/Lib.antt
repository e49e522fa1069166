-- What the functions of a head rest on, and what follows of what they leave.
pub mod Weighed
pub mod Levelled
pub mod Linked
pub mod Told
