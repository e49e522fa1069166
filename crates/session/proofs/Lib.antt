-- What follows of what the calls promise, and what the functions inside rest on.
pub mod Rising
pub mod Began
