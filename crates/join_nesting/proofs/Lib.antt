-- What follows of the nesting test: how many headers are open, and rows by their places.
pub mod Levels
pub mod ByRow
