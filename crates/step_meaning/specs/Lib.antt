-- What the calls promise and what follows of it from begin to end; and a step on lists of links and pieces.
pub mod Promises
pub mod Serving
pub mod Stepping
