-- What a shelf is, and what its functions ask and answer.
pub mod Shelved
