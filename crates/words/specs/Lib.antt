-- What must be believed of words: lists, the longest common beginning, order and rising lists, bytes taken
-- together, numbers of several bytes, what calls answer.
pub mod Lists
pub mod Words
pub mod Order
pub mod Together
pub mod LittleEndian
pub mod Calls
