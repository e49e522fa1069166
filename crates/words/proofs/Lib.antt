-- What follows of words, one family of facts a file: what is among lists; the longest common beginning; byte order and
-- rising lists; the only rising list with given members; what tests say exactly; what bytes make together; bytes that
-- are all 0; parts written into a list, one behind the other; what `compare` and `common_length` find.
pub mod Lists
pub mod Each
pub mod Common
pub mod Ordered
pub mod Arranged
pub mod Exact
pub mod Below
pub mod Cleared
pub mod Pasted
pub mod Puts
pub mod Shifted
pub mod Calls
pub mod Agreed
