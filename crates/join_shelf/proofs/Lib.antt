-- What follows of shelves, one family of facts a file, each building on those before it.
pub mod Lists
pub mod Turns
pub mod Rooms
pub mod Laws
pub mod Keys
pub mod Told
