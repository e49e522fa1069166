-- What follows of the definitions in `specs/`, one family of facts a file, each building on those before it.
pub mod Feet
pub mod Keep
pub mod Tops
pub mod Follow
pub mod Grow
pub mod Shake
pub mod Push
pub mod Cut
pub mod Settle
pub mod Sent
pub mod Number
pub mod Bounds
pub mod Stepped
pub mod Told
pub mod Demand
pub mod Enough
mod Worked
