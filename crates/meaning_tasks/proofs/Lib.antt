mod Fits
mod Made
mod Numbers
mod Reached
mod Roles
mod Local
mod Valued
mod Reading
mod Finite
mod Sorted
mod Grow
mod AnySources
mod Carry
pub mod Lemmas
