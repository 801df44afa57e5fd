pub mod Closures
pub mod Places
pub mod Laws
