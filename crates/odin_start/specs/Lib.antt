pub mod Lines
pub mod Served
pub mod Store
pub mod Words
