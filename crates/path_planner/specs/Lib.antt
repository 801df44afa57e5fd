pub mod Ends
pub mod Near
pub mod Direct
