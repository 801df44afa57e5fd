pub mod Entries
pub mod Examples
pub mod Lists
pub mod Plain
pub mod Settings
pub mod Trees
pub mod Units
pub mod Wanted
