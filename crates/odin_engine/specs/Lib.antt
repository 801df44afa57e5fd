pub mod Engaged
pub mod Asked
pub mod Opened
pub mod Asking
pub mod Looking
pub mod AskLaws
