pub mod Bodies
pub mod BodyMarks
pub mod Digesting
pub mod Marks
