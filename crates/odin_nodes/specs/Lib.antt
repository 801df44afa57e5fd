pub mod Inheriting
pub mod Words
pub mod Refusals
pub mod Making
pub mod Kinds
pub mod Picking
