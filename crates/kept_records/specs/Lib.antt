pub mod Records
pub mod NodeMarks
pub mod Laws
