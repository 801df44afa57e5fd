pub mod Jobs
pub mod Outcomes
pub mod Tests
pub mod Laws
pub mod Examples
