pub mod Causes
pub mod Disk
pub mod Files
pub mod Moments
pub mod Spawned
pub mod Steps
pub mod Told
pub mod Worked
