pub mod Causes
pub mod Giving
