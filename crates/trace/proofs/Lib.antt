pub mod Naming
pub mod Saying
