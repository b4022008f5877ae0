pub mod Cutting
pub mod Parting
pub mod Reading
