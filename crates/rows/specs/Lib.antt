pub mod Causes
pub mod Code
pub mod Equal
pub mod Rows
pub mod Text
