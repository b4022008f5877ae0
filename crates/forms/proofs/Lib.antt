pub mod Examples
pub mod Leading
pub mod Storing
pub mod Taking
