pub mod Adding
pub mod Causes
pub mod Leads
pub mod Repeats
pub mod Staged
pub mod Worked
