pub mod Meaning
pub mod Questions
