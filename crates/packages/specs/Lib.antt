pub mod Meaning
pub mod Versions
