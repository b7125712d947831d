pub mod Ending
pub mod StatusLemmas
pub mod Reading
