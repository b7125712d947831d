pub mod Answers
pub mod Causes
pub mod Lines
pub mod Reached
pub mod Simulations
