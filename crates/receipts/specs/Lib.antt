pub mod Honesty
pub mod Joins
pub mod Lines
