pub mod Models
pub mod Runs
pub mod Verdicts
pub mod Wholeness
