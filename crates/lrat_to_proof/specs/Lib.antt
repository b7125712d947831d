pub mod Widths
pub mod Holding
pub mod Converting
pub mod Faults
pub mod Conversions
pub mod Standing
pub mod Taken
pub mod Runs
