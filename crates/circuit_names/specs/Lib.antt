pub mod Names
pub mod Pairs
pub mod Positions
pub mod Rows
pub mod Starts
