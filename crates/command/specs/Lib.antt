pub mod Calls
pub mod Inputs
pub mod Kinds
pub mod Held
pub mod Outputs
pub mod Statuses
pub mod Written
