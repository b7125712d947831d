pub mod Accepted
pub mod Text
