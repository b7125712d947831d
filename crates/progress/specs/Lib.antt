pub mod Bytes
pub mod Manners
