pub mod Digesting
pub mod Hashing
pub mod PartLines
pub mod Parting
pub mod Running
