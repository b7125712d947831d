pub mod Room
pub mod Marks
pub mod Places
pub mod Near
pub mod Named
pub mod Values
pub mod Lefts
