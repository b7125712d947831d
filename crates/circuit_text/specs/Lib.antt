pub mod automaton
pub mod Circuits
pub mod Faults
pub mod Laws
pub mod Reading
pub mod Rows
pub mod Writing
pub mod Written
