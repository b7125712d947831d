pub mod automaton
pub mod Faults
pub mod Laws
pub mod Reading
pub mod Rows
pub mod Stimuli
pub mod Written
