pub mod Invariants
pub mod Joined
mod RowsFacts
pub mod Simulation
