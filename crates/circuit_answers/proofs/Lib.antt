pub mod AnswerLemmas
pub mod ReachLemmas
pub mod RunLemmas
pub mod SimulationLemmas
