pub mod AnswerLemmas
pub mod ClaimLemmas
pub mod FaultLemmas
pub mod ReachLemmas
