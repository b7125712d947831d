pub mod Agreement
pub mod CheckLemmas
pub mod OneAnswer
pub mod OutcomeLemmas
pub mod Parts
pub mod StreamLemmas
pub mod UnitLemmas
