pub mod InteractionLemmas
pub mod JoinLemmas
pub mod LineLemmas
pub mod ProgressLemmas
pub mod RunLemmas
pub mod TextLemmas
