mod Covers
pub mod Joining
mod PieceRowsFacts
mod AnswerLemmas
mod CopyLemmas
mod NameLemmas
mod RoundLemmas
mod SessionRowsFacts
mod FollowRowsFacts
pub mod Selectors
