mod AnswerLemmas
mod Answered
mod Assigning
pub mod Deciding
mod Needed
mod Selecting
mod Shown
