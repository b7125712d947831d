-- The reader as an automaton: what each byte does.
pub mod Answers
pub mod Places
pub mod Taking
