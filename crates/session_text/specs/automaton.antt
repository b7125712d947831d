-- The reader as an automaton: what each byte does.
pub mod Places
pub mod Texts
pub mod Reading
