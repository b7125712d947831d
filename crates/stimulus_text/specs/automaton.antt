-- The reader as an automaton: what each byte does, and where a text has its first fault.
pub mod Items
pub mod Places
pub mod Taking
pub mod Texts
