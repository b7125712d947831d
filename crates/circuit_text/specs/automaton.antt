-- The reader as an automaton: what each byte does, and where a text has its first fault.
pub mod Aigers
pub mod Headers
pub mod Items
pub mod Numbers
pub mod Places
pub mod Taking
