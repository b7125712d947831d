pub mod automaton
pub mod Answers
pub mod Literals
pub mod Numbers
pub mod Reading
pub mod Rows
