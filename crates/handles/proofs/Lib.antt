pub mod AsBox
pub mod CheckerCallLemmas
pub mod Walks
