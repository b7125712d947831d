pub mod ClassLemmas
pub mod EntryLemmas
pub mod ListLemmas
pub mod RowsFacts
pub mod StanzaLemmas
