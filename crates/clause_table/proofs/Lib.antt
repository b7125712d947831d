pub mod MarkLemmas
pub mod PlaceLemmas
pub mod PackLemmas
pub mod TrailLemmas
pub mod SearchLemmas
