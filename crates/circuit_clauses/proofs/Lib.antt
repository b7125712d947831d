pub mod CauseLemmas
pub mod ClauseLemmas
pub mod MachineLemmas
pub mod PlaceLemmas
