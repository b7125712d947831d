pub mod CertifiedLemmas
pub mod Common
pub mod CountLemmas
pub mod DeliveredAdds
pub mod FailingLemmas
pub mod ProofRuns
pub mod ReadDelivered
pub mod RunDelivered
