pub mod AcceptedFacts
