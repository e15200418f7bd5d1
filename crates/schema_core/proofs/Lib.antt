pub mod DistinctLemmas
pub mod PrintLemmas
pub mod RoundTrip
pub mod ReadSchemaLemmas
