pub mod CertAnswers
pub mod CoverTables
pub mod LeafLines
