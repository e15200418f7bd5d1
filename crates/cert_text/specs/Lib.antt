pub mod CertLines
pub mod CertFiles
pub mod TreeNodes
pub mod NodeTexts
pub mod Written
pub mod Canonical
pub mod CertText
