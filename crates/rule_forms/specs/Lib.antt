pub mod Certificates
pub mod CheckForm
pub mod ConsistentForm
pub mod CoverForm
pub mod ImpliesForm
