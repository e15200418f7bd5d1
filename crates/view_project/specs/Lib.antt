pub mod Looking
pub mod ProjectTask
