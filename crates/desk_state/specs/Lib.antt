pub mod Desk
pub mod LeftTexts
pub mod Probes
