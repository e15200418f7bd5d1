pub mod Numbers
pub mod Chains
pub mod Tied
pub mod Retired
pub mod Pushed
