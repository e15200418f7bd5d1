pub mod EachLoop
pub mod Faults
pub mod FetchingSteps
pub mod Outputs
