pub mod MarkedMap
pub mod Lending
