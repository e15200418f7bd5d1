pub mod Fitting
pub mod Fives
pub mod Known
pub mod Lists
pub mod SameSchema
