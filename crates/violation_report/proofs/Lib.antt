pub mod Lists
pub mod Loops
pub mod Taken
pub mod Reports
pub mod RowLines
pub mod RuleLoops
pub mod CleanFacts
