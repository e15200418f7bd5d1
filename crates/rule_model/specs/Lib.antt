pub mod Declarations
pub mod Counts
pub mod Rules
pub mod Faults
pub mod Judged
pub mod Books
pub mod FewRows
pub mod Satisfied
