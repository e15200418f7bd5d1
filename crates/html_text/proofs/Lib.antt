mod OnlyText
pub mod Places
