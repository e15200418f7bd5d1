pub mod DeskForm
pub mod GenerateForm
pub mod Loaded
pub mod ReportForm
pub mod RunForm
pub mod Transcripts
