pub mod Lines
pub mod JudgeText
pub mod Enough
