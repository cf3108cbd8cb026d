pub mod Samples
pub mod RuleExamples
pub mod CourseExamples
pub mod TimeExamples
pub mod TableExamples
pub mod HistoryExamples
pub mod AccessExamples
pub mod NoteExamples
