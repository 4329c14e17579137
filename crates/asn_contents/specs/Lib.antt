pub mod Contents
pub mod View
pub mod ContentsExamples
