pub mod AnswersLemmas
pub mod BuiltLemmas
pub mod MarksLemmas
