pub mod Page
pub mod WebAnswers
pub mod Answers
