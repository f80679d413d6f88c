-- Each row of the table of calls, walked to its answers.
pub mod AnswerTrails
pub mod AnswerCauses
pub mod AnswerLaws
