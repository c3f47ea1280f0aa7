pub mod ClaimLemmas
pub mod AnswerLemmas
