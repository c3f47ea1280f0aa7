mod ListLemmas
pub mod ReplyLemmas
mod WholeLines
mod ReadBack
