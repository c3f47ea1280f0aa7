pub mod NumeralLemmas
pub mod ReadingLemmas
pub mod PrefixLemmas
