pub mod OfferLemmas
pub mod SeatLemmas
pub mod TaskLemmas
