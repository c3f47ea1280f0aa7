pub mod OfFormula
pub mod OfText
pub mod Laws
