pub mod ShiftedLetters
pub mod ShiftedTruth
pub mod ListsMade
pub mod FormsPut
