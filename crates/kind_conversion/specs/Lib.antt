pub mod Shifts
pub mod ShiftedWord
pub mod ShiftedForm
pub mod ShiftedList
pub mod Laws
