pub mod Marked
pub mod Faults
pub mod Hinted
pub mod Causes
pub mod Pieces
pub mod Laws
