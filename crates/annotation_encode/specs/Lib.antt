pub mod Variables
pub mod BaseClauses
pub mod Assigned
pub mod Count
pub mod Laws
