pub mod Letters
pub mod Variables
pub mod BaseClauses
pub mod Count
pub mod Laws
