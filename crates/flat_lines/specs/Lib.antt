pub mod FlatLines
pub mod Laws
