pub mod SolvedBatch
