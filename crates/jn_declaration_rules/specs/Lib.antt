pub mod Hidden
pub mod Listed
pub mod Ranks
pub mod Rows
