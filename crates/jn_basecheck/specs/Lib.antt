pub mod Wanted
pub mod Rows
pub mod Listed
pub mod Refusal
