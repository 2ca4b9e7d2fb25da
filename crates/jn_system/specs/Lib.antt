pub mod Cleaning
pub mod Rows
pub mod ReadLists
pub mod Ready
