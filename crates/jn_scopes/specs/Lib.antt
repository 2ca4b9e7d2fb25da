pub mod Views
pub mod Linked
