pub mod Ranges
pub mod Views
pub mod Stating
pub mod Sources
