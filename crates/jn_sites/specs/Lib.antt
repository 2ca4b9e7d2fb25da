pub mod Sites
pub mod Marks
pub mod Near
