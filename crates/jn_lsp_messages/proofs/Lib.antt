pub mod Arrays
pub mod Finding
pub mod Named
pub mod Shallow
pub mod Whole
