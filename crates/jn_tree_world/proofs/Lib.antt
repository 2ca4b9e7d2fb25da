mod Nulls
pub mod Binding
