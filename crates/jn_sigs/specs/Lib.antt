pub mod Signature
pub mod Packed
pub mod Marks
