pub mod Going
pub mod Rows
pub mod Parts
pub mod Levels
pub mod Annotated
pub mod Heads
pub mod Behind
pub mod Linked
