pub mod Reaching
pub mod Turns
pub mod Editing
pub mod Gone
pub mod Nothing
pub mod Rounds
pub mod Going
pub mod Clear
