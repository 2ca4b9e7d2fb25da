pub mod Edits
pub mod Flags
pub mod Losing
