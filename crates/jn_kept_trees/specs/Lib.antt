pub mod KeptTrees
pub mod Shifts
pub mod Fresh
pub mod Merges
pub mod Staying
pub mod Retyped
