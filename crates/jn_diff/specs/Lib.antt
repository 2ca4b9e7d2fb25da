pub mod Lines
pub mod Hunks
pub mod Names
pub mod Diff
pub mod Patch
