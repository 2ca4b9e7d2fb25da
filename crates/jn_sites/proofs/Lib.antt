mod Marking
pub mod Nearing
mod Siting
