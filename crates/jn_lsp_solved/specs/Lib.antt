pub mod Related
pub mod Marking
pub mod Reasons
pub mod Solving
