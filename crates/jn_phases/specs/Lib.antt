pub mod Phases
pub mod Typing
