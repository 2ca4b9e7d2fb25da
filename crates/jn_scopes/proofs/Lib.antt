pub mod Scoping
pub mod Seen
pub mod Arities
pub mod Typing
pub mod Linking
pub mod Finding
