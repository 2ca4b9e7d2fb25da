pub mod Asking
pub mod Solving
pub mod Finding
pub mod Telling
