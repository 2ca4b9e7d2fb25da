pub mod Asking
pub mod Boxing
pub mod Choosing
