pub mod Bare
pub mod Written
pub mod Erased
