pub mod Accepting
pub mod Mains
