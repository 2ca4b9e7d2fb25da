pub mod Walks
pub mod Below
