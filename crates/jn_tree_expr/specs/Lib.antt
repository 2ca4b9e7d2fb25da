pub mod Forms
pub mod Meaning
