pub mod Mismatched
pub mod Wording
