pub mod Checkstyle
pub mod Escapes
pub mod Fingerprints
pub mod Github
pub mod Kept
pub mod Sarif
