pub mod Places
pub mod Parts
pub mod Study
pub mod Kept
pub mod Changes
pub mod Output
pub mod Answer
