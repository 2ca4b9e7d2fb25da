pub mod Files
pub mod KeptRows
pub mod Found
pub mod Places
pub mod Sessions
pub mod Told
pub mod Standing
