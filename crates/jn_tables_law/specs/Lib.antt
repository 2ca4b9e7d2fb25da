pub mod Size
pub mod Fits
pub mod CoveredSend
pub mod Inferable
pub mod Tasks
