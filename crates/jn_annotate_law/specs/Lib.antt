pub mod Trees
pub mod Fits
pub mod Meaning
pub mod Worded
pub mod Noted
pub mod Says
pub mod Kept
pub mod Again
