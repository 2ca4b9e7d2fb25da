mod Straight
mod Calling
mod Marks
pub mod Chains
mod Constructing
mod Kept
