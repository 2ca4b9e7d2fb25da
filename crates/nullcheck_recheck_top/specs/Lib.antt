pub mod Carrying
pub mod Answer
pub mod Stepping
