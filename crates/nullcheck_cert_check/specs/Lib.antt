pub mod Inputs
pub mod Verdicts
pub mod Lines
pub mod Told
pub mod Answer
