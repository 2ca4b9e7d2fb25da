pub mod Making
pub mod Verdicts
pub mod Answer
pub mod Words
