pub mod Fitting
pub mod Marking
pub mod Reasoning
pub mod Tracing
