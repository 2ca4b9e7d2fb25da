pub mod Files
pub mod Limits
pub mod Phases
pub mod Counted
pub mod Outcomes
pub mod Numbered
