pub mod CleaningFacts
pub mod Outputs
pub mod ReadSteps
pub mod Gathering
pub mod ListSteps
pub mod Seen
pub mod TaskSteps
