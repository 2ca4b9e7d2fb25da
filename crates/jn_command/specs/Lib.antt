pub mod Status
pub mod Reports
pub mod Shown
pub mod Stands
pub mod Reporters
pub mod Made
pub mod Outputs
pub mod Answer
