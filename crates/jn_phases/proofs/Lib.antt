pub mod Fitting
pub mod TypeRows
pub mod OneTyping
pub mod Reporting
pub mod Naming
