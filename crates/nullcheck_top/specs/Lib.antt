pub mod CommandAnswer
pub mod Report
pub mod Found
pub mod Answers
