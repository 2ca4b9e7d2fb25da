pub mod Reporting
pub mod Laws
pub mod Running
pub mod Written
pub mod Answering
pub mod Noting
pub mod Stopping
