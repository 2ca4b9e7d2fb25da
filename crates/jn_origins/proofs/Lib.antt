pub mod Steps
pub mod Finding
pub mod Beyond
mod Skipping
pub mod Leads
mod Sending
pub mod OfBody
