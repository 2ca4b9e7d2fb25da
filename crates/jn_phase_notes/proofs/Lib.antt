pub mod Clashing
pub mod Reading
pub mod Finding
pub mod Forms
pub mod Scopes
pub mod Stopping
pub mod Tables
mod Unread
mod Having
