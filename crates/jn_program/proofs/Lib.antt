pub mod Numbers
pub mod Programs
pub mod Appending
pub mod Syncing
pub mod Starting
pub mod Known
