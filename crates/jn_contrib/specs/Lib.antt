pub mod Sends
pub mod SentBy
pub mod Entries
