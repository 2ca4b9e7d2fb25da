pub mod Ahead
pub mod Ends
pub mod Front
pub mod Seen
