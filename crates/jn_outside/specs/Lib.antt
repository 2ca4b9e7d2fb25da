pub mod Calls
pub mod Causes
pub mod Files
pub mod Gave
pub mod Memory
pub mod Sink
