pub mod Readings
pub mod Counted
pub mod Empty
pub mod Certified
pub mod Accepted
pub mod OneVerdict
pub mod Answering
pub mod Lent
