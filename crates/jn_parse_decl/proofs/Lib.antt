pub mod Absent
pub mod Ahead
pub mod Depth
pub mod Found
pub mod Rows
pub mod Turns
pub mod Views
