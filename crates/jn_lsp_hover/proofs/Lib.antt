pub mod Searching
pub mod Inside
pub mod Declaring
pub mod Shown
pub mod Least
