pub mod Entries
pub mod Inside
pub mod Noting
pub mod NotedMethods
