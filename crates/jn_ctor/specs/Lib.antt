pub mod Unassigned
