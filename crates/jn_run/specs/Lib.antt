pub mod Line
pub mod Main
pub mod Telling
