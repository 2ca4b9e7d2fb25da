pub mod Numbers
pub mod Along
pub mod Nodes
pub mod Tables
