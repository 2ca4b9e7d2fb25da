pub mod Worlds
pub mod Operations
pub mod Expressions
pub mod Statements
pub mod Bodies
pub mod Agreement
pub mod Fitting
