pub mod Sizes
pub mod Climbing
pub mod Sends
pub mod Signatures
pub mod Tables
pub mod Inferring
pub mod LeastTables
pub mod TaskNumbers
