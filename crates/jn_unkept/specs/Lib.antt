pub mod Making
pub mod Alike
pub mod Unkept
