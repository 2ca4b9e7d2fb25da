pub mod Interned
pub mod Cut
