pub mod Qualifier
pub mod Order
pub mod Word
