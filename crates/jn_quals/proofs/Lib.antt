pub mod Bits
pub mod Order
pub mod Words
pub mod WordLists
