pub mod Found
pub mod Puts
pub mod Joins
pub mod Ready
pub mod Filled
pub mod Rounds
pub mod Meets
