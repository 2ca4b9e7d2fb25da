pub mod Extract
pub mod Heads
pub mod Inferred
pub mod TypePlaces
pub mod Types
