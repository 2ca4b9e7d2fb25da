pub mod Voided
pub mod Courses
pub mod Turning
pub mod TurningLaws
pub mod Searched
pub mod Kept
