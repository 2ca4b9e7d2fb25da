pub mod Reading
pub mod Placing
pub mod Announcing
pub mod Looking
pub mod Hearing
pub mod Answer
