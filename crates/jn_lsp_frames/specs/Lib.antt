pub mod Header
pub mod Lines
pub mod Frames
pub mod Asking
pub mod Reading
