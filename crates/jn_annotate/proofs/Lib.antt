pub mod Cursors
pub mod Walking
pub mod Stepping
pub mod Sharing
pub mod Texts
pub mod Leaving
