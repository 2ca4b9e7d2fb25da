pub mod Beginning
pub mod Ends
