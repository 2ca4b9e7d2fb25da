pub mod Script
pub mod Cut
pub mod Telling
