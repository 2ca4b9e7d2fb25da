pub mod Containing
mod Same
mod Noting
