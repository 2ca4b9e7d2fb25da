mod Alike
mod Apart
mod Finding
mod Firsts
mod Lacking
mod Leaving
mod Nearby
mod Noting
mod Saying
mod Solving
pub mod Standing
