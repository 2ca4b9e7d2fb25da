pub mod Follow
pub mod Reader
