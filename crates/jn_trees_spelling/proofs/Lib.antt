pub mod Listed
pub mod Joined
pub mod Signed
