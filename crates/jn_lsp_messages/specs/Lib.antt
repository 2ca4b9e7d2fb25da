pub mod Uris
pub mod Methods
pub mod Incoming
pub mod Outgoing
