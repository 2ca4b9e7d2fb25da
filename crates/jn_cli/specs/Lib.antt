pub mod Annotate
pub mod Cert
pub mod Names
pub mod Recheck
pub mod Refused
pub mod Server
pub mod Tables
pub mod Words
