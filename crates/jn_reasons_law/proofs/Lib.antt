mod Bits
pub mod Sendings
mod Greater
mod Choosing
mod Behind
mod Sent
mod InBody
mod Pairs
mod Signatures
mod Reasons
mod Searching
mod Walking
mod Standing
