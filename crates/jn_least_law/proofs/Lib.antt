mod Existing
mod Slots
mod Narrowing
mod Pairs
mod Tables
mod Lowering
