pub mod Places
pub mod PrivateMarks
pub mod SlotLoops
pub mod Views
