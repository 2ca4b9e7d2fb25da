pub mod Facts
pub mod OwnFields
