pub mod Aligned
pub mod Trees
pub mod Methods
pub mod Sourced
pub mod Allowed
pub mod Program
mod Examples
pub mod SameSlots
pub mod Marks
pub mod SameRows
