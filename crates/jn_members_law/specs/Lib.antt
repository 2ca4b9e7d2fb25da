pub mod Inherited
pub mod InheritedFields
pub mod Overrides
pub mod Invoked
pub mod Example
