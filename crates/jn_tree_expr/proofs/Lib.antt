pub mod Depth
pub mod Evaluating
pub mod Shapes
