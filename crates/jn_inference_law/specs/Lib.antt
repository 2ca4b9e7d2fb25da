pub mod Packing
pub mod Reading
pub mod Inference
pub mod Solution
pub mod BodiesAlone
pub mod ExampleParts
pub mod OpenExamples
