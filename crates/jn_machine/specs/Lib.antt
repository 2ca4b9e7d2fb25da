pub mod PrimView
pub mod Ends
pub mod ValueView
pub mod ThingView
pub mod StateView
pub mod Parts
pub mod Printed
