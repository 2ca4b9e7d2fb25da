pub mod Parts
pub mod StatementReader
pub mod Fronts
