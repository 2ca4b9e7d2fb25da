pub mod FileSources
pub mod FileProgram
