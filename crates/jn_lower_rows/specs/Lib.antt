pub mod Views
pub mod Before
pub mod Standing
