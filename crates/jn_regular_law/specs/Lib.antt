pub mod DispatchExample
