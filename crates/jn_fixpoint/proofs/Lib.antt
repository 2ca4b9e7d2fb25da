pub mod Fixpoint
