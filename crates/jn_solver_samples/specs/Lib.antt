pub mod Pairs
pub mod Nets
pub mod PairLaws
pub mod NetLaws
pub mod Starving
