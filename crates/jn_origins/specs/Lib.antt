pub mod Standing
pub mod Worked
pub mod Targets
pub mod Leading
pub mod OneBody
pub mod OneFact
pub mod Grounds
