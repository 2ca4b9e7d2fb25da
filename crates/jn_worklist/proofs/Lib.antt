pub mod PlanFacts
pub mod RunSteps
pub mod RaiseSteps
pub mod RunEnds
pub mod DrainSteps
pub mod PlanSteps
pub mod DueBy
