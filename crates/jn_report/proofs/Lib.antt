pub mod RuleRows
pub mod OneReport
