pub mod Texts
pub mod Numbers
pub mod SameTokens
pub mod OpenBrackets
pub mod Seen
pub mod Marks
