pub mod PackingLaws
pub mod ReadingLaws
pub mod InferenceLaws
pub mod WordsOf
pub mod LeastSignature
pub mod OneFact
pub mod FewBits
pub mod PairLaws
mod BodiesAlone
