use Rattle.jn_sigs.proofs.Slots.{length-unpacked}
use Rattle.jn_sigs.proofs.Unique.{unique}
use Rattle.jn_sigs.proofs.law.words_are_unique.Goals as goal

pub returns-clause-slots : goal.returns-clause-slots
returns-clause-slots c = length-unpacked

pub returns-clause-one : goal.returns-clause-one
returns-clause-one c = unique
