use Rattle.std.proofs.Common.{drop}
use Rattle.jn_system.specs.Cleaning.{AreSeen}
use Rattle.jn_system.proofs.signature.seen_words.Given as goal

abbrev pub invariant-loop-word : goal.invariant-loop-word
invariant-loop-word l = AreSeen l.slots l.words l.listed (drop l.word-index l.listed) l.list.items
