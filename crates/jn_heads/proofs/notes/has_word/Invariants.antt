use Rattle.std.proofs.Common.{◌≡◌, drop}
use Rattle.jn_points.specs.Members.{some_of}
use Rattle.jn_heads.specs.Extract as spec
use Rattle.jn_heads.proofs.notes.has_word.Given as goal

abbrev pub invariant-loop-modifier : goal.invariant-loop-modifier
invariant-loop-modifier l = some_of (spec.is_word l.word) (drop l.modifier-index l.modifiers) ≡ some_of (spec.is_word l.word) l.modifiers
