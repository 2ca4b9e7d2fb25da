use Rattle.std.proofs.Common.{◌≡◌, length}
use Rattle.jn_annotate.specs.Imports as spec
use Rattle.jn_annotate.proofs.imports.begins_with.Given as goal

abbrev pub invariant-loop-letters : goal.invariant-loop-letters
invariant-loop-letters l = spec.begins_with l.letters l.rest ≡ spec.begins_with l.fn.word l.fn.text

abbrev pub decreases-loop-letters : goal.decreases-loop-letters
decreases-loop-letters l = length l.letters
