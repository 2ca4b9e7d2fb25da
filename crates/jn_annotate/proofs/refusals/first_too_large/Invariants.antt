use Rattle.std.proofs.Common.{◌≡◌, ℕ, ◌<◌, false}
use Rattle.jn_annotate.specs.Annotated.{is_too_large}
use Rattle.jn_annotate.proofs.refusals.first_too_large.Given as goal

abbrev pub invariant-loop-file : goal.invariant-loop-file
invariant-loop-file l = (j : ℕ) → j < l.file → is_too_large l.texts j ≡ false
