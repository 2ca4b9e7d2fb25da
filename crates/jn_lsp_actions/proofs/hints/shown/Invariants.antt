use Rattle.std.proofs.Common.{◌≡◌, ◌++◌, length}
use Rattle.jn_annotate.specs.Puts.{insertions}
use Rattle.jn_lsp_actions.specs.Hinted as spec
use Rattle.jn_lsp_text.specs.Sweep.{IsPlaceIn}
use Rattle.jn_lsp_actions.proofs.hints.shown.Given as goal

abbrev pub invariant-loop-rest : goal.invariant-loop-rest
invariant-loop-rest l = record {
  shown : l.hints ++ spec.shown l.encoding l.text l.range l.rest (insertions l.left) ≡ spec.shown l.encoding l.text l.range l.slots (insertions l.puts);
  place : IsPlaceIn l.encoding l.text l.place;
}

abbrev pub decreases-loop-rest : goal.decreases-loop-rest
decreases-loop-rest l = length l.rest
