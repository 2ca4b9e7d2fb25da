use Rattle.std.proofs.Common.{◌≤◌, ◌+◌, ◌-◌, length}
use Rattle.std.specs.Prelude.{All}
use Rattle.jn_lsp_text.specs.Sweep.{IsPlaceIn}
use Rattle.jn_lsp_text.proofs.marks.places_of.Given as goal

abbrev pub invariant-loop-at : goal.invariant-loop-at
invariant-loop-at l = record {
  small : l.at ≤ length l.text + 256;
  place : IsPlaceIn l.encoding l.text l.place;
  places : All (IsPlaceIn l.encoding l.text) l.places.items;
}

abbrev pub decreases-loop-at : goal.decreases-loop-at
decreases-loop-at l = (length l.text + 256) - l.at
