use Rattle.std.proofs.Common.{◌≡◌, map, take}
use Rattle.jn_recheck.specs.Places.{IsPlaceIn}
use Rattle.jn_recheck.specs.Sessions.{text_of_row}
use Rattle.jn_recheck.proofs.shown.row_texts.Given as goal

abbrev pub invariant-loop-row : goal.invariant-loop-row
invariant-loop-row l = IsPlaceIn l.files l.place × (l.texts.items ≡ map (text_of_row l.files) (take l.row-index l.rows))
