use Rattle.std.proofs.Common.{◌≡◌, drop}
use Rattle.std.specs.List.{position_from}
use Rattle.jn_recheck.specs.Files.{is_named}
use Rattle.jn_lsp_hover.proofs.hovering.place_of.Given as goal

abbrev pub invariant-loop-at : goal.invariant-loop-at
invariant-loop-at l = position_from (is_named l.name) 0 l.files ≡ position_from (is_named l.name) l.at (drop l.at l.files)
