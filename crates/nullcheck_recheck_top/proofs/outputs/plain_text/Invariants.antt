use Rattle.std.proofs.Common.{◌≡◌, take}
use Rattle.nullcheck_recheck_top.specs.Carrying.{texts_of}
use Rattle.nullcheck_recheck_top.proofs.outputs.plain_text.Given as goal

abbrev pub invariant-loop-row : goal.invariant-loop-row
invariant-loop-row l = texts_of l.shower.rows ≡ take l.row-index l.rows
