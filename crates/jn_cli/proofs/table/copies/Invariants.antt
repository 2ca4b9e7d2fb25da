use Rattle.std.proofs.Common.{◌≡◌, map, take}
use Rattle.jn_cli.proofs.table.copies.Given as goal

abbrev pub invariant-loop-text : goal.invariant-loop-text
invariant-loop-text l = l.copies ≡ map (λ t. t.now) (take l.text-index l.texts)
