use Rattle.std.proofs.Common.{◌≡◌, take}
use Rattle.std.specs.Prelude.{flat_map}
use Rattle.jn_unkept.specs.Alike.{made_from}
use Rattle.jn_unkept.proofs.alike.all_made.Given as goal

abbrev pub invariant-loop-pair : goal.invariant-loop-pair
invariant-loop-pair l = l.list.items ≡ flat_map (made_from l.body) (take l.pair-index l.pairs)
