use Rattle.std.proofs.Common.{◌≡◌, drop}
use Rattle.std.specs.List.{list_all}
use Rattle.jn_unkept.specs.Alike.{is_like}
use Rattle.jn_unkept.proofs.alike.are_like.Given as goal

abbrev pub invariant-loop-pair : goal.invariant-loop-pair
invariant-loop-pair l = list_all (is_like l.body) (drop l.pair-index l.pairs) ≡ list_all (is_like l.body) l.pairs
