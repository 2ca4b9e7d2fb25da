use Rattle.std.proofs.Common.{◌≡◌, ◌+◌, take}
use Rattle.jn_heads.specs.TypePlaces.{ArePlaces}
use Rattle.jn_heads.proofs.declarations.places_of.Given as goal

abbrev pub invariant-loop-head : goal.invariant-loop-head
invariant-loop-head l = record {
  counted : 2 + l.head-index ≡ l.number;
  indexed : ArePlaces (take l.head-index l.heads) l.places.items;
}
