use Rattle.std.proofs.Common.{◌≡◌, ◌<◌, ◌++◌, ℕ, drop, length, get_or}
use Rattle.jn_member_tables.specs.Numbers as spec
use Rattle.jn_member_tables.proofs.lists.lists_by.Given as goal

abbrev pub invariant-loop-place : goal.invariant-loop-place
invariant-loop-place l = record {
  below : (k : ℕ) → k < length l.keys → get_or l.keys k 0 < length l.lists.items;
  placed : (d : ℕ) → spec.list_at l.lists.items d ++ spec.places_of d l.place (drop l.place l.keys) ≡ spec.places_of d 0 l.keys;
}
