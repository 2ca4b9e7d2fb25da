use Rattle.std.proofs.Common.{◌≡◌, ◌<◌, ℕ, true, length, Some}
use Rattle.jn_member_tables.specs.Numbers.{list_at, contains}
use Rattle.jn_member_tables.specs.Tables.{find_in}
use Rattle.jn_index.proofs.along.all_values.Given as goal

abbrev pub invariant-loop-place : goal.invariant-loop-place
invariant-loop-place l = record {
  long : length l.lists.items ≡ l.place;
  have : (c k v : ℕ) → c < l.place → find_in l.tables c k ≡ Some v → contains (list_at l.lists.items c) v ≡ true;
}
