use Rattle.std.proofs.Common.{◌≡◌, ◌++◌, drop}
use Rattle.std.specs.Prelude.{flat_map}
use Rattle.jn_member_tables.specs.Numbers.{list_at}
use Rattle.jn_declaration_rules.proofs.candidates.push_walks.Given as goal

abbrev pub invariant-loop-class : goal.invariant-loop-class
invariant-loop-class l = l.classes ++ flat_map (list_at l.index.walks) (drop l.class-index l.users) ≡ l.fn.classes ++ flat_map (list_at l.index.walks) l.users
