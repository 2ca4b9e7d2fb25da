use Rattle.std.proofs.Common.{◌≡◌, drop, Some}
use Rattle.jn_points.specs.Members as members
use Rattle.jn_member_tables.proofs.tables.names.Given as goal

abbrev pub invariant-loop-class : goal.invariant-loop-class
invariant-loop-class l = members.some_of (λ s. members.is_class (Some l.parent) s) (drop l.class-index l.supers) ≡ members.some_of (λ s. members.is_class (Some l.parent) s) l.supers
