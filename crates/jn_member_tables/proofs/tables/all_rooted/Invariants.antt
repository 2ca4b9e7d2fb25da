use Rattle.std.proofs.Common.{◌≡◌, drop}
use Rattle.jn_member_tables.specs.Along as along
use Rattle.jn_member_tables.proofs.tables.all_rooted.Given as goal

abbrev pub invariant-loop-class : goal.invariant-loop-class
invariant-loop-class l = along.all_rooted l.roots (drop l.class-index l.supers) ≡ along.all_rooted l.roots l.supers
