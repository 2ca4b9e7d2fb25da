use Rattle.std.proofs.Common.{◌≡◌, drop}
use Rattle.jn_declaration_rules.specs.Ranks as ranks_of
use Rattle.jn_declaration_rules.proofs.circles.climbs.Given as goal

abbrev pub invariant-loop-parent : goal.invariant-loop-parent
invariant-loop-parent l = ranks_of.climbs l.ranks l.count l.class (drop l.parent-index l.supers) ≡ ranks_of.climbs l.ranks l.count l.class l.supers
