use Rattle.std.proofs.Common.{◌≡◌, drop, length}
use Rattle.jn_declaration_rules.specs.Rows as spec
use Rattle.jn_declaration_rules.specs.Ranks as ranks_of
use Rattle.jn_declaration_rules.proofs.circles.some_climbs.Given as goal

abbrev pub invariant-loop-place : goal.invariant-loop-place
invariant-loop-place l = spec.some_at (λ c x. ranks_of.climbs l.ranks (length l.program.classes) c x.supers) l.place (drop l.place l.program.classes) ≡ ranks_of.some_climbs l.ranks l.program
