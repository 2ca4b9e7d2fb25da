use Rattle.std.proofs.Common.{◌≡◌, drop}
use Rattle.jn_declaration_rules.specs.Rows as spec
use Rattle.jn_declaration_rules.specs.Ranks as ranks_of
use Rattle.jn_declaration_rules.proofs.circles.some_rises.Given as goal

abbrev pub invariant-loop-place : goal.invariant-loop-place
invariant-loop-place l = spec.some_at (λ c x. ranks_of.rises l.ranks c x.supers) l.place (drop l.place l.program.classes) ≡ ranks_of.some_rises l.ranks l.program
