use Rattle.std.proofs.Common.{◌≡◌, drop}
use Rattle.jn_member_tables.specs.Numbers.{first_in}
use Rattle.jn_index.specs.Index as index
use Rattle.jn_index.proofs.lookup.first_declared.Given as goal

abbrev pub invariant-loop-number : goal.invariant-loop-number
invariant-loop-number l = first_in (index.declares_at l.program l.c.0 l.name.0 l.arity l.d) (drop l.number-index l.numbers) ≡ first_in (index.declares_at l.program l.c.0 l.name.0 l.arity l.d) l.numbers
