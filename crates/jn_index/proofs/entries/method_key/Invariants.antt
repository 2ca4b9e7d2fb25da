use Rattle.std.proofs.Common.{◌≡◌, drop}
use Rattle.jn_member_tables.specs.Numbers.{first_in}
use Rattle.jn_index.specs.Entries as spec
use Rattle.jn_index.proofs.entries.method_key.Given as goal

abbrev pub invariant-loop-k : goal.invariant-loop-k
invariant-loop-k l = first_in (spec.is_named_at l.program l.name.0 l.arity) (drop l.k-index l.named) ≡ first_in (spec.is_named_at l.program l.name.0 l.arity) l.named
