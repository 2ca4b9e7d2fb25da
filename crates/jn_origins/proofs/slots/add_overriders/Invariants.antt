use Rattle.std.proofs.Common.{◌≡◌, ◌++◌}
use Rattle.std.specs.Prelude.{slice_index_or}
use Rattle.jn_transfer.specs.Pairs.{overriders}
use Rattle.jn_reasons.specs.Listed.{firsts, pair_causes}
use Rattle.jn_origins.proofs.slots.add_overriders.Given as goal

abbrev pub invariant-loop-j : goal.invariant-loop-j
invariant-loop-j l = l.list.items ≡ l.fn.list.items ++ firsts (λ j. pair_causes l.program l.sig l.slot.0 l.bit (slice_index_or (overriders l.program) j 0)) l.j
