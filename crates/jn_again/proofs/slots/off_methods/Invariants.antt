use Rattle.std.proofs.Common.{refl}
use Rattle.std.specs.Prelude.{slice_index}
use Rattle.jn_points.specs.Lookup.{method_at}
use Rattle.jn_recheck_law.specs.Unread.{methods_slots}
use Rattle.jn_recheck_law.specs.RuleReads.{method_slots}
use Rattle.jn_again.proofs.Clear.{LeftClear}
use Rattle.jn_again.proofs.slots.off_methods.Given as goal

abbrev pub invariant-loop-at : goal.invariant-loop-at
invariant-loop-at l = LeftClear (slice_index l.bits) (methods_slots l.program) (λ k. method_slots (method_at l.program k)) (λ x xs. refl) l.methods l.at
