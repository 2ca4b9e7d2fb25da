use Rattle.std.proofs.Common.{refl, sym, ◌∙◌}
use Rattle.std.specs.Prelude.{slice_index}
use Rattle.jn_recheck_law.specs.Unread.{methods_slots}
use Rattle.jn_points.specs.Lookup.{method_at}
use Rattle.jn_recheck_law.specs.RuleReads.{method_slots}
use Rattle.jn_again.proofs.Clear.{never, one_differs, one_gone}
use Rattle.jn_again.proofs.slots.off_methods.Goals as goal

pub returns-then-not-off_method : goal.returns-then-not-off_method
returns-then-not-off_method c = one_differs (slice_index c.args.bits.now) (methods_slots c.args.program.now) (λ k. method_slots (method_at c.args.program.now k)) (λ x xs. refl) c.args.methods.now 0 c.loop-at.at c.loop-at-test.true c.loop-at.invariant (λ a. never (sym c.if-not-off_method.true ∙ c.off_method.ensures.1 a))

pub loop-at-preserved : goal.loop-at-preserved
loop-at-preserved c = one_gone (slice_index c.args.bits.now) (methods_slots c.args.program.now) (λ k. method_slots (method_at c.args.program.now k)) (λ x xs. refl) c.args.methods.now 0 c.loop-at.at c.loop-at-test.true c.loop-at.invariant (c.off_method.ensures.0 c.if-not-off_method.false)
