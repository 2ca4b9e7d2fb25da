use Rattle.std.proofs.Common.{ℕ, Bool, ◌+◌, ◌<◌, length, false, ◌&&◌, eqb, ap, ◌∙◌, arith}
use Rattle.std.specs.Prelude.{slice_index_or}
use Rattle.jn_env.proofs.Along.{on_next}
use Rattle.jn_env.proofs.Lacking.{on_skip}
use Rattle.jn_env.proofs.bits.is_assigned_by.Goals as goal

pub loop-at-init : goal.loop-at-init
loop-at-init c = on_skip (λ k. eqb k c.args.field.0) c.args.own.now c.args.env.now.assigned 0 c.first-at.result (omega arith) c.first-at.ensures

pub loop-at-preserved : goal.loop-at-preserved
loop-at-preserved c =
    let at = c.loop-at.at in
    let own = c.args.own.now in
    let assigned = c.args.env.now.assigned in
    let test : ℕ → Bool = λ k. eqb k c.args.field.0 in
    let lt : at < length own = omega (arith, c.loop-at-test.true, c.len-count.ensures) in
    on_skip test own assigned (at + 1) c.next-at.result (omega (arith, c.next-at.ensures.behind)) c.next-at.ensures.lacks
    ∙ on_next test own assigned at 0 c.is_assigned_as.result _ lt (c.is_assigned_as.ensures ∙ ap (λ k. slice_index_or assigned at false && test k) c.at.ensures) c.if-is_assigned_as.false c.loop-at.invariant
