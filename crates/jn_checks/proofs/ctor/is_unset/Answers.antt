use Rattle.std.proofs.Common.{◌≡◌, ℕ, List, ◌&&◌, length, not, ap, ◌∙◌, arith}
use Rattle.std.specs.Prelude.{eqb}
use Rattle.jn_points.specs.Members.{some_of}
use Rattle.jn_sigs.specs.Signature.{field_qual}
use Rattle.jn_env.specs.Keys.{is_on}
use Rattle.jn_checks.proofs.Steps.{some_end}
use Rattle.jn_checks.proofs.ctor.is_unset.Goals as goal

pub returns : goal.returns
returns c =
    let A = c.args.analysis.now in
    let own = c.keys.result.now.own in
    let lacks = λ (ks : List ℕ) (f : ℕ). not (field_qual A.program A.sig f).null && not (is_on (λ (k : ℕ). eqb k f) ks c.args.env.now.assigned) in
    let same : length c.as_slice-field-items.result.now ≡ length own = ap length c.as_slice-field-items.ensures in
    some_end (lacks own) own c.loop-field.field-index c.loop-field.unset _ (omega (arith, c.loop-field-test.false, same)) c.loop-field.invariant
    ∙ ap (λ ks. some_of (lacks ks) ks) c.keys.ensures.own
