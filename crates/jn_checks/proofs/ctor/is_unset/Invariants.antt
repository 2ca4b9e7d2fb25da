use Rattle.std.proofs.Common.{◌≡◌, ℕ, ◌||◌, ◌&&◌, not, drop}
use Rattle.std.specs.Prelude.{eqb}
use Rattle.jn_points.specs.Members.{some_of}
use Rattle.jn_sigs.specs.Signature.{field_qual}
use Rattle.jn_env.specs.Keys.{is_on}
use Rattle.jn_checks.proofs.ctor.is_unset.Given as goal

abbrev pub invariant-loop-field : goal.invariant-loop-field
invariant-loop-field l =
    let lacks = λ (f : ℕ). not (field_qual l.analysis.program l.analysis.sig f).null && not (is_on (λ (k : ℕ). eqb k f) l.own l.env.assigned) in
    (l.unset || some_of lacks (drop l.field-index l.own)) ≡ some_of lacks l.own
