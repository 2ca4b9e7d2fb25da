use Rattle.std.proofs.Common.{◌≡◌, drop}
use Rattle.std.specs.Prelude.{find}
use Rattle.jn_heads.specs.declared.head.ParamHead.{ParamHead}
use Rattle.jn_notes.specs.Asked.{same_span}
use Rattle.jn_phase_notes.proofs.places.param_there.Given as goal

abbrev pub invariant-loop-param : goal.invariant-loop-param
invariant-loop-param l = find (λ (p : ParamHead). same_span p.name.span l.span) (drop l.param-index l.params) ≡ find (λ (p : ParamHead). same_span p.name.span l.span) l.params
