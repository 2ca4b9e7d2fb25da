use Rattle.std.proofs.Common.{ℕ, ◌≡◌, ◌++◌, ◌∙◌, inl, inr, refl, sym, ap, List, [], ◌∷◌, length, arith, append-nil}
use Rattle.jn_points.specs.declared.point.BaseType.{BaseType}
use Rattle.jn_points.specs.declared.point.Operand.{Operand}
use Rattle.jn_points.specs.declared.program.Program.{Program}
use Rattle.jn_type_notes.specs.Mismatched.{arguments_found}
use Rattle.jn_type_notes.proofs.mismatch.arguments.Goals as goal

no_params : (P : Program) (b : ℕ) (ts : List BaseType) (xs : List Operand) → length ts ≡ 0 → arguments_found P b ts xs ≡ []
no_params P b [] [] none = refl
no_params P b [] (x ∷ xs) none = refl
no_params P b (t ∷ ts) xs none = absurd (omega arith)

no_arguments : (P : Program) (b : ℕ) (ts : List BaseType) (xs : List Operand) → length xs ≡ 0 → arguments_found P b ts xs ≡ []
no_arguments P b ts [] none = refl
no_arguments P b ts (x ∷ xs) none = absurd (omega arith)

pub returns : goal.returns
returns c =
    let rest : arguments_found c.args.program.now c.args.body c.loop-param.param-iterator.a.rest.now c.loop-param.param-iterator.b.rest.now ≡ [] = elim c.in-None.ensures.steps [
      | inl w ↦ no_params c.args.program.now c.args.body c.loop-param.param-iterator.a.rest.now c.loop-param.param-iterator.b.rest.now w.1.0
      | inr w ↦ no_arguments c.args.program.now c.args.body c.loop-param.param-iterator.a.rest.now c.loop-param.param-iterator.b.rest.now w.1.0
    ] in
    sym (append-nil c.loop-param.found) ∙ ap (λ xs. c.loop-param.found ++ xs) (sym rest) ∙ c.loop-param.invariant
