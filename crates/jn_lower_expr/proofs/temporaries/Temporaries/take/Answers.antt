use Rattle.std.proofs.Common.{◌≡◌, ◌∷◌, [], ◌++◌, ℕ, List, length, Option, None, sym, subst, ap, ◌∙◌}
use Rattle.jn_points.specs.declared.point.BaseType.{BaseType}
use Rattle.jn_lowering.specs.Temporaries.{Temporaries, free_from}
use Rattle.jn_lower_expr.specs.declared.ways.Way.{Way}
use Rattle.jn_lower_expr.specs.Passing.{AllPast, Passes, begin}
use Rattle.jn_lower_expr.proofs.Passing.{all_pushed, begins_past, passes_new}
use Rattle.jn_lower_expr.proofs.temporaries.Temporaries.take.Goals as goal

pub free-requires-clause-passed : goal.free-requires-clause-passed
free-requires-clause-passed c =
    let bs = c.self.inside.bases.items in
    let ts = c.self.inside.taken in
    let from : c.begin.result ≡ begin c.self.inside.ways.items c.args.base = c.begin.ensures ∙ ap (λ (ws : List Way). begin ws c.args.base) c.deref-2.ensures.value in
    let past = begins_past bs ts c.self.inside.ways.items c.args.base c.self.invariant in
    subst (λ (xs : List BaseType). Passes 0 c.begin.result xs ts c.args.base) (sym c.deref.ensures.value) (subst (λ (n : ℕ). Passes 0 n bs ts c.args.base) (sym from) past)

pub mark-requires-clause-passed : goal.mark-requires-clause-passed
mark-requires-clause-passed c =
    let past = subst (λ (xs : List BaseType). Passes 0 c.in-Some.place xs c.self.inside.taken c.args.base) c.deref.ensures.value c.in-Some.ensures.passed in
    subst (λ (t : Temporaries). Passes 0 c.in-Some.place t.bases t.taken c.args.base) c.self.view_is past

pub invariant_of-self : goal.invariant_of-self
invariant_of-self c = subst (λ (bs : List BaseType). AllPast bs c.self.inside.taken c.self.inside.ways.items) (sym c.in-Ok.ensures.items) (all_pushed c.args.base c.self.inside.bases.items c.self.inside.taken c.self.inside.ways.items c.self.invariant)

pub mark-requires-in-Ok-clause-passed : goal.mark-requires-in-Ok-clause-passed
mark-requires-in-Ok-clause-passed c =
    let bs = c.self.inside.bases.items in
    let ts = c.self.inside.taken in
    let none : free_from 0 bs ts c.args.base ≡ None = subst (λ (xs : List BaseType). free_from 0 xs ts c.args.base ≡ None) c.deref.ensures.value (sym c.in-None.ensures.is) in
    let all = passes_new bs ts c.args.base none in
    let long : length bs ≡ c.len-place.result = sym (ap (λ (xs : List BaseType). length xs) c.deref.ensures.value) ∙ c.deref.ensures.len ∙ sym c.len-place.ensures in
    subst (λ (xs : List BaseType). Passes 0 c.len-place.result xs ts c.args.base) (sym c.in-Ok.ensures.items) (subst (λ (n : ℕ). Passes 0 n (bs ++ c.args.base ∷ []) ts c.args.base) long all)
