use Rattle.std.proofs.Common.{◌≡◌, ◌<◌, ◌+◌, ℕ, List, length, sym, subst}
use Rattle.jn_lowering.specs.Temporaries.{Temporaries}
use Rattle.jn_lower_expr.specs.Passing.{AllPast, Passes}
use Rattle.jn_lower_expr.proofs.Passing.{all_taken, passes_it}
use Rattle.jn_lower_expr.proofs.temporaries.Temporaries.mark.Goals as goal

pub invariant_of-self-2 : goal.invariant_of-self-2
invariant_of-self-2 c =
    let p = c.args.place in
    let bs = c.self.inside.bases.items in
    let ts = c.self.inside.taken in
    let ws = c.self.inside.ways.items in
    let passed = subst (λ (t : Temporaries). Passes 0 p t.bases t.taken c.args.base) (sym c.self.view_is) c.requires.passed in
    let inside = subst (λ (t : Temporaries). p < length t.bases) (sym c.self.view_is) c.requires.inside in
    c.raise.ensures bs c.add.new.self
    (subst (λ (ts : List ℕ). AllPast bs ts ws) (sym c.in-Ok.ensures.taken) (all_taken p bs ts ws c.self.invariant))
    (subst (λ (ts : List ℕ). Passes 0 (p + 1) bs ts c.args.base) (sym c.in-Ok.ensures.taken) (passes_it p bs ts c.args.base passed inside))
