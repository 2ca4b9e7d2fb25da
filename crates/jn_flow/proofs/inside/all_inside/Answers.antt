use Rattle.std.proofs.Common.{ℕ, ◌≡◌, ◌<◌, ◌≤◌, ⊎_elim, eq-or-lt_of_le, length, Some, refl, sym, ap, subst, ◌∙◌, arith}
use Rattle.std.specs.Prelude.{slice_get}
use Rattle.jn_points.specs.declared.leads.Edges.{Edges}
use Rattle.jn_points.specs.Edges.{edges_of, edges_at}
use Rattle.jn_transfer.specs.Sized.{Below}
use Rattle.jn_flow.proofs.inside.all_inside.Goals as goal

abbrev Both : ℕ → Edges → Type 0
Both n edges = Below n edges.first × Below n edges.second

pub loop-at-preserved : goal.loop-at-preserved
loop-at-preserved c = λ p pt lt is.
    let points = c.args.body.now.points in
    let at = c.loop-at.at in
    let le : p ≤ at = omega (arith, lt) in
    let below = c.if-not-are_below.ensures.below refl in
    ⊎_elim
    (λ (e : p ≡ at).
    let edges : c.edges.result ≡ edges_of pt.kind at = c.edges.ensures ∙ ap (λ o. edges_at o at) (subst (λ q. slice_get points q ≡ Some pt) e is) in
    let here : Both (length points) (edges_of pt.kind at) = subst (λ n. Both n (edges_of pt.kind at)) c.len-count.ensures (subst (λ x. Both c.len-count.result x) edges below) in
    subst (λ q. Both (length points) (edges_of pt.kind q)) (sym e) here)
    (λ (before : p < at). c.loop-at.invariant p pt before is)
    (eq-or-lt_of_le le)
