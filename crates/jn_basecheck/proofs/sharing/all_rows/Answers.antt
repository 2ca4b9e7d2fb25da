use Rattle.std.proofs.Common.{◌≡◌, ◌∙◌, ℕ, ◌+◌, ◌<◌, List, length, get_or, ap, sym, subst, Vec, Global}
use Rattle.jn_base.specs.declared.place.Row.{Row}
use Rattle.jn_points.specs.declared.program.Program.{Program}
use Rattle.jn_basecheck.specs.Rows.{AreRowsOf}
use Rattle.jn_basecheck.proofs.Ranges.{all_bodies}
use Rattle.jn_basecheck.proofs.sharing.all_rows.Goals as goal

pub put_together-requires : goal.put_together-requires
put_together-requires g c =
    let P = c.args.program.now in
    let made = c.in_ok-found.ensures in
    let each : (body : ℕ) (d : Vec Row Global) → body < length c.in_ok-found.found.items → AreRowsOf P body (body + 1) (get_or c.in_ok-found.found.items body d).items = λ body d lt. (made.1 body d (subst (λ m. body < m) made.0 lt)).1 in
    subst (λ (vs : List (Vec Row Global)). (body : ℕ) (d : Vec Row Global) → body < length vs → AreRowsOf P body (body + 1) (get_or vs body d).items) (sym c.deref.ensures.value) each

pub returns : goal.returns
returns g c =
    let P = c.args.program.now in
    let n = length c.deref.result.now in
    let all : n ≡ length P.bodies = ap length c.deref.ensures.value ∙ c.in_ok-found.ensures.0 ∙ c.len-bodies.ensures ∙ ap (λ (Q : Program). length Q.bodies) c.program.ensures in
    all_bodies P n c.in_ok-rows.rows.items all c.in_ok-rows.ensures
