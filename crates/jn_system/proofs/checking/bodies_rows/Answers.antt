use Rattle.std.proofs.Common.{◌≡◌, ℕ, ◌<◌, List, length, get_or, sym, subst, Vec, Global}
use Rattle.jn_base.specs.declared.place.Row.{Row}
use Rattle.jn_system.specs.Rows.{least_rows}
use Rattle.jn_system.proofs.checking.bodies_rows.Goals as goal

pub in_order-requires : goal.in_order-requires
in_order-requires g c =
    let rows : ℕ → List Row = least_rows c.args.bodies.now.program.now c.args.bodies.now.sig.now in
    let made = c.in_ok-found.ensures in
    let each : (b : ℕ) (d : Vec Row Global) → b < length c.in_ok-found.found.items → (get_or c.in_ok-found.found.items b d).items ≡ rows b = λ b d lt. (made.1 b d (subst (λ m. b < m) made.0 lt)).1 in
    subst (λ (vs : List (Vec Row Global)). (b : ℕ) (d : Vec Row Global) → b < length vs → (get_or vs b d).items ≡ rows b) (sym c.deref.ensures.value) each
