-- A value in a box that a failed call left as it was.
use Rattle.std.proofs.Common.{◌≡◌, ◌∙◌, Result, Ok, Err, OnErr, ap}

module _ {T E I B : Type 0} {V : I → Type 0} where
  pub left_same : (r : Result T E) (boxed : (i : I) × V i → B) (lent held : (i : I) × V i) (new : V lent.0) → lent ≡ held → OnErr r (new ≡ lent.1) → OnErr r (boxed (lent.0, new) ≡ boxed held)
  left_same (Ok t) boxed lent held new is same = tt
  left_same (Err e) boxed lent held new is same = ap (λ v. boxed (lent.0, v)) same ∙ ap boxed is
