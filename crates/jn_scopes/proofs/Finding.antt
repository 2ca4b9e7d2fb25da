-- A search of a local through those of its group.
use Rattle.std.proofs.Common.{◌≡◌, ◌<◌, ◌≤◌, ℕ, ◌+◌, ◌-◌, ◌%◌, List, length, take, get_or, refl, sym, ap, ◌∙◌, subst, arith}
use Rattle.std.proofs.Math.Seq.{take-length}
use Rattle.std.proofs.lemmas.List.{get_or_default}
use Rattle.std.specs.Prelude.{Some}
use Rattle.jn_base.specs.declared.place.Row.{Row}
use Rattle.jn_lowering.specs.Scopes.{local_in}
use Rattle.jn_scopes.specs.declared.context.Variable.{Variable}
use Rattle.jn_scopes.specs.Linked.{IsLast, Linked, group_of}
use Rattle.jn_scopes.specs.Views.{local_of, scope_of}
use Rattle.jn_scopes.proofs.Scoping.{found_here, passed, skipped}

-- the local of the name is among the first ones, and the last of these is of its group
abbrev pub Looking : List Variable → ℕ → ℕ → Type 0
Looking vs n at =
    (at ≤ length vs)
    × ((v : Variable) → 0 < at → group_of (get_or vs (at - 1) v) ≡ n % 64)
    × ((rows : List Row) → local_in (scope_of rows (take at vs)) n ≡ local_in (scope_of rows vs) n)

module _ (vs : List Variable) (n : ℕ) where
  move : (m group k : ℕ) → group ≡ n % 64 → m ≤ length vs → ((rows : List Row) → local_in (scope_of rows (take m vs)) n ≡ local_in (scope_of rows vs) n) → IsLast vs m group k → Looking vs n k
  move m group k is within same l = (
    omega (l.within, within, arith),
    λ v some. l.there v some ∙ is,
    λ rows. sym (skipped rows vs n k m l.within within (λ i v from below named. l.behind i v from below (ap (λ x. x % 64) named ∙ sym is))) ∙ same rows,
  )

  pub begun : (k : ℕ) → IsLast vs (length vs) (n % 64) k → Looking vs n k
  begun k l = move (length vs) (n % 64) k refl (omega arith) (λ rows. ap (λ us. local_in (scope_of rows us) n) (take-length vs)) l

  -- at a place of the search, with its local
  module _ (at : ℕ) (v : Variable) (some : 0 < at) (looking : Looking vs n at) (is_v : v ≡ get_or vs (at - 1) v) where
    one : at ≡ at - 1 + 1
    one = omega (some, arith)

    inside : at - 1 < length vs
    inside = omega (some, looking.0, arith)

    pub found : (rows : List Row) → v.name.0 ≡ n → local_in (scope_of rows vs) n ≡ Some (local_of rows v)
    found rows named = found_here rows vs n (at - 1) at v one inside (looking.2 rows) (sym (ap (λ u. u.name.0) is_v) ∙ named) ∙ ap (λ u. Some (local_of rows u)) (sym is_v)

    module _ (previous ends : List ℕ) (linked : Linked vs previous ends) (k : ℕ) (is_k : k ≡ get_or previous (at - 1) k) where
      before : IsLast vs (at - 1) (group_of (get_or vs (at - 1) v)) k
      before = subst (λ m. IsLast vs (at - 1) (group_of (get_or vs (at - 1) v)) m) (sym (is_k ∙ get_or_default previous (at - 1) k 0 (omega (inside, linked.lengths, arith)))) (linked.before (at - 1) v inside)

      pub smaller : k < at
      smaller = omega (before.within, some, arith)

      pub moved : (v.name.0 ≡ n → ⊥) → Looking vs n k
      moved other = move (at - 1) (group_of (get_or vs (at - 1) v)) k (looking.1 v some) (omega (inside, arith)) (λ rows. passed rows vs n (at - 1) at v one inside (looking.2 rows) (λ named. other (ap (λ u. u.name.0) is_v ∙ named))) before
