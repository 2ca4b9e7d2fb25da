-- Rounds of pairs of values.
use Rattle.std.proofs.Common.{◌≡◌, ℕ, suc, ◌+◌, ◌-◌, ◌<◌, Bool, true, ◌&&◌, List, [], ◌∷◌, length, refl, sym, ap, ◌∙◌, arith}
use Rattle.std.specs.Prelude.{flat_map}
use Rattle.std.specs.List.{list_all}
use Rattle.jn_points.specs.declared.program.Body.{Body}
use Rattle.jn_unkept.specs.declared.alike.Pair.{Pair}
use Rattle.jn_unkept.specs.Alike.{all_alike, is_like, made_from}

module _ (x : Body) where
  round_by : (n : ℕ) (ps : List Pair) → (length ps ≡ 0 → ⊥) → list_all (is_like x) ps ≡ true → all_alike x n (flat_map (made_from x) ps) ≡ all_alike x (suc n) ps
  round_by n [] some e = absurd (some refl)
  round_by n (v ∷ vs) some e = ap (λ (c : Bool). c && all_alike x n (flat_map (made_from x) (v ∷ vs))) (sym e)

  -- a round in which each pair is alike
  pub next_round : (n k : ℕ) (ps qs : List Pair) → k < n → (length ps ≡ 0 → ⊥) → list_all (is_like x) ps ≡ true → qs ≡ flat_map (made_from x) ps → all_alike x (n - (k + 1)) qs ≡ all_alike x (n - k) ps
  next_round n k ps qs lt some e is =
      let next : suc (n - (k + 1)) ≡ n - k = omega (arith, lt) in
      ap (all_alike x (n - (k + 1))) is ∙ round_by (n - (k + 1)) ps some e ∙ ap (λ (m : ℕ). all_alike x m ps) next
