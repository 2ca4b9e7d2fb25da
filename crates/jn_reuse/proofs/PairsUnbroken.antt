-- Overriding pairs that break no rule break none in a program that declares the same.
use Rattle.std.proofs.Common.{◌≡◌, ℕ, zero, suc, not, true, false, true≢false, Bool, List, [], ◌∷◌, ◌++◌, length, Option, Some, None, refl, sym, ap, ◌∙◌, subst, arith}
use Rattle.std.specs.Prelude.{cond, flat_map}
use Rattle.jn_base.specs.declared.place.Row.{Row}
use Rattle.jn_base.specs.declared.place.Span.{Span}
use Rattle.jn_base.specs.declared.code.Code.TheVariants.{OvrParam, OvrReceiver, OvrResult}
use Rattle.jn_quals.specs.Qualifier.{Qualifier}
use Rattle.jn_quals.specs.Order.{within}
use Rattle.jn_points.specs.declared.program.Method.{Method}
use Rattle.jn_points.specs.declared.program.Program.{Program}
use Rattle.jn_points.specs.Lookup.{method_at, slots_of}
use Rattle.jn_points.specs.Members.{below, is_pair}
use Rattle.jn_sigs.specs.Signature.{receiver_of, result_of, slot_qual, slot_quals}
use Rattle.jn_transfer.specs.Rules.{override_rows, pair_rows, pairs_rows, row_if, some_outside}
use Rattle.jn_heads_law.specs.Heads.{HeadsAlike}
use Rattle.jn_recheck_law.specs.Alike.{SameDeclarations, SameMethod}
use Rattle.jn_recheck_law.proofs.Seeing.{method_seen}
use Rattle.jn_reuse.proofs.PairsAlike.{is_pair_same, methods_long}

-- how many rows of a pair there are, whatever their place
abbrev three : Bool → Bool → Bool → Span → ℕ
three a b c at = length (row_if a at OvrParam ++ row_if b at OvrReceiver ++ row_if c at OvrResult)

three_same : (a b c : Bool) (p q : Span) → three a b c p ≡ three a b c q
three_same true true true p q = refl
three_same true true false p q = refl
three_same true false true p q = refl
three_same true false false p q = refl
three_same false true true p q = refl
three_same false true false p q = refl
three_same false false true p q = refl
three_same false false false p q = refl

none_long : (rows : List Row) → length rows ≡ 0 → rows ≡ []
none_long [] e = refl
none_long (x ∷ rows) e = absurd (omega (arith, e))

no_front : (xs ys : List Row) → xs ++ ys ≡ [] → xs ≡ []
no_front [] ys e = refl
no_front (x ∷ xs) ys e = let long = ap (λ (l : List Row). length l) e in absurd (omega arith)

no_rest : (xs ys : List Row) → xs ++ ys ≡ [] → ys ≡ []
no_rest xs ys e = ap (λ (l : List Row). l ++ ys) (sym (no_front xs ys e)) ∙ e

flat_none : (f g : ℕ → List Row) → ((k : ℕ) → f k ≡ [] → g k ≡ []) → (ks : List ℕ) → flat_map f ks ≡ [] → flat_map g ks ≡ []
flat_none f g h [] e = refl
flat_none f g h (k ∷ ks) e =
    let one : g k ≡ [] = h k (no_front (f k) (flat_map f ks) e) in
    let rest : flat_map g ks ≡ [] = flat_none f g h ks (no_rest (f k) (flat_map f ks) e) in
    (λ i. one i ++ rest i)

module _ (names more : List (List ℕ)) (P Q : Program) (s : List Qualifier) (heads : HeadsAlike P Q) (d : SameDeclarations names more P Q) where
  over_seen : (u : Option Method) (i : ℕ) (x y : Method) → SameMethod names more i x y → length (override_rows s (Some x) u) ≡ length (override_rows s (Some y) u)
  over_seen u i x y r =
      three_same (some_outside (slot_quals s (slots_of u)) (slot_quals s x.param_slots)) (not (within (receiver_of s u) (slot_qual s x.receiver))) (not (within (slot_qual s x.result_slot) (result_of s u))) x.span y.span
      ∙ (λ j. three (some_outside (slot_quals s (slots_of u)) (slot_quals s (r.param_slots j))) (not (within (receiver_of s u) (slot_qual s (r.receiver j)))) (not (within (slot_qual s (r.result_slot j)) (result_of s u))) y.span)

  under_seen : (o : Option Method) (i : ℕ) (x y : Method) → SameMethod names more i x y → length (override_rows s o (Some x)) ≡ length (override_rows s o (Some y))
  under_seen None i x y r = refl
  under_seen (Some o) i x y r =
      (λ j. three (some_outside (slot_quals s (r.param_slots j)) (slot_quals s o.param_slots)) (not (within (slot_qual s (r.receiver j)) (slot_qual s o.receiver))) (not (within (slot_qual s o.result_slot) (slot_qual s (r.result_slot j)))) o.span)

  pair_long : (m k : ℕ) → length (override_rows s (method_at P m) (method_at P k)) ≡ length (override_rows s (method_at Q m) (method_at Q k))
  pair_long m k =
      method_seen names more P Q d (λ (o : Option Method). length (override_rows s o (method_at P k))) (over_seen (method_at P k)) m
      ∙ method_seen names more P Q d (λ (u : Option Method). length (override_rows s (method_at Q m) u)) (under_seen (method_at Q m)) k

  pair_none : (m k : ℕ) → pair_rows P s m k ≡ [] → pair_rows Q s m k ≡ []
  pair_none m k none = go (is_pair P m k) (is_pair Q m k) (is_pair_same P Q heads m k) (override_rows s (method_at P m) (method_at P k)) (override_rows s (method_at Q m) (method_at Q k)) (pair_long m k) none
    where
      go : (t u : Bool) → t ≡ u → (xs ys : List Row) → length xs ≡ length ys → cond t xs [] ≡ [] → cond u ys [] ≡ []
      go true true e xs ys long none = none_long ys (sym long ∙ ap (λ (l : List Row). length l) none)
      go true false e xs ys long none = refl
      go false true e xs ys long none = absurd (true≢false (sym e))
      go false false e xs ys long none = refl

  pub pairs_none : pairs_rows P s ≡ [] → pairs_rows Q s ≡ []
  pairs_none none =
      let all : List ℕ = below (length Q.methods) in
      let same : flat_map (λ m. flat_map (pair_rows P s m) all) all ≡ [] = subst (λ (n : ℕ). flat_map (λ m. flat_map (pair_rows P s m) (below n)) (below n) ≡ []) (methods_long P Q heads) none in
      flat_none (λ m. flat_map (pair_rows P s m) all) (λ m. flat_map (pair_rows Q s m) all) (λ m. flat_none (pair_rows P s m) (pair_rows Q s m) (pair_none m) all) all same
