-- Calls of `this(..)` that come back to a method go round.
use Rattle.std.proofs.Common.{◌≡◌, ◌≤◌, ◌+◌, ◌-◌, ℕ, zero, suc, Bool, true, false, cond, ◌⊎◌, inl, inr, List, Option, Some, None, sym, ap, ◌∙◌, subst, eqb, arith}
use Rattle.std.specs.Prelude.{slice_index_or}
use Rattle.std.proofs.lemmas.Bool.{or_left}
use Rattle.jn_points.specs.Members.{some_of}
use Rattle.jn_declaration_rules.specs.Rows.{reach}
use Rattle.jn_classtable.specs.Calls.{call_at, IsBehind}
use Rattle.jn_declaration_rules.proofs.Tests.{or_true, true_or_not, not_both, some_member}
use Rattle.jn_declaration_rules.proofs.Graph.{reach_by}
use Rattle.jn_classtable.proofs.Follow.{chain_step, chain_found}

module _ (next : ℕ → List ℕ) where
  -- more calls reach more
  reach_more : (n m c d : ℕ) → n ≤ m → reach next n c d ≡ true → reach next m c d ≡ true
  reach_more zero zero c d le h = h
  reach_more zero (suc m) c d le h = or_left (eqb c d) (some_of (λ s. reach next m s d) (next c)) h
  reach_more (suc n) zero c d le h = absurd (omega (arith, le))
  reach_more (suc n) (suc m) c d le h = by (or_true (eqb c d) (some_of (λ s. reach next n s d) (next c)) h) (λ s. reach_more n m s d (omega (arith, le)))
    where
      by : (eqb c d ≡ true) ⊎ (some_of (λ s. reach next n s d) (next c) ≡ true) → ((s : ℕ) → reach next n s d ≡ true → reach next m s d ≡ true) → reach next (suc m) c d ≡ true
      by (inl e) more = or_left (eqb c d) (some_of (λ s. reach next m s d) (next c)) e
      by (inr e) more = let s = some_member (λ s. reach next n s d) (next c) e in reach_by next m c s.0 d s.1 (more s.0 s.2)

  -- what comes back to itself reaches nothing else
  goes_round : (far at d : ℕ) → ((k : ℕ) → reach next (k + suc far) at d ≡ reach next k at d) → eqb at d ≡ false → (k : ℕ) → reach next k at d ≡ false
  goes_round far at d same other zero = other
  goes_round far at d same other (suc k) = by (true_or_not (reach next (suc k) at d)) (goes_round far at d same other k)
    where
      by : (reach next (suc k) at d ≡ true) ⊎ (reach next (suc k) at d ≡ false) → reach next k at d ≡ false → reach next (suc k) at d ≡ false
      by (inl e) none = absurd (not_both (reach next (k + suc far) at d) (reach_more (suc k) (k + suc far) at d (omega arith) e) (same k ∙ none))
      by (inr e) none = e

module _ (calls : List (Option ℕ)) (target : ℕ) where
  at_mark : (mark : ℕ) → IsBehind calls target mark mark
  at_mark mark = (0, λ k. (let e : k + 0 ≡ k = omega arith in ap (λ n. reach (call_at calls) n mark target) e))

  further : (at to : ℕ) → eqb at target ≡ false → slice_index_or calls at None ≡ Some to → (k : ℕ) → reach (call_at calls) (suc k) at target ≡ reach (call_at calls) k to target
  further at to other call k = chain_step calls (suc k) at target to (omega arith) other call ∙ (let e : suc k - 1 ≡ k = omega arith in ap (λ n. reach (call_at calls) n to target) e)

  one_behind : (mark at to : ℕ) → eqb at target ≡ false → slice_index_or calls at None ≡ Some to → (behind : IsBehind calls target mark at) → (k : ℕ) → reach (call_at calls) (k + suc behind.0) mark target ≡ reach (call_at calls) k to target
  one_behind mark at to other call behind k =
      (let e : k + suc behind.0 ≡ suc k + behind.0 = omega arith in ap (λ n. reach (call_at calls) n mark target) e)
      ∙ (behind.1 (suc k) ∙ further at to other call k)

  pub behind_more : (mark at to : ℕ) → eqb at target ≡ false → slice_index_or calls at None ≡ Some to → IsBehind calls target mark at → IsBehind calls target mark to
  behind_more mark at to other call behind = (suc behind.0, one_behind mark at to other call behind)

  pub behind_marked : (renew : Bool) (new mark at : ℕ) → new ≡ cond renew at mark → IsBehind calls target mark at → IsBehind calls target new at
  behind_marked true new mark at is behind = subst (λ m. IsBehind calls target m at) (sym is) (at_mark at)
  behind_marked false new mark at is behind = subst (λ m. IsBehind calls target m at) (sym is) behind

  -- a call of the mark
  pub back_at_mark : (mark at to : ℕ) → eqb at target ≡ false → slice_index_or calls at None ≡ Some to → IsBehind calls target mark at → to ≡ mark → (k : ℕ) → eqb to target ≡ reach (call_at calls) k to target
  back_at_mark mark at to other call behind back k = by (true_or_not (eqb to target))
    where
      by : (eqb to target ≡ true) ⊎ (eqb to target ≡ false) → eqb to target ≡ reach (call_at calls) k to target
      by (inl e) = e ∙ sym (chain_found calls k to target e)
      by (inr e) = e ∙ sym (goes_round (call_at calls) behind.0 to target (λ n. subst (λ m. reach (call_at calls) (n + suc behind.0) m target ≡ reach (call_at calls) n to target) (sym back) (one_behind mark at to other call behind n)) e k)
