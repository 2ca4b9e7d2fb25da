-- Dirty bodies that are closed as the words stand.
use Rattle.std.proofs.Common.{◌≡◌, ◌⊎◌, inl, inr, ℕ, zero, suc, ◌+◌, ◌<◌, ◌||◌, not, Bool, true, false, true≢false, List, [], ◌∷◌, ◌++◌, length, take, drop, get_or, bit_or, ⊎_elim, refl, sym, ap, ◌∙◌, subst, arith}
use mathlib.Core.Logic.{dite}
use mathlib.Core.Option.{some}
use native.Mathlib.Decide.{ℕ_discrete}
use lib.ListN.{get_elem?}
use Rattle.std.specs.Prelude.{slice_index}
use Rattle.std.specs.Int.{bit_at}
use Rattle.std.proofs.lemmas.List.{ext_get_or}
use Rattle.std.proofs.lemmas.Nat.Bits.{same_from_bits}
use Rattle.jn_base.specs.declared.number.WordNo.{WordNo}
use Rattle.jn_sigtable.specs.System.{ClosedAt, IsLeast, System, Within, bits_for, least}
use Rattle.jn_sigtable.specs.Machine.{AreBetween}
use Rattle.jn_sigtable.proofs.Bits.{within_or_r}
use Rattle.jn_worklist.specs.Plans.{IsDue}
use Rattle.jn_worklist.proofs.RaiseSteps.{snoc_within, take_more}
use Rattle.jn_resume.specs.Open.{AreLeftOpen, IsLeftOpen}

-- an output that there is
pub output_at : (os : List (WordNo × ℕ)) (i : ℕ) (d : WordNo × ℕ) → i < length os → get_elem? os i ≡ some (get_or os i d)
output_at [] i d lt = absurd (omega (arith, lt))
output_at (x ∷ xs) zero d lt = refl
output_at (x ∷ xs) (suc i) d lt = output_at xs i d (omega (arith, lt))

-- outputs of which each is within
pub each_within : (os : List (WordNo × ℕ)) (i : ℕ) (o : WordNo × ℕ) (z : ℕ → ℕ) → get_elem? os i ≡ some o → Within o.1 (z o.0.0) → ((w : ℕ) → Within (bits_for (take i os) w) (z w)) → (w : ℕ) → Within (bits_for (take (i + 1) os) w) (z w)
each_within os i o z at here h w =
    let e : i + 1 ≡ suc i = omega arith in
    subst (λ (l : List (WordNo × ℕ)). Within (bits_for l w) (z w)) (sym (ap (λ (k : ℕ). take k os) e ∙ take_more os i o at))
    (snoc_within (take i os) o w (z w) (h w) (λ s. subst (λ (u : ℕ). Within o.1 (z u)) s here))

-- bits that add nothing are there
pub or_same : (there bits : ℕ) → bit_or there bits ≡ there → Within bits there
or_same there bits e = subst (Within bits) e (within_or_r there bits)

-- a flag that isn't set
pub unset : (t : Bool) → not t ≡ true → t ≡ false
unset true e = absurd (true≢false (sym e))
unset false e = refl

-- a list that was lent and came back
take_own : (xs ys : List ℕ) → take (length xs) (xs ++ ys) ≡ xs
take_own [] ys = refl
take_own (x ∷ xs) ys = ap (λ (l : List ℕ). x ∷ l) (take_own xs ys)

pub take_lent : (n : ℕ) (new old : List ℕ) → n ≡ length new → take n (new ++ drop (length new) old) ≡ new
take_lent n new old e = ap (λ (k : ℕ). take k (new ++ drop (length new) old)) e ∙ take_own new (drop (length new) old)

module _ (sys : System) (words : List ℕ) where
  pub open_none : (any : Bool) (dirty : List ℕ) → AreLeftOpen sys words dirty any 0
  open_none any dirty = λ b lt. absurd (omega (arith, lt))

  first : (any more : Bool) → (any || more) ≡ false → any ≡ false
  first true more e = absurd (true≢false e)
  first false more e = refl

  second : (any more : Bool) → (any || more) ≡ false → more ≡ false
  second true more e = absurd (true≢false e)
  second false more e = e

  -- one body more
  pub open_more : (any more : Bool) (xs ys : List ℕ) (n : ℕ) → ((x : ℕ) → IsDue xs x → IsDue ys x) → IsLeftOpen sys words ys more n → AreLeftOpen sys words xs any n → AreLeftOpen sys words ys (any || more) (n + 1)
  open_more any more xs ys n kept here h = λ b lt. dite (ℕ_discrete b n)
      (λ at. subst (λ (k : ℕ). IsLeftOpen sys words ys (any || more) k) (sym at) (here.0, (λ e. here.1 (second any more e))))
      (λ ne. let o : IsLeftOpen sys words xs any b = h b (omega (arith, lt, ne)) in (
        ⊎_elim (λ d. inl (kept b d)) (λ c. inr c) o.0,
        (λ e. o.1 (first any more e)),
      ))

  -- words between that are closed are the least ones
  pub closed_least : (start dirty : List ℕ) (any : Bool) → any ≡ false → IsLeast sys start (least sys start) → AreBetween sys start words → AreLeftOpen sys words dirty any sys.bodies → words ≡ least sys start
  closed_least start dirty any e one between h =
      ext_get_or 0 words (least sys start) (between.0 ∙ sym one.closed.count) (λ w lt.
      let into : w < sys.words = subst (λ (n : ℕ). w < n) between.0 lt in
      same_from_bits (slice_index words w) (slice_index (least sys start) w) (λ i.
      let p = between.2 w into i in
      let q = one.below words (record { count = between.0; closed = λ b inside. (h b inside).1 e }) between.1 w into i in
      omega (arith, p, q)))
