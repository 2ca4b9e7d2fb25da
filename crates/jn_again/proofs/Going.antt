-- Solving on: the words that stand lie between, and bodies that aren't dirty are closed.
use Rattle.std.proofs.Common.{◌≡◌, ◌⊎◌, inl, inr, ℕ, ◌+◌, ◌/◌, ◌<◌, Bool, false, List, length, bit_xor, ⊎_elim, sym, ap, ◌∙◌, subst, arith}
use mathlib.Core.Logic.{dite}
use native.Mathlib.Decide.{ℕ_discrete}
use Rattle.std.specs.Prelude.{slice_index}
use Rattle.jn_sigtable.specs.System.{System}
use Rattle.jn_sigtable.specs.Machine.{dirty_words}
use Rattle.jn_worklist.specs.Drains.{IsDirtyOrClosed}
use Rattle.jn_worklist.specs.Plans.{IsDue}
use Rattle.jn_resume.specs.Keepable.{IsEditOf, StandsApart}
use Rattle.jn_resume.proofs.Edits.{old_least, stays_closed}
use Rattle.jn_again.specs.Losing.{told}

-- bodies that are marked or stand apart
module _ (changed : List Bool) (reach : System) (bits : List ℕ) where
  abbrev pub AreTold : List ℕ → ℕ → Type 0
  AreTold dirty n = (b : ℕ) → b < n → IsDue dirty b ⊎ ((told changed b ≡ false) × StandsApart reach (slice_index bits) b)

  pub told_none : (dirty : List ℕ) → AreTold dirty 0
  told_none dirty = λ b lt. absurd (omega (arith, lt))

  pub told_more : (dirty more : List ℕ) (n : ℕ) → ((x : ℕ) → IsDue dirty x → IsDue more x) → (IsDue more n ⊎ ((told changed n ≡ false) × StandsApart reach (slice_index bits) n)) → AreTold dirty n → AreTold more (n + 1)
  told_more dirty more n kept here h = λ b lt. dite (ℕ_discrete b n)
      (λ at. subst (λ (k : ℕ). IsDue more k ⊎ ((told changed k ≡ false) × StandsApart reach (slice_index bits) k)) (sym at) here)
      (λ ne. ⊎_elim (λ d. inl (kept b d)) (λ a. inr a) (h b (omega (arith, lt, ne))))

module _ (old new : System) (before start last : List ℕ) (changed : List Bool) (e : IsEditOf old new before start last (told changed)) where
  pub last_long : length last ≡ old.words
  last_long = (old_least old new before start last (told changed) e).closed.count

  pub each_closed : (reach : System) (words moved dirty : List ℕ) → reach ≡ old → length words ≡ length start
      → ((w : ℕ) → w < length last → slice_index moved w ≡ bit_xor (slice_index last w) (slice_index words w))
      → AreTold changed reach moved dirty reach.bodies
      → (b : ℕ) → b < new.bodies → IsDirtyOrClosed new words dirty b
  each_closed reach words moved dirty same long masks are b lt =
      let inside : b < reach.bodies = subst (λ (n : ℕ). b < n) (sym e.agrees.bodies ∙ ap (λ (s : System). s.bodies) (sym same)) lt in
      ⊎_elim (λ d. inl d)
      (λ a. inr (stays_closed old new before start last words moved (told changed) b e (long ∙ e.start_count) lt a.0
      (λ w wlt. masks w (subst (λ (n : ℕ). w < n) (sym e.agrees.words ∙ sym last_long) wlt))
      (subst (λ (s : System). StandsApart s (slice_index moved) b) same a.1)))
      (are b inside)

  pub room_same : (reach : System) → reach ≡ old → dirty_words reach ≡ dirty_words new
  room_same reach same = ap dirty_words same ∙ ap (λ (n : ℕ). (n + 63) / 64) e.agrees.bodies
