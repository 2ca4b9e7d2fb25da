-- Bits that may be lost are found until none is new.
use Rattle.std.proofs.Common.{◌≡◌, inl, inr, ℕ, ◌+◌, ◌<◌, ◌||◌, Bool, true, false, List, length, bit_or, refl, sym, ◌∙◌, subst, arith}
use mathlib.Core.Logic.{dite}
use native.Mathlib.Decide.{ℕ_discrete}
use Rattle.std.specs.Prelude.{slice_index}
use Rattle.jn_base.specs.declared.number.WordNo.{WordNo}
use Rattle.jn_sigtable.specs.System.{IsLeast, System, Within, bits_for}
use Rattle.jn_sigtable.proofs.Bits.{within_or_r, within_trans}
use Rattle.jn_resume.specs.Keepable.{AreKeepable, IsBlind}
use Rattle.jn_again.specs.Losing.{AreGone, Follows, Grows, LoseSent, Lost, told}
use Rattle.jn_again.proofs.Gone.{gone_still, or_grows}

never : true ≡ false → ⊥
never e = cc

module _ (old new : System) (before start last : List ℕ) (changed : List Bool) where
  -- masks that have lost more
  pub sent_still : (n : ℕ) (xs ys : List ℕ) → Grows xs ys → LoseSent old new before start last changed n xs → LoseSent old new before start last changed n ys
  sent_still n xs ys g h = record {
    count = g.0 ∙ h.count;
    started = λ w lt. within_trans _ (bit_or (slice_index start w) (slice_index xs w)) _ (h.started w lt) (or_grows (slice_index start w) (slice_index xs w) (slice_index ys w) (g.1 w));
    sent = λ b lt c. gone_still old.words (bits_for (old.output b last)) (slice_index start) (bits_for (new.output b start)) xs ys g (h.sent b lt c);
  }

  -- one body more
  pub sent_more : (n : ℕ) (xs ys : List ℕ) → Grows xs ys → (told changed n ≡ true → AreGone (length xs) (bits_for (old.output n last)) (slice_index start) (bits_for (new.output n start)) (slice_index ys))
      → LoseSent old new before start last changed n xs → LoseSent old new before start last changed (n + 1) ys
  sent_more n xs ys g here h =
      let s = sent_still n xs ys g h in
      record {
        count = s.count;
        started = s.started;
        sent = λ b lt c. dite (ℕ_discrete b n)
            (λ at. subst (λ (k : ℕ). AreGone old.words (bits_for (old.output k last)) (slice_index start) (bits_for (new.output k start)) (slice_index ys)) (sym at)
            (subst (λ (m : ℕ). AreGone m (bits_for (old.output n last)) (slice_index start) (bits_for (new.output n start)) (slice_index ys)) h.count (here (subst (λ (k : ℕ). told changed k ≡ true) at c))))
            (λ ne. s.sent b (omega (arith, lt, ne)) c);
      }

  pub sent_none : (lost : List ℕ) → length before ≡ old.words → length lost ≡ length before → ((w : ℕ) → w < length before → Within (slice_index before w) (bit_or (slice_index start w) (slice_index lost w))) → LoseSent old new before start last changed 0 lost
  sent_none lost count long h = record {
    count = long ∙ count;
    started = λ w lt. h w (subst (λ (n : ℕ). w < n) (sym count) lt);
    sent = λ b lt c. absurd (omega (arith, lt));
  }

  -- what one body sent
  pub unchanged_sends : (b : ℕ) (lost : List ℕ) → told changed b ≡ false → told changed b ≡ true → AreGone (length lost) (bits_for (old.output b last)) (slice_index start) (bits_for (new.output b start)) (slice_index lost)
  unchanged_sends b lost e c = absurd (never (sym c ∙ e))

  pub sent_gone : (b : ℕ) (puts again : List (WordNo × ℕ)) (n : ℕ) (lost : List ℕ) → puts ≡ old.output b last → again ≡ new.output b start → AreGone n (bits_for puts) (slice_index start) (bits_for again) (slice_index lost)
      → told changed b ≡ true → AreGone n (bits_for (old.output b last)) (slice_index start) (bits_for (new.output b start)) (slice_index lost)
  sent_gone b puts again n lost e f h c = subst (λ (os : List (WordNo × ℕ)). AreGone n (bits_for os) (slice_index start) (bits_for (new.output b start)) (slice_index lost)) e (subst (λ (os : List (WordNo × ℕ)). AreGone n (bits_for puts) (slice_index start) (bits_for os) (slice_index lost)) f h)

  -- a body that loses nothing
  pub changed_follows : (lost : List ℕ) (b : ℕ) → told changed b ≡ true → Lost false lost lost (Follows old start last changed lost b)
  changed_follows lost b c = (refl, λ e. absurd (never (sym c ∙ e)))

  pub blind_follows : (lost : List ℕ) (b : ℕ) → IsBlind old (slice_index lost) b → Lost false lost lost (Follows old start last changed lost b)
  blind_follows lost b blind = (refl, λ e. inl blind)

  pub gone_follows : (lost : List ℕ) (b : ℕ) (puts : List (WordNo × ℕ)) → puts ≡ old.output b last → ((w : ℕ) → Within (bits_for puts w) (bit_or (slice_index start w) (slice_index lost w))) → Lost false lost lost (Follows old start last changed lost b)
  gone_follows lost b puts is h = (refl, λ e. inr (λ w lt. subst (λ (os : List (WordNo × ℕ)). Within (bits_for os w) (bit_or (slice_index start w) (slice_index lost w))) is (h w)))

  -- bodies in turn
  abbrev pub FollowBelow : List ℕ → ℕ → Type 0
  FollowBelow lost n = (b : ℕ) → b < n → Follows old start last changed lost b

  pub follow_none : (lost : List ℕ) → Lost false lost lost (FollowBelow lost 0)
  follow_none lost = (refl, λ b lt. absurd (omega (arith, lt)))

  pub follow_more : (any more : Bool) (first xs ys : List ℕ) (n : ℕ) → Lost any first xs (FollowBelow xs n) → Lost more xs ys (Follows old start last changed ys n) → Lost (any || more) first ys (FollowBelow ys (n + 1))
  follow_more true more first xs ys n h k = tt
  follow_more false true first xs ys n h k = tt
  follow_more false false first xs ys n h k = (
    k.0 ∙ h.0,
    (λ b lt. dite (ℕ_discrete b n)
        (λ at. subst (Follows old start last changed ys) (sym at) k.1)
        (λ ne. subst (λ (l : List ℕ). Follows old start last changed l b) (sym k.0) (h.1 b (omega (arith, lt, ne))))),
  )

  pub follow_all : (any : Bool) (first xs : List ℕ) (n m : ℕ) → n ≡ m → Lost any first xs (FollowBelow xs n) → Lost any first xs (FollowBelow xs m)
  follow_all any first xs n m e h = subst (λ (k : ℕ). Lost any first xs (FollowBelow xs k)) e h

  -- where nothing more was lost
  pub keepable : (more : Bool) (xs ys : List ℕ) → more ≡ false → LoseSent old new before start last changed old.bodies xs → Grows xs ys → Lost more xs ys (FollowBelow ys old.bodies) → AreKeepable old new before start last (told changed) (slice_index ys)
  keepable true xs ys e h g k = absurd (never e)
  keepable false xs ys e h g k =
      let s = sent_still old.bodies xs ys g h in
      record { started = s.started; sent = s.sent; followed = λ b lt c. k.1 b lt c }

  -- where all bits are given up
  pub all_keepable : (lost : List ℕ) → IsLeast old before last → lost ≡ last → AreKeepable old new before start last (told changed) (slice_index lost)
  all_keepable lost is e =
      let puts : (b : ℕ) → b < old.bodies → (w : ℕ) → w < old.words → Within (bits_for (old.output b last) w) (slice_index lost w) = λ b lt w wlt. subst (λ (l : List ℕ). Within (bits_for (old.output b last) w) (slice_index l w)) (sym e) (is.closed.closed b lt w wlt) in
      record {
        started = λ w lt. within_trans _ (slice_index lost w) _ (subst (λ (l : List ℕ). Within (slice_index before w) (slice_index l w)) (sym e) (is.above w lt)) (within_or_r (slice_index start w) (slice_index lost w));
        sent = λ b lt c w wlt. within_trans _ (slice_index lost w) _ (puts b lt w wlt) (within_or_r (bit_or (slice_index start w) (bits_for (new.output b start) w)) (slice_index lost w));
        followed = λ b lt c. inr (λ w wlt. within_trans _ (slice_index lost w) _ (puts b lt w wlt) (within_or_r (slice_index start w) (slice_index lost w)));
      }
