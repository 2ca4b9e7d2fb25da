-- Each free object has the era of a frame, after each change of marks.
use Rattle.std.proofs.Common.{◌≡◌, ℕ, Bool, true, false, ◌⊎◌, inl, inr, List, ◌∷◌, refl, ◌∙◌, subst, cond}
use Rattle.std.specs.Prelude.{eqb}
use Rattle.std.proofs.lemmas.Bool.{eqb-false}
use Rattle.jn_soundness.specs.Marks.{ObjMark, Unborn, Committed, Free, FrameMark, Marks, with_mark, commit_mark}
use Rattle.jn_soundness.specs.Heaps.{IsEra}

module _ (m : Marks) (i : ℕ) (k : ObjMark) where
  by_mark : (t : Bool) (o a : ℕ) (l : List ℕ) → cond t k (m o) ≡ Free a l → (k ≡ Free a l) ⊎ (m o ≡ Free a l)
  by_mark true o a l h = inl h
  by_mark false o a l h = inr h

  -- a free object is the one whose mark was set, or was free
  pub marked_free : (o a : ℕ) (l : List ℕ) → with_mark m i k o ≡ Free a l → (k ≡ Free a l) ⊎ (m o ≡ Free a l)
  marked_free o a l h = by_mark (eqb o i) o a l h

-- a committed thing is made
pub committed_eras : (m : Marks) (i : ℕ) (gs : List FrameMark) → ((o a : ℕ) (l : List ℕ) → m o ≡ Free a l → IsEra a gs) → (o a : ℕ) (l : List ℕ) → with_mark m i Committed o ≡ Free a l → IsEra a gs
committed_eras m i gs e o a l h = by (marked_free m i Committed o a l h)
  where
    by : (Committed ≡ Free a l) ⊎ (m o ≡ Free a l) → IsEra a gs
    by (inl x) = cc
    by (inr x) = e o a l x

-- an object is free in the era of a frame
pub grown_eras : (m : Marks) (i b : ℕ) (ended : List ℕ) (gs hs : List FrameMark) → ((a : ℕ) → IsEra a gs → IsEra a hs) → IsEra b hs → ((o a : ℕ) (l : List ℕ) → m o ≡ Free a l → IsEra a gs) → (o a : ℕ) (l : List ℕ) → with_mark m i (Free b ended) o ≡ Free a l → IsEra a hs
grown_eras m i b ended gs hs more now e o a l h = by (marked_free m i (Free b ended) o a l h)
  where
    by : (Free b ended ≡ Free a l) ⊎ (m o ≡ Free a l) → IsEra a hs
    by (inl x) = let same : b ≡ a = cc in subst (λ y. IsEra y hs) same now
    by (inr x) = more a (e o a l x)

pub free_still : (e a : ℕ) (l : List ℕ) (k : ObjMark) → commit_mark e k ≡ Free a l → (k ≡ Free a l) × (a ≡ e → ⊥)
free_still e a l Unborn h = cc
free_still e a l Committed h = cc
free_still e a l (Free b ended) h = by (eqb b e) refl h
  where
    by : (t : Bool) → eqb b e ≡ t → cond t Committed (Free b ended) ≡ Free a l → (Free b ended ≡ Free a l) × (a ≡ e → ⊥)
    by true s h = cc
    by false s h = let same : b ≡ a = cc in (h, λ x. eqb-false b e s (same ∙ x))

-- the frame that opened the greatest era returns
pub left_eras : (m : Marks) (g : FrameMark) (hs : List FrameMark) → ((o a : ℕ) (l : List ℕ) → m o ≡ Free a l → IsEra a (g ∷ hs)) → (o a : ℕ) (l : List ℕ) → commit_mark g.era (m o) ≡ Free a l → IsEra a hs
left_eras m g hs e o a l h = let x = free_still g.era a l (m o) h in by x.1 (e o a l x.0)
  where
    by : (a ≡ g.era → ⊥) → IsEra a (g ∷ hs) → IsEra a hs
    by n (inl s) = absurd (n s)
    by n (inr s) = s
