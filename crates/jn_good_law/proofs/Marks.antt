-- Marks after other marks: which objects were free before.
use Rattle.std.proofs.Common.{◌≡◌, ℕ, Bool, true, false, ◌⊎◌, inl, inr, List, ◌∷◌, Option, Some, None, refl, sym, ap, ◌∙◌, subst, cond}
use Rattle.std.specs.Prelude.{eqb}
use Rattle.jn_soundness.proofs.Basics.{eqb_cases}
use Rattle.jn_soundness.proofs.Grows.{mark_same, mark_other}
use Rattle.jn_soundness.specs.Marks.{Committed, Marks, Free, ObjMark, Unborn, with_mark, commit_mark, ended_mark, end_on, close_era}
use Rattle.jn_soundness.specs.Heaps.{IsMember}
use Rattle.jn_soundness.proofs.Eras.{free_still}

-- the object was free before, with no class ended that isn't now
pub record FreeBefore (m : ℕ → ObjMark) (o a : ℕ) (ended : List ℕ) : Type 0 where
  pub before : List ℕ
  pub was : m o ≡ Free a before
  pub more : (d : ℕ) → IsMember d before → IsMember d ended

-- marks after other marks, for all that is born
pub record After (m n : ℕ → ObjMark) : Type 0 where
  pub born : (o : ℕ) → (m o ≡ Unborn → ⊥) → n o ≡ Unborn → ⊥
  pub free : (o a : ℕ) (ended : List ℕ) → (m o ≡ Unborn → ⊥) → n o ≡ Free a ended → FreeBefore m o a ended

pub after_itself : (m : Marks) → After m m
after_itself m = record { born = λ o b. b; free = λ o a ended b h. record { before = ended; was = h; more = λ d x. x } }

-- a thing is made
pub after_birth : (m : Marks) (i : ℕ) (k : ObjMark) → m i ≡ Unborn → After m (with_mark m i k)
after_birth m i k u = record { born = λ o b h. b (sym (same o b) ∙ h); free = λ o a ended b h. record { before = ended; was = sym (same o b) ∙ h; more = λ d x. x } }
  where
    same : (o : ℕ) → (m o ≡ Unborn → ⊥) → with_mark m i k o ≡ m o
    same o b = mark_other m i o k (λ e. b (ap m e ∙ u))

-- a class ends
module _ (m : Marks) (i d : ℕ) where
  ended_free : (o a : ℕ) (ended : List ℕ) (k : ObjMark) → m o ≡ k → ended_mark d k ≡ Free a ended → FreeBefore m o a ended
  ended_free o a ended Unborn e h = cc
  ended_free o a ended Committed e h = cc
  ended_free o a ended (Free b l) e h =
      let era : b ≡ a = cc in
      let list : d ∷ l ≡ ended = cc in
      record { before = l; was = e ∙ ap (λ x. Free x l) era; more = λ c x. subst (λ y. IsMember c y) list (inr x) }

  ended_by : (o a : ℕ) (ended : List ℕ) → (o ≡ i) ⊎ (o ≡ i → ⊥) → with_mark m i (ended_mark d (m i)) o ≡ Free a ended → FreeBefore m o a ended
  ended_by o a ended (inl e) h = ended_free o a ended (m o) refl (ap (λ x. ended_mark d (m x)) e ∙ (sym (ap (with_mark m i (ended_mark d (m i))) e ∙ mark_same m i (ended_mark d (m i))) ∙ h))
  ended_by o a ended (inr n) h = record { before = ended; was = sym (mark_other m i o (ended_mark d (m i)) n) ∙ h; more = λ c x. x }

  pub ended_before : (o a : ℕ) (ended : List ℕ) → with_mark m i (ended_mark d (m i)) o ≡ Free a ended → FreeBefore m o a ended
  ended_before o a ended h = ended_by o a ended (eqb_cases o i) h

  unborn_mark : (k : ObjMark) → ended_mark d k ≡ Unborn → k ≡ Unborn
  unborn_mark Unborn h = refl
  unborn_mark Committed h = cc
  unborn_mark (Free b l) h = cc

  ended_born : (o : ℕ) → (o ≡ i) ⊎ (o ≡ i → ⊥) → with_mark m i (ended_mark d (m i)) o ≡ Unborn → m o ≡ Unborn
  ended_born o (inl e) h = ap m e ∙ unborn_mark (m i) (sym (ap (with_mark m i (ended_mark d (m i))) e ∙ mark_same m i (ended_mark d (m i))) ∙ h)
  ended_born o (inr n) h = sym (mark_other m i o (ended_mark d (m i)) n) ∙ h

  -- the class is among those ended on the object
  has_ended : (a : ℕ) (ended : List ℕ) (k : ObjMark) → ended_mark d k ≡ Free a ended → IsMember d ended
  has_ended a ended Unborn h = cc
  has_ended a ended Committed h = cc
  has_ended a ended (Free b l) h = let list : d ∷ l ≡ ended = cc in subst (λ y. IsMember d y) list (inl refl)

  pub now_ended : (a : ℕ) (ended : List ℕ) → with_mark m i (ended_mark d (m i)) i ≡ Free a ended → IsMember d ended
  now_ended a ended h = has_ended a ended (m i) (sym (mark_same m i (ended_mark d (m i))) ∙ h)

  pub after_end : After m (with_mark m i (ended_mark d (m i)))
  after_end = record { born = λ o b h. b (ended_born o (eqb_cases o i) h); free = λ o a ended b h. ended_before o a ended h }

-- an era ends
commit_unborn : (e : ℕ) (k : ObjMark) → commit_mark e k ≡ Unborn → k ≡ Unborn
commit_unborn e Unborn h = refl
commit_unborn e Committed h = cc
commit_unborn e (Free a l) h = by (eqb a e) h
  where
    by : (t : Bool) → cond t Committed (Free a l) ≡ Unborn → Free a l ≡ Unborn
    by true h = cc
    by false h = h

close_free : (m : Marks) (e o a : ℕ) (t : Bool) (ended : List ℕ) → close_era m e t o ≡ Free a ended → m o ≡ Free a ended
close_free m e o a true ended h = (free_still e a ended (m o) h).0
close_free m e o a false ended h = h

close_unborn : (m : Marks) (e o : ℕ) (t : Bool) → close_era m e t o ≡ Unborn → m o ≡ Unborn
close_unborn m e o true h = commit_unborn e (m o) h
close_unborn m e o false h = h

-- a frame returns
module _ (m : Marks) (d e : ℕ) (t : Bool) where
  end_before : (x : Option ℕ) (o a : ℕ) (ended : List ℕ) → end_on m x d o ≡ Free a ended → FreeBefore m o a ended
  end_before None o a ended h = record { before = ended; was = h; more = λ c y. y }
  end_before (Some i) o a ended h = ended_before m i d o a ended h

  pub left_before : (x : Option ℕ) (o a : ℕ) (ended : List ℕ) → close_era (end_on m x d) e t o ≡ Free a ended → FreeBefore m o a ended
  left_before x o a ended h = end_before x o a ended (close_free (end_on m x d) e o a t ended h)

  end_after : (x : Option ℕ) → After m (end_on m x d)
  end_after None = after_itself m
  end_after (Some i) = after_end m i d

  pub left_after : (x : Option ℕ) → After m (close_era (end_on m x d) e t)
  left_after x = record { born = λ o b h. (end_after x).born o b (close_unborn (end_on m x d) e o t h); free = λ o a ended b h. left_before x o a ended h }

  pub left_ended : (x : Option ℕ) (i a : ℕ) (ended : List ℕ) → x ≡ Some i → close_era (end_on m x d) e t i ≡ Free a ended → IsMember d ended
  left_ended x i a ended is h = now_ended m i d a ended (subst (λ y. end_on m y d i ≡ Free a ended) is (close_free (end_on m x d) e i a t ended h))
