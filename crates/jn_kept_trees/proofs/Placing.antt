-- Lists that are filled one place after the other.
use Rattle.std.proofs.Common.{◌≡◌, ◌≢◌, ℕ, zero, suc, Bool, true, false, refl, ◌+◌, ◌<◌, ◌≤◌, ◌⊎◌, inl, inr, List, length, get_or, sym, ap, ◌∙◌, subst, arith}
use Rattle.std.specs.Prelude.{nat_eq, slice_set}
use Rattle.std.proofs.lemmas.Bool.{false≢true, eqb-true, eq-eqb}
use Rattle.std.proofs.lemmas.List.{get_or_default, get_or-set_other, get_or-set_same}
use Rattle.jn_base.specs.declared.number.NameNo.{NameNo}
use Rattle.jn_renumber.proofs.Entries.{numbered}
use Rattle.jn_kept_trees.specs.Shifts.{AreConsistent}

pub before_or_at : (i n : ℕ) → i < n + 1 → (i < n) ⊎ (i ≡ n)
before_or_at zero zero lt = inr refl
before_or_at zero (suc n) lt = inl (omega arith)
before_or_at (suc i) zero lt = absurd (omega (arith, lt))
before_or_at (suc i) (suc n) lt = up (before_or_at i n (omega (arith, lt)))
  where
    up : (i < n) ⊎ (i ≡ n) → (suc i < suc n) ⊎ (suc i ≡ suc n)
    up (inl below) = inl (omega (arith, below))
    up (inr same) = inr (ap suc same)

decide : (a b : ℕ) → (a ≡ b) ⊎ (a ≢ b)
decide a b = go (nat_eq a b) refl
  where
    go : (x : Bool) → nat_eq a b ≡ x → (a ≡ b) ⊎ (a ≢ b)
    go true e = inl (eqb-true a b e)
    go false e = inr (λ s. false≢true (sym e ∙ eq-eqb a b s))

same_number : (m n : NameNo) → m.0 ≡ n.0 → m ≡ n
same_number m n e = ap numbered e

pub above_more : (numbers : List NameNo) (at size next : ℕ) (d : NameNo) → at < length numbers → ((i : ℕ) (e : NameNo) → i < at → (get_or numbers i e).0 < size) → size ≤ next → (get_or numbers at d).0 + 1 ≤ next → (i : ℕ) (e : NameNo) → i < at + 1 → (get_or numbers i e).0 < next
above_more numbers at size next d inside so le here i e lt = go (before_or_at i at lt)
  where
    go : (i < at) ⊎ (i ≡ at) → (get_or numbers i e).0 < next
    go (inl below) = let h = so i e below in omega (arith, h, le)
    go (inr same) =
        let there : (get_or numbers i e).0 ≡ (get_or numbers at d).0 = ap (λ j. (get_or numbers j e).0) same ∙ ap (λ (n : NameNo). n.0) (get_or_default numbers at e d inside) in
        omega (arith, there, here)

-- one number more is put at its old one
pub put_more : (old new shift after : List NameNo) (at : ℕ) (x y : NameNo) → length new ≡ length old → AreConsistent old new → at < length old → (get_or old at x).0 < length shift → ((i : ℕ) (d e f : NameNo) → i < at → get_or shift (get_or old i d).0 e ≡ get_or new i f) → after ≡ slice_set shift (get_or old at x).0 (get_or new at y) → (i : ℕ) (d e f : NameNo) → i < at + 1 → get_or after (get_or old i d).0 e ≡ get_or new i f
put_more old new shift after at x y long consistent inside room so put i d e f lt = go (before_or_at i at lt)
  where
    place : ℕ
    place = (get_or old at x).0

    here : (j : ℕ) → j ≡ at → get_or after (get_or old j d).0 e ≡ get_or new j f
    here j same =
        let number : (get_or old j d).0 ≡ place = ap (λ k. (get_or old k d).0) same ∙ ap (λ (n : NameNo). n.0) (get_or_default old at d x inside) in
        ap (λ k. get_or after k e) number ∙ ap (λ (ns : List NameNo). get_or ns place e) put ∙ get_or-set_same shift place (get_or new at y) e room
        ∙ get_or_default new at y f (subst (λ m. at < m) (sym long) inside) ∙ ap (λ k. get_or new k f) (sym same)

    other : i < at → ((get_or old i d).0 ≡ place) ⊎ ((get_or old i d).0 ≢ place) → get_or after (get_or old i d).0 e ≡ get_or new i f
    other below (inl same) =
        ap (λ k. get_or after k e) same ∙ ap (λ (ns : List NameNo). get_or ns place e) put ∙ get_or-set_same shift place (get_or new at y) e room
        ∙ get_or_default new at y f (subst (λ m. at < m) (sym long) inside)
        ∙ consistent at i x f inside (omega (arith, below, inside)) (same_number (get_or old at x) (get_or old i x) (sym same ∙ ap (λ (n : NameNo). n.0) (get_or_default old i d x (omega (arith, below, inside)))))
    other below (inr apart) = ap (λ (ns : List NameNo). get_or ns (get_or old i d).0 e) put ∙ get_or-set_other shift place (get_or old i d).0 (get_or new at y) e apart ∙ so i d e f below

    go : (i < at) ⊎ (i ≡ at) → get_or after (get_or old i d).0 e ≡ get_or new i f
    go (inl below) = other below (decide (get_or old i d).0 place)
    go (inr same) = here i same
