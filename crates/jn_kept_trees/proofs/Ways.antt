-- Numbers of names that are merged into one list and into another.
use Rattle.std.proofs.Common.{◌≡◌, ℕ, zero, suc, ◌<◌, Bool, true, false, cond, List, [], ◌∷◌, ◌++◌, length, Option, Some, None, refl, sym, ap, ◌∙◌, subst, arith}
use Rattle.std.specs.Prelude.{bytes_eq, get_or, slice_get, Vec}
use Rattle.std.specs.List.{list_any}
use Rattle.std.specs.declared.alloc.Global.{Global}
use Rattle.jn_base.specs.declared.number.NameNo.{NameNo}
use Rattle.jn_trees.specs.Names.{with_name, number_in}
use Rattle.jn_trees.proofs.Numbers.{number_found}
use Rattle.jn_renumber.specs.Merged.{merged, merged_numbers}
use Rattle.jn_renumber.proofs.Entries.{added, numbered, stays}
use Rattle.jn_kept_trees.specs.KeptTrees.{AreNumbersOf}
use Rattle.jn_kept_trees.specs.Merges.{HasWay}
use Rattle.jn_kept_trees.specs.Shifts.{AreConsistent}

pub none_is_some : {A : Type 0} (x : A) → ◌≡◌ {A = Option A} None (Some x) → ⊥
none_is_some x e = cc

pub same_some : {A : Type 0} (x y : A) → ◌≡◌ {A = Option A} (Some x) (Some y) → x ≡ y
same_some x y e = cc

pub below_length : {A : Type 0} (xs : List A) (n : ℕ) (x : A) → slice_get xs n ≡ Some x → n < length xs
below_length [] n x h = absurd (none_is_some x h)
below_length (y ∷ xs) zero x h = omega arith
below_length (y ∷ xs) (suc n) x h = let lt = below_length xs n x h in omega (arith, lt)

in_front : (xs ys : List (List ℕ)) (n : ℕ) (text : List ℕ) → slice_get xs n ≡ Some text → slice_get (xs ++ ys) n ≡ Some text
in_front [] ys n text h = absurd (none_is_some text h)
in_front (x ∷ xs) ys zero text h = h
in_front (x ∷ xs) ys (suc n) text h = in_front xs ys n text h

-- a name stays at its place where others are added
pub stays_with : (names : List (List ℕ)) (other : List ℕ) (n : ℕ) (text : List ℕ) → slice_get names n ≡ Some text → slice_get (with_name names other) n ≡ Some text
stays_with names other n text h = here (list_any (bytes_eq other) names)
  where
    here : (b : Bool) → slice_get (cond b names (names ++ other ∷ [])) n ≡ Some text
    here true = h
    here false = in_front names (other ∷ []) n text h

stays_merged : (names others : List (List ℕ)) (n : ℕ) (text : List ℕ) → slice_get names n ≡ Some text → slice_get (merged names others) n ≡ Some text
stays_merged names [] n text h = h
stays_merged names (other ∷ others) n text h = stays_merged (with_name names other) others n text (stays_with names other n text h)

-- a name stands at its number
found : (all own : List (List ℕ)) (i : ℕ) (d : NameNo) (text : List ℕ) → slice_get own i ≡ Some text → slice_get (merged all own) (get_or (merged_numbers all own) i d).0 ≡ Some text
found all [] i d text h = absurd (none_is_some text h)
found all (x ∷ own) zero d text h = stays_merged (with_name all x) own (number_in all x) text (number_found all x ∙ h)
found all (x ∷ own) (suc i) d text h = found (with_name all x) own i d text h

-- its number is that of its text
number_is : (all own : List (List ℕ)) (i : ℕ) (d : NameNo) (text : List ℕ) → slice_get own i ≡ Some text → get_or (merged_numbers all own) i d ≡ numbered (number_in (merged all own) text)
number_is all [] i d text h = absurd (none_is_some text h)
number_is all (x ∷ own) zero d text h =
    let more = with_name all x in
    ap numbered (sym (added all x).1 ∙ sym (stays more own x (added all x).0).1 ∙ ap (number_in (merged more own)) (same_some x text h))
number_is all (x ∷ own) (suc i) d text h = number_is (with_name all x) own i d text h

text_at : (own : List (List ℕ)) (i : ℕ) → i < length own → (text : List ℕ) × (slice_get own i ≡ Some text)
text_at [] i lt = absurd (omega (arith, lt))
text_at (x ∷ own) zero lt = (x, refl)
text_at (x ∷ own) (suc i) lt = text_at own i (omega (arith, lt))

pub numbers_long : (all own : List (List ℕ)) → length (merged_numbers all own) ≡ length own
numbers_long all [] = refl
numbers_long all (x ∷ own) = ap suc (numbers_long (with_name all x) own)

consistent : (before all own : List (List ℕ)) → AreConsistent (merged_numbers before own) (merged_numbers all own)
consistent before all own i j d e li lj same =
    let a = text_at own i (subst (λ n. i < n) (numbers_long before own) li) in
    let b = text_at own j (subst (λ n. j < n) (numbers_long before own) lj) in
    let text : a.0 ≡ b.0 = same_some a.0 b.0 (sym (found before own i d a.0 a.1) ∙ ap (λ (n : NameNo). slice_get (merged before own) n.0) same ∙ found before own j d b.0 b.1) in
    number_is all own i e a.0 a.1 ∙ ap (λ t. numbered (number_in (merged all own) t)) text ∙ sym (number_is all own j e b.0 b.1)

-- numbers of names that were merged lead to those that they get where they are merged again
pub has_way : (numbers : Option (Vec NameNo Global)) (own all : List (List ℕ)) → AreNumbersOf numbers own → HasWay numbers (merged_numbers all own)
has_way None own all h = tt
has_way (Some old) own all (before, e) = (
  numbers_long all own ∙ sym (numbers_long before own) ∙ ap length (sym e),
  subst (λ ns. AreConsistent ns (merged_numbers all own)) (sym e) (consistent before all own),
)
