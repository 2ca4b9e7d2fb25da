-- What names that are merged find by their entries.
use Rattle.std.proofs.Common.{◌≡◌, ℕ, suc, ◌+◌, Bool, true, false, cond, not, ◌||◌, List, [], ◌∷◌, ◌++◌, refl, sym, ap, ◌∙◌, subst, arith}
use Rattle.std.specs.Prelude.{bytes_eq, get_or}
use Rattle.std.specs.List.{list_any, position_or_len}
use Rattle.std.specs.Cmp.Lexicographic.{bytes_decides}
use Rattle.std.proofs.lemmas.Bool.{false≢true}
use Rattle.jn_base.specs.declared.number.NameNo.{NameNo}
use Rattle.jn_trees.specs.Names.{with_name, number_in}
use Rattle.jn_renumber.specs.Names.{entry}
use Rattle.jn_renumber.specs.Merged.{merged, merged_numbers}
use Rattle.jn_renumber.proofs.Interning.{merged_more}

-- the text is among the names
abbrev pub has : List (List ℕ) → List ℕ → Bool
has names text = list_any (bytes_eq text) names

module _ {A : Type 0} (p : A → Bool) where
  pub front : (xs ys : List A) → list_any p xs ≡ true → (list_any p (xs ++ ys) ≡ true) × (position_or_len p (xs ++ ys) ≡ position_or_len p xs)
  front [] ys h = absurd (false≢true h)
  front (x ∷ xs) ys h = here (p x) (front xs ys) h
    where
      here : (b : Bool) → (list_any p xs ≡ true → (list_any p (xs ++ ys) ≡ true) × (position_or_len p (xs ++ ys) ≡ position_or_len p xs)) → (b || list_any p xs) ≡ true → ((b || list_any p (xs ++ ys)) ≡ true) × (cond (not b) (1 + position_or_len p (xs ++ ys)) 0 ≡ cond (not b) (1 + position_or_len p xs) 0)
      here true f h = (refl, refl)
      here false f h = ((f h).0, ap (λ n. 1 + n) (f h).1)

  last : (xs : List A) (y : A) → p y ≡ true → (list_any p (xs ++ y ∷ []) ≡ true) × (position_or_len p (xs ++ y ∷ []) ≡ position_or_len p xs)
  last [] y h = (ap (λ b. b || false) h, ap (λ b. cond (not b) 1 0) h)
  last (x ∷ xs) y h = here (p x) (last xs y h)
    where
      here : (b : Bool) → (list_any p (xs ++ y ∷ []) ≡ true) × (position_or_len p (xs ++ y ∷ []) ≡ position_or_len p xs) → ((b || list_any p (xs ++ y ∷ [])) ≡ true) × (cond (not b) (1 + position_or_len p (xs ++ y ∷ [])) 0 ≡ cond (not b) (1 + position_or_len p xs) 0)
      here true f = (refl, refl)
      here false f = (f.0, ap (λ n. 1 + n) f.1)

same_text : (text : List ℕ) → bytes_eq text text ≡ true
same_text text = (bytes_decides text text).1 refl

-- a name that is there stays, with its number
one_stays : (names : List (List ℕ)) (text other : List ℕ) → has names text ≡ true → (has (with_name names other) text ≡ true) × (number_in (with_name names other) text ≡ number_in names text)
one_stays names text other h = here (has names other)
  where
    here : (b : Bool) → (has (cond b names (names ++ other ∷ [])) text ≡ true) × (number_in (cond b names (names ++ other ∷ [])) text ≡ number_in names text)
    here true = (h, refl)
    here false = front (bytes_eq text) names (other ∷ []) h

-- a name that is added is there
pub added : (names : List (List ℕ)) (text : List ℕ) → (has (with_name names text) text ≡ true) × (number_in (with_name names text) text ≡ number_in names text)
added names text = here (has names text) refl
  where
    here : (b : Bool) → has names text ≡ b → (has (cond b names (names ++ text ∷ [])) text ≡ true) × (number_in (cond b names (names ++ text ∷ [])) text ≡ number_in names text)
    here true e = (e, refl)
    here false e = last (bytes_eq text) names text (same_text text)

pub stays : (names others : List (List ℕ)) (text : List ℕ) → has names text ≡ true → (has (merged names others) text ≡ true) × (number_in (merged names others) text ≡ number_in names text)
stays names [] text h = (h, refl)
stays names (other ∷ others) text h =
    let one = one_stays names text other h in
    let all = stays (with_name names other) others text one.0 in
    (all.0, all.1 ∙ one.1)

-- a name of the others is there once they are merged
merged_has : (names others : List (List ℕ)) (text : List ℕ) → has others text ≡ true → has (merged names others) text ≡ true
merged_has names [] text h = absurd (false≢true h)
merged_has names (x ∷ others) text h = here (bytes_eq text x) refl (merged_has (with_name names x) others text) h
  where
    here : (b : Bool) → bytes_eq text x ≡ b → (has others text ≡ true → has (merged (with_name names x) others) text ≡ true) → (b || has others text) ≡ true → has (merged (with_name names x) others) text ≡ true
    here true e f h =
        let same : text ≡ x = (bytes_decides text x).0 e in
        (stays (with_name names x) others text (subst (λ t. has (with_name names x) t ≡ true) (sym same) (added names x).0)).0
    here false e f h = f h

known_kept : (names : List (List ℕ)) (text : List ℕ) → has names text ≡ true → with_name names text ≡ names
known_kept names text h = ap (λ b. cond b names (names ++ text ∷ [])) h

-- merging a list with one more name is merging it and then adding that name
pub merged_with : (all own : List (List ℕ)) (text : List ℕ) → merged all (with_name own text) ≡ with_name (merged all own) text
merged_with all own text = here (has own text) refl
  where
    here : (b : Bool) → has own text ≡ b → merged all (cond b own (own ++ text ∷ [])) ≡ with_name (merged all own) text
    here true e = sym (known_kept (merged all own) text (merged_has all own text e))
    here false e = merged_more all own text

abbrev pub numbered : ℕ → NameNo
numbered n = record { 0 = n }

step : (x : List ℕ) (names : List (List ℕ)) (text : List ℕ) (b : Bool) → cond b (x ∷ names) ((x ∷ names) ++ text ∷ []) ≡ x ∷ cond b names (names ++ text ∷ [])
step x names text true = refl
step x names text false = refl

-- the entry of a name's own number is its number among all
pub entry_is : (all own more : List (List ℕ)) (text : List ℕ) (d : NameNo) → get_or (merged_numbers all (with_name own text ++ more)) (number_in own text) d ≡ numbered (number_in (merged all own) text)
entry_is all [] more text d = refl
entry_is all (x ∷ own) more text d = here (bytes_eq text x) refl (entry_is (with_name all x) own more text d)
  where
    here : (b : Bool) → bytes_eq text x ≡ b → get_or (merged_numbers (with_name all x) (with_name own text ++ more)) (number_in own text) d ≡ numbered (number_in (merged (with_name all x) own) text) → get_or (merged_numbers all (cond (b || has own text) (x ∷ own) ((x ∷ own) ++ text ∷ []) ++ more)) (cond (not b) (1 + number_in own text) 0) d ≡ numbered (number_in (merged (with_name all x) own) text)
    here true e ih =
        let same : text ≡ x = (bytes_decides text x).0 e in
        ap numbered (subst (λ t. number_in all x ≡ number_in (merged (with_name all x) own) t) (sym same)
        (sym ((stays (with_name all x) own x (added all x).0).1 ∙ (added all x).1)))
    here false e ih =
        let one : 1 + number_in own text ≡ suc (number_in own text) = omega arith in
        subst (λ n. get_or (merged_numbers all (cond (has own text) (x ∷ own) ((x ∷ own) ++ text ∷ []) ++ more)) n d ≡ numbered (number_in (merged (with_name all x) own) text)) (sym one)
        (subst (λ l. get_or (merged_numbers all (l ++ more)) (suc (number_in own text)) d ≡ numbered (number_in (merged (with_name all x) own) text)) (sym (step x own text (has own text)))
        ih)

-- what has the known names has them still when others are merged into it
pub still_known : (all own known : List (List ℕ)) → merged all known ≡ all → merged (merged all own) known ≡ merged all own
still_known all [] known h = h
still_known all (text ∷ own) known h = still_known (with_name all text) own known (one_more known all h)
  where
    all_had : (known names : List (List ℕ)) → ((t : List ℕ) → has known t ≡ true → has names t ≡ true) → merged names known ≡ names
    all_had [] names f = refl
    all_had (x ∷ known) names f =
        let here : has names x ≡ true = f x (ap (λ b. b || has known x) (same_text x)) in
        subst (λ l. merged l known ≡ names) (sym (known_kept names x here)) (all_had known names (λ t h. f t (tail (bytes_eq t x) (has known t) h)))
      where
        tail : (a b : Bool) → b ≡ true → (a || b) ≡ true
        tail true b h = refl
        tail false b h = h

    one_more : (known names : List (List ℕ)) → merged names known ≡ names → merged (with_name names text) known ≡ with_name names text
    one_more known names h = all_had known (with_name names text) (λ t e. (one_stays names t text (subst (λ l. has l t ≡ true) h (merged_has names known t e))).0)

pub entry_found : (all own more : List (List ℕ)) (text : List ℕ) (number : NameNo) → number.0 ≡ number_in own text → (entry (merged_numbers all (with_name own text ++ more)) number).0 ≡ number_in (merged all own) text
entry_found all own more text number e =
    ap (λ n. (get_or (merged_numbers all (with_name own text ++ more)) n number).0) e ∙ ap (λ (m : NameNo). m.0) (entry_is all own more text number)
