-- Names that are merged one after another.
use Rattle.std.proofs.Common.{◌≡◌, ℕ, ◌+◌, ◌<◌, ◌≤◌, take, length-take, Bool, true, false, List, [], ◌∷◌, ◌++◌, length, refl, sym, ap, ◌∙◌, arith, length-append, Some}
use Rattle.std.proofs.lemmas.List.{take_more}
use Rattle.std.proofs.lemmas.Option.{slice_get_within, get_or_from_slice_get}
use Rattle.std.proofs.lemmas.Bool.{false≢true}
use Rattle.std.specs.Prelude.{bytes_eq, if◌then◌else◌, slice_get}
use Rattle.std.specs.List.{list_any}
use Rattle.jn_base.specs.declared.number.NameNo.{NameNo}
use Rattle.jn_trees.specs.Names.{with_name, number_in}
use Rattle.jn_renumber.specs.Merged.{merged, merged_numbers}

pub merged_more : (names others : List (List ℕ)) (text : List ℕ) → merged names (others ++ text ∷ []) ≡ with_name (merged names others) text
merged_more names [] text = refl
merged_more names (a ∷ others) text = merged_more (with_name names a) others text

pub numbers_more : (names others : List (List ℕ)) (text : List ℕ) → merged_numbers names (others ++ text ∷ []) ≡ merged_numbers names others ++ (record { 0 = number_in (merged names others) text }) ∷ []
numbers_more names [] text = refl
numbers_more names (a ∷ others) text = ap (λ (r : List NameNo). (record { 0 = number_in names a }) ∷ r) (numbers_more (with_name names a) others text)

one_more : (known : Bool) (names : List (List ℕ)) (text : List ℕ) → length (if known then names else names ++ text ∷ []) ≤ length names + 1
one_more true names text = omega arith
one_more false names text = omega (arith, length-append names (text ∷ []))

merged_length : (names others : List (List ℕ)) → length (merged names others) ≤ length names + length others
merged_length names [] = omega arith
merged_length names (b ∷ others) =
    let more = one_more (list_any (bytes_eq b) names) names b in
    let ih = merged_length (with_name names b) others in
    omega (arith, more, ih)

pub short : (old names others : List (List ℕ)) (i : ℕ) → i < length others → names ≡ merged old (take i others) → length old + length others < 4294967295 → length names < 4294967295
short old names others i lt is fits =
    let h = merged_length old (take i others) in
    let e : length names ≡ length (merged old (take i others)) = ap length is in
    omega (arith, h, e, length-take {A = List ℕ})

taken : (others : List (List ℕ)) (i : ℕ) (text : List ℕ) → slice_get others i ≡ Some text → take (i + 1) others ≡ take i others ++ text ∷ []
taken others i text at = take_more others i text (slice_get_within others i text at) ∙ ap (λ t. take i others ++ t ∷ []) (get_or_from_slice_get others i text text at)

pub further : (old names new others : List (List ℕ)) (i : ℕ) (text : List ℕ) → slice_get others i ≡ Some text → names ≡ merged old (take i others) → new ≡ with_name names text → new ≡ merged old (take (i + 1) others)
further old names new others i text at is e =
    e ∙ ap (λ ns. with_name ns text) is ∙ sym (merged_more old (take i others) text) ∙ ap (merged old) (sym (taken others i text at))

pub numbers_further : (old names others : List (List ℕ)) (numbers : List NameNo) (number : NameNo) (i : ℕ) (text : List ℕ) → slice_get others i ≡ Some text → names ≡ merged old (take i others) → numbers ≡ merged_numbers old (take i others) → number.0 ≡ number_in names text → numbers ++ number ∷ [] ≡ merged_numbers old (take (i + 1) others)
numbers_further old names others numbers number i text at is e n =
    let same : number ≡ record { 0 = number_in (merged old (take i others)) text } = ap (λ m. numbered m) (n ∙ ap (λ ns. number_in ns text) is) in
    ap (λ (r : List NameNo). r ++ number ∷ []) e
    ∙ ap (λ (m : NameNo). merged_numbers old (take i others) ++ m ∷ []) same
    ∙ sym (numbers_more old (take i others) text)
    ∙ ap (merged_numbers old) (sym (taken others i text at))
  where
    numbered : ℕ → NameNo
    numbered m = record { 0 = m }

pub pushed : (succeeds : Bool) (new numbers : List NameNo) (number : NameNo) → new ≡ (if succeeds then numbers ++ number ∷ [] else numbers) → succeeds ≡ true → new ≡ numbers ++ number ∷ []
pushed true new numbers number e s = e
pushed false new numbers number e s = absurd (false≢true s)
