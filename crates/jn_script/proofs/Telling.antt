-- The step of a line's words.
use Rattle.std.proofs.Common.{◌≡◌, ℕ, true, false, List, [], ◌∷◌, Some, None, sym, ap, ◌∙◌, subst}
use Rattle.std.specs.Prelude.{bytes_eq, codes}
use Rattle.std.proofs.lemmas.Slice.Eq.{bytes_eq-Decides}
use Rattle.jn_script.specs.declared.step.Step.{Step}
use Rattle.jn_script.specs.declared.step.Step.TheVariants.{Empty, Set, Remove, Check}
use Rattle.jn_script.specs.Script.{IsName}
use Rattle.jn_script.specs.Telling.{AreWordsOf, IsToldOf}

pub same_text : (xs ys : List ℕ) → bytes_eq xs ys ≡ true → xs ≡ ys
same_text xs ys e = (bytes_eq-Decides xs ys).0 e

differ : false ≡ true → ⊥
differ e = cc

pub other_text : (xs ys : List ℕ) → bytes_eq xs ys ≡ false → xs ≡ ys → ⊥
other_text xs ys e same = differ (sym e ∙ (bytes_eq-Decides xs ys).1 same)

-- lists of words by their length
first_is : (x y : List ℕ) (xs ys : List (List ℕ)) → x ∷ xs ≡ y ∷ ys → x ≡ y
first_is x y xs ys e = cc

rest_is : (x y : List ℕ) (xs ys : List (List ℕ)) → x ∷ xs ≡ y ∷ ys → xs ≡ ys
rest_is x y xs ys e = cc

none_is : (x : List ℕ) (xs : List (List ℕ)) → x ∷ xs ≡ [] → ⊥
none_is x xs e = cc

is_none : (x : List ℕ) (xs : List (List ℕ)) → [] ≡ x ∷ xs → ⊥
is_none x xs e = cc

-- ---- one word

pub told_empty : (word : List ℕ) → word ≡ [] → IsToldOf (word ∷ []) (Some Empty)
told_empty word e = (ap (λ w. w ∷ []) e, tt)

pub told_check : (word : List ℕ) → bytes_eq word (codes "check") ≡ true → IsToldOf (word ∷ []) (Some Check)
told_check word e = (ap (λ w. w ∷ []) (same_text word (codes "check") e), tt)

pub told_no_word : (word : List ℕ) → (word ≡ [] → ⊥) → bytes_eq word (codes "check") ≡ false → IsToldOf (word ∷ []) None
told_no_word word some e Empty a = some (first_is word [] [] [] a.0)
told_no_word word some e (Set name file) a = is_none name (file ∷ []) (rest_is word (codes "set") [] (name ∷ file ∷ []) a.0)
told_no_word word some e (Remove name) a = is_none name [] (rest_is word (codes "drop") [] (name ∷ []) a.0)
told_no_word word some e Check a = other_text word (codes "check") e (first_is word (codes "check") [] [] a.0)

-- ---- two words

pub told_removal : (word name text : List ℕ) → bytes_eq word (codes "drop") ≡ true → IsName name → text ≡ name → IsToldOf (word ∷ name ∷ []) (Some (Remove text))
told_removal word name text e is same = subst (λ t. IsToldOf (word ∷ name ∷ []) (Some (Remove t))) (sym same) (ap (λ w. w ∷ name ∷ []) (same_text word (codes "drop") e), is)

only_removal : (word name : List ℕ) (step : Step) → AreWordsOf (word ∷ name ∷ []) step → (word ≡ codes "drop") × IsName name
only_removal word name Empty a = absurd (none_is name [] (rest_is word [] (name ∷ []) [] a.0))
only_removal word name (Set other file) a = absurd (is_none file [] (rest_is name other [] (file ∷ []) (rest_is word (codes "set") (name ∷ []) (other ∷ file ∷ []) a.0)))
only_removal word name (Remove other) a = (first_is word (codes "drop") (name ∷ []) (other ∷ []) a.0, subst IsName (sym (first_is name other [] [] (rest_is word (codes "drop") (name ∷ []) (other ∷ []) a.0))) a.1)
only_removal word name Check a = absurd (none_is name [] (rest_is word (codes "check") (name ∷ []) [] a.0))

pub told_no_removal : (word name : List ℕ) → bytes_eq word (codes "drop") ≡ false → IsToldOf (word ∷ name ∷ []) None
told_no_removal word name e step a = other_text word (codes "drop") e (only_removal word name step a).0

pub told_no_removed : (word name : List ℕ) → (IsName name → ⊥) → IsToldOf (word ∷ name ∷ []) None
told_no_removed word name e step a = e (only_removal word name step a).1

-- ---- three words

pub told_setting : (word name file text other : List ℕ) → bytes_eq word (codes "set") ≡ true → IsName name → IsName file → text ≡ name → other ≡ file → IsToldOf (word ∷ name ∷ file ∷ []) (Some (Set text other))
told_setting word name file text other e one two same also =
    subst (λ t. IsToldOf (word ∷ name ∷ file ∷ []) (Some (Set t other))) (sym same)
    (subst (λ t. IsToldOf (word ∷ name ∷ file ∷ []) (Some (Set name t))) (sym also) (ap (λ w. w ∷ name ∷ file ∷ []) (same_text word (codes "set") e), (one, two)))

only_setting : (word name file : List ℕ) (step : Step) → AreWordsOf (word ∷ name ∷ file ∷ []) step → (word ≡ codes "set") × IsName name × IsName file
only_setting word name file Empty a = absurd (none_is name (file ∷ []) (rest_is word [] (name ∷ file ∷ []) [] a.0))
only_setting word name file (Set one two) a =
    let behind = rest_is word (codes "set") (name ∷ file ∷ []) (one ∷ two ∷ []) a.0 in
    (first_is word (codes "set") (name ∷ file ∷ []) (one ∷ two ∷ []) a.0, subst IsName (sym (first_is name one (file ∷ []) (two ∷ []) behind)) a.1.0, subst IsName (sym (first_is file two [] [] (rest_is name one (file ∷ []) (two ∷ []) behind))) a.1.1)
only_setting word name file (Remove other) a = absurd (none_is file [] (rest_is name other (file ∷ []) [] (rest_is word (codes "drop") (name ∷ file ∷ []) (other ∷ []) a.0)))
only_setting word name file Check a = absurd (none_is name (file ∷ []) (rest_is word (codes "check") (name ∷ file ∷ []) [] a.0))

pub told_no_setting : (word name file : List ℕ) → bytes_eq word (codes "set") ≡ false → IsToldOf (word ∷ name ∷ file ∷ []) None
told_no_setting word name file e step a = other_text word (codes "set") e (only_setting word name file step a).0

pub told_no_set : (word name file : List ℕ) → (IsName name → ⊥) → IsToldOf (word ∷ name ∷ file ∷ []) None
told_no_set word name file e step a = e (only_setting word name file step a).1

pub told_no_file : (word name file : List ℕ) → (IsName file → ⊥) → IsToldOf (word ∷ name ∷ file ∷ []) None
told_no_file word name file e step a = e (only_setting word name file step a).2
