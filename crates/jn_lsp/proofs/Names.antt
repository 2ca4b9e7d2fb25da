-- Files by their names: the first of each.
use Rattle.std.proofs.Common.{◌≡◌, ℕ, zero, suc, ◌+◌, ◌<◌, ◌≤◌, Bool, true, false, not, ◌||◌, List, [], ◌∷◌, ◌++◌, cond, length, map, get_or, take, Some, Option, bytes_eq, append-nil, append_assoc, refl, sym, ap, ◌∙◌, arith}
use Rattle.std.specs.Prelude.{nat_le, slice_get}
use Rattle.std.proofs.lemmas.List.{length-replicate, map_more, map_push, take_more}
use Rattle.std.proofs.lemmas.List.Elements.{filter-append}
use Rattle.std.proofs.lemmas.Slice.Eq.{bytes_eq-Decides}
use Rattle.std.proofs.lemmas.Bool.Decides.{nat_tests}
use Rattle.std.specs.Bool.{one_answer}
use Rattle.jn_front.specs.declared.source.SourceFile.{SourceFile}
use Rattle.jn_front.specs.Files.{names_of}
use Rattle.jn_recheck.specs.Files.{AllFit, HaveOwnNames, is_named}
use Rattle.jn_lsp.specs.Stand.{document_of, document_or, firsts, fitted, has_name, others, spaces, stand, standing, with_new}

pub both_ways : (a b : List ℕ) → bytes_eq a b ≡ bytes_eq b a
both_ways a b = one_answer (bytes_eq a b) (bytes_eq b a) (bytes_eq-Decides a b) ((λ e. sym ((bytes_eq-Decides b a).0 e)), (λ e. (bytes_eq-Decides b a).1 (sym e)))

pub true_false : {X : Type 0} (b : Bool) → b ≡ true → b ≡ false → X
true_false true t f = clash f
  where
    clash : {X : Type 0} → true ≡ false → X
    clash e = absurd (cc)
true_false false t f = clash t
  where
    clash : {X : Type 0} → false ≡ true → X
    clash e = absurd (cc)

pub or_false : (a b : Bool) → (a || b) ≡ false → (a ≡ false) × (b ≡ false)
or_false true b e = true_false true refl e
or_false false b e = (refl, e)

both_false : (a b : Bool) → a ≡ false → b ≡ false → (a || b) ≡ false
both_false a b e h = ap (λ x. x || b) e ∙ h

-- ---- files of other names

-- a name that no file has, no fewer files have
pub others_lack : (name other : List ℕ) (files : List SourceFile) → has_name other files ≡ false → has_name other (others name files) ≡ false
others_lack name other [] h = refl
others_lack name other (file ∷ files) h = let two = or_false (is_named other file) (has_name other files) h in case (is_named name file) two.0 (others_lack name other files two.1)
  where
    case : (b : Bool) → is_named other file ≡ false → has_name other (others name files) ≡ false → has_name other (cond (not b) (file ∷ others name files) (others name files)) ≡ false
    case true e r = r
    case false e r = both_false (is_named other file) (has_name other (others name files)) e r

-- of other names none has the name
others_gone : (name : List ℕ) (files : List SourceFile) → has_name name (others name files) ≡ false
others_gone name [] = refl
others_gone name (file ∷ files) = case (is_named name file) refl (others_gone name files)
  where
    case : (b : Bool) → is_named name file ≡ b → has_name name (others name files) ≡ false → has_name name (cond (not b) (file ∷ others name files) (others name files)) ≡ false
    case true e r = r
    case false e r = both_false (is_named name file) (has_name name (others name files)) e r

others_has : (name other : List ℕ) (files : List SourceFile) → bytes_eq name other ≡ false → has_name other (others name files) ≡ has_name other files
others_has name other [] ne = refl
others_has name other (file ∷ files) ne = case (is_named name file) (is_named other file) refl refl (others_has name other files ne)
  where
    clash : is_named name file ≡ true → is_named other file ≡ true → bytes_eq name other ≡ true
    clash t u = (bytes_eq-Decides name other).1 (sym ((bytes_eq-Decides file.name name).0 t) ∙ (bytes_eq-Decides file.name other).0 u)

    case : (b c : Bool) → is_named name file ≡ b → is_named other file ≡ c → has_name other (others name files) ≡ has_name other files → has_name other (cond (not b) (file ∷ others name files) (others name files)) ≡ (is_named other file || has_name other files)
    case true true t u r = true_false (bytes_eq name other) (clash t u) ne
    case true false t u r = r ∙ sym (ap (λ x. x || has_name other files) u)
    case false c t u r = ap (λ x. is_named other file || x) r

-- ---- the first of each name

pub step : (x : SourceFile) (ys : List SourceFile) (file : SourceFile) → x ∷ others x.name (with_new ys file) ≡ with_new (x ∷ others x.name ys) file
step x ys file = case (is_named x.name file) (has_name file.name ys) refl refl
  where
    same : (b : Bool) → is_named x.name file ≡ b → is_named file.name x ≡ b
    same b e = both_ways x.name file.name ∙ e

    last : others x.name (ys ++ file ∷ []) ≡ others x.name ys ++ cond (not (is_named x.name file)) (file ∷ []) []
    last = filter-append (λ f. not (is_named x.name f)) ys (file ∷ [])

    right : (b c : Bool) → is_named file.name x ≡ b → has_name file.name (others x.name ys) ≡ c → with_new (x ∷ others x.name ys) file ≡ cond (b || c) (x ∷ others x.name ys) (x ∷ others x.name ys ++ file ∷ [])
    right b c e h = ap (λ t. cond (t || has_name file.name (others x.name ys)) (x ∷ others x.name ys) (x ∷ others x.name ys ++ file ∷ [])) e ∙ ap (λ t. cond (b || t) (x ∷ others x.name ys) (x ∷ others x.name ys ++ file ∷ [])) h

    left : (c : Bool) → has_name file.name ys ≡ c → x ∷ others x.name (with_new ys file) ≡ x ∷ others x.name (cond c ys (ys ++ file ∷ []))
    left c h = ap (λ t. x ∷ others x.name (cond t ys (ys ++ file ∷ []))) h

    case : (b c : Bool) → is_named x.name file ≡ b → has_name file.name ys ≡ c → x ∷ others x.name (with_new ys file) ≡ with_new (x ∷ others x.name ys) file
    case true true e h = left true h ∙ sym (right true (has_name file.name (others x.name ys)) (same true e) refl)
    case true false e h = left false h ∙ ap (λ l. x ∷ l) (last ∙ ap (λ b. others x.name ys ++ cond (not b) (file ∷ []) []) e ∙ append-nil (others x.name ys)) ∙ sym (right true (has_name file.name (others x.name ys)) (same true e) refl)
    case false true e h = left true h ∙ sym (right false true (same false e) (others_has x.name file.name ys (same false e) ∙ h))
    case false false e h = left false h ∙ ap (λ l. x ∷ l) (last ∙ ap (λ b. others x.name ys ++ cond (not b) (file ∷ []) []) e) ∙ sym (right false false (same false e) (others_has x.name file.name ys (same false e) ∙ h))

pub firsts_more : (files : List SourceFile) (file : SourceFile) → firsts (files ++ file ∷ []) ≡ with_new (firsts files) file
firsts_more [] file = refl
firsts_more (x ∷ xs) file = ap (λ ys. x ∷ others x.name ys) (firsts_more xs file) ∙ step x (firsts xs) file

pub first_more : (f : SourceFile → SourceFile) (xs : List SourceFile) (i : ℕ) (d : SourceFile) → i < length xs → with_new (firsts (map f (take i xs))) (f (get_or xs i d)) ≡ firsts (map f (take (i + 1) xs))
first_more f xs i d lt = sym (ap firsts (map_more f xs i d lt) ∙ firsts_more (map f (take i xs)) (f (get_or xs i d)))

pub second_more : (f : SourceFile → SourceFile) (ys xs : List SourceFile) (i : ℕ) (d : SourceFile) → i < length xs → with_new (firsts (map f (ys ++ take i xs))) (f (get_or xs i d)) ≡ firsts (map f (ys ++ take (i + 1) xs))
second_more f ys xs i d lt = sym (ap (λ l. firsts (map f l)) (ap (λ l. ys ++ l) (take_more xs i d lt) ∙ sym (append_assoc ys (take i xs) (get_or xs i d ∷ []))) ∙ ap firsts (map_push f (ys ++ take i xs) (get_or xs i d)) ∙ firsts_more (map f (ys ++ take i xs)) (f (get_or xs i d)))

pub first_put : (documents disk : List SourceFile) (i : ℕ) (item : SourceFile) (old new : List SourceFile) → i < length disk → item ≡ get_or disk i item → old ≡ firsts (map (standing documents) (take i disk)) → new ≡ with_new old (standing documents item) → new ≡ firsts (map (standing documents) (take (i + 1) disk))
first_put documents disk i item old new lt is was e = e ∙ ap (λ l. with_new l (standing documents item)) was ∙ ap (λ x. with_new (firsts (map (standing documents) (take i disk))) (standing documents x)) is ∙ first_more (standing documents) disk i item lt

pub second_put : (documents disk : List SourceFile) (i : ℕ) (item : SourceFile) (old new : List SourceFile) → i < length documents → item ≡ get_or documents i item → old ≡ firsts (map (standing documents) (disk ++ take i documents)) → new ≡ with_new old (standing documents item) → new ≡ firsts (map (standing documents) (disk ++ take (i + 1) documents))
second_put documents disk i item old new lt is was e = e ∙ ap (λ l. with_new l (standing documents item)) was ∙ ap (λ x. with_new (firsts (map (standing documents) (disk ++ take i documents))) (standing documents x)) is ∙ second_more (standing documents) disk documents i item lt

-- ---- names of their own

-- no name comes again
abbrev pub AreOwn : List SourceFile → Type 0
AreOwn [] = Unit {0}
AreOwn (file ∷ files) = (has_name file.name files ≡ false) × AreOwn files

own_others : (name : List ℕ) (files : List SourceFile) → AreOwn files → AreOwn (others name files)
own_others name [] own = tt
own_others name (file ∷ files) own = case (is_named name file) (own_others name files own.1)
  where
    case : (b : Bool) → AreOwn (others name files) → AreOwn (cond (not b) (file ∷ others name files) (others name files))
    case true r = r
    case false r = (others_lack name file.name files own.0, r)

pub firsts_own : (files : List SourceFile) → AreOwn (firsts files)
firsts_own [] = tt
firsts_own (file ∷ files) = (others_gone file.name (firsts files), own_others file.name (firsts files) (firsts_own files))

some_is : (x y : List ℕ) → ◌≡◌ {A = Option (List ℕ)} (Some x) (Some y) → x ≡ y
some_is x y e = cc

found : (name : List ℕ) (files : List SourceFile) (j : ℕ) → slice_get (names_of files) j ≡ Some name → has_name name files ≡ true
found name [] j e = absurd (cc)
found name (file ∷ files) zero e = ap (λ b. b || has_name name files) ((bytes_eq-Decides file.name name).1 (some_is file.name name e))
found name (file ∷ files) (suc j) e = either (is_named name file) (has_name name files) (found name files j e)
  where
    either : (a b : Bool) → b ≡ true → (a || b) ≡ true
    either true b h = refl
    either false b h = h

pub own_distinct : (files : List SourceFile) → AreOwn files → HaveOwnNames files
own_distinct [] own i j text a b = absurd (cc)
own_distinct (file ∷ files) own zero zero text a b = refl
own_distinct (file ∷ files) own zero (suc j) text a b = true_false (has_name file.name files) (found file.name files j (b ∙ sym a)) own.0
own_distinct (file ∷ files) own (suc i) zero text a b = true_false (has_name file.name files) (found file.name files i (a ∙ sym b)) own.0
own_distinct (file ∷ files) own (suc i) (suc j) text a b = ap suc (own_distinct files own.1 i j text a b)

-- ---- texts that fit

spaces_long : (n : ℕ) → length (spaces n) ≡ n
unfolding spaces
spaces_long n = length-replicate n 32

within : (n : ℕ) → nat_le n 1048576 ≡ true → n ≤ 1048577
within n e = grind (arith, nat_tests, e)

fits : (bytes : List ℕ) → length (fitted bytes) ≤ 1048577
fits bytes = case (nat_le (length bytes) 1048576) refl
  where
    case : (b : Bool) → nat_le (length bytes) 1048576 ≡ b → length (cond b bytes (spaces 1048577)) ≤ 1048577
    case true e = within (length bytes) e
    case false e = let h = spaces_long 1048577 in omega (arith, h)

fit_others : (name : List ℕ) (files : List SourceFile) → AllFit files → AllFit (others name files)
fit_others name [] fit = tt
fit_others name (file ∷ files) fit = case (is_named name file) (fit_others name files fit.1)
  where
    case : (b : Bool) → AllFit (others name files) → AllFit (cond (not b) (file ∷ others name files) (others name files))
    case true r = r
    case false r = (fit.0, r)

fit_firsts : (files : List SourceFile) → AllFit files → AllFit (firsts files)
fit_firsts [] fit = tt
fit_firsts (file ∷ files) fit = (fit.0, fit_others file.name (firsts files) (fit_firsts files fit.1))

fit_standing : (documents files : List SourceFile) → AllFit (map (standing documents) files)
fit_standing documents [] = tt
fit_standing documents (file ∷ files) = (fits (document_or (document_of file.name documents) file).bytes, fit_standing documents files)

pub stand_fits : (disk documents : List SourceFile) → AllFit (stand disk documents)
stand_fits disk documents = fit_firsts (map (standing documents) (disk ++ documents)) (fit_standing documents (disk ++ documents))

pub stand_own : (disk documents : List SourceFile) → AreOwn (stand disk documents)
stand_own disk documents = firsts_own (map (standing documents) (disk ++ documents))
