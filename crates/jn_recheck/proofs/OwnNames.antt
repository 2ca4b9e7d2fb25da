-- Files keep names of their own when they are edited.
use Rattle.std.proofs.Common.{◌≡◌, ℕ, zero, suc, ◌+◌, Bool, true, false, List, [], ◌∷◌, ◌++◌, Option, Some, None, Result, Ok, Err, refl, sym, ap, ◌∙◌, subst, arith}
use Rattle.std.specs.Prelude.{OnOk, OnErr, bytes_eq, cond, slice_get, slice_set, ◌||◌}
use Rattle.std.specs.Cmp.Lexicographic.{bytes_decides}
use Rattle.std.specs.List.{list_any, position_from, remove}
use Rattle.jn_trees.specs.Names.{AreDistinct}
use Rattle.jn_trees.proofs.Numbers.{still_distinct}
use Rattle.jn_front.specs.declared.source.SourceFile.{SourceFile}
use Rattle.jn_front.specs.Files.{names_of}
use Rattle.jn_recheck.specs.Files.{HaveOwnNames, is_named, place_of, put_at, removed_at, with_file, without_file}

same_bool : (a b : Bool) → (a ≡ true → b ≡ true) → (b ≡ true → a ≡ true) → a ≡ b
same_bool true true f g = refl
same_bool true false f g = sym (f refl)
same_bool false true f g = g refl
same_bool false false f g = refl

either_way : (a b : List ℕ) → bytes_eq a b ≡ bytes_eq b a
either_way a b = same_bool (bytes_eq a b) (bytes_eq b a) (λ e. (bytes_decides b a).1 (sym ((bytes_decides a b).0 e))) (λ e. (bytes_decides a b).1 (sym ((bytes_decides b a).0 e)))

some_is_none : {X : Type 0} (i : ℕ) → ◌≡◌ {A = Option ℕ} (Some i) None → X
some_is_none i e = absurd (cc)

some_is : (i k : ℕ) → ◌≡◌ {A = Option ℕ} (Some i) (Some k) → i ≡ k
some_is i k e = cc

-- ---- a file that is set

lacking : (b c rest : Bool) (i : ℕ) (o : Option ℕ) → b ≡ c → cond b (Some i) o ≡ None → (o ≡ None → rest ≡ false) → (c || rest) ≡ false
lacking true c rest i o e h r = some_is_none i h
lacking false c rest i o e h r = ap (λ x. x || rest) (sym e) ∙ r h

-- no file has the name
lacks : (name : List ℕ) (files : List SourceFile) (i : ℕ) → position_from (is_named name) i files ≡ None → list_any (bytes_eq name) (names_of files) ≡ false
lacks name [] i e = refl
lacks name (file ∷ files) i e = lacking (is_named name file) (bytes_eq name file.name) (list_any (bytes_eq name) (names_of files)) i (position_from (is_named name) (i + 1) files) (either_way file.name name) e (lacks name files (i + 1))

-- the file at this place has it
has : (name : List ℕ) (files : List SourceFile) (i k : ℕ) → position_from (is_named name) i files ≡ Some k → (j : ℕ) × (k ≡ i + j) × (slice_get (names_of files) j ≡ Some name)
has name [] i k e = some_is_none k (sym e)
has name (file ∷ files) i k e = here (is_named name file) refl (has name files (i + 1) k) e
  where
    here : (b : Bool) → is_named name file ≡ b → (position_from (is_named name) (i + 1) files ≡ Some k → (j : ℕ) × (k ≡ i + 1 + j) × (slice_get (names_of files) j ≡ Some name)) → cond b (Some i) (position_from (is_named name) (i + 1) files) ≡ Some k → (j : ℕ) × (k ≡ i + j) × (slice_get (names_of (file ∷ files)) j ≡ Some name)
    here true t behind h = (0, (let s = some_is i k h in omega (arith, s)), ap Some ((bytes_decides file.name name).0 t))
    here false t behind h = let r = behind h in (suc r.0, (let s = r.1 in omega (arith, s)), r.2)

set_same : (files : List SourceFile) (k : ℕ) (file : SourceFile) → slice_get (names_of files) k ≡ Some file.name → names_of (slice_set files k file) ≡ names_of files
set_same [] k file e = refl
set_same (f ∷ files) zero file e = ap (λ (n : List ℕ). n ∷ names_of files) (sym (named f.name file.name e))
  where
    named : (x y : List ℕ) → ◌≡◌ {A = Option (List ℕ)} (Some x) (Some y) → x ≡ y
    named x y e = cc
set_same (f ∷ files) (suc k) file e = ap (λ ns. f.name ∷ ns) (set_same files k file e)

names_last : (files : List SourceFile) (file : SourceFile) → names_of (files ++ file ∷ []) ≡ names_of files ++ file.name ∷ []
names_last [] file = refl
names_last (f ∷ files) file = ap (λ ns. f.name ∷ ns) (names_last files file)

own_put : (files : List SourceFile) (file : SourceFile) (place : Option ℕ) → place_of file.name files ≡ place → HaveOwnNames files → HaveOwnNames (put_at place file files)
own_put files file None e own =
    subst AreDistinct (sym (names_last files file)) (subst (λ b. AreDistinct (cond b (names_of files) (names_of files ++ file.name ∷ []))) (lacks file.name files 0 e) (still_distinct (names_of files) file.name own))
own_put files file (Some k) e own =
    let h = has file.name files 0 k e in
    let at : k ≡ h.0 = (let s = h.1 in omega (arith, s)) in
    subst AreDistinct (sym (set_same files k file (ap (slice_get (names_of files)) at ∙ h.2))) own

own_with : (name text : List ℕ) (files more : List SourceFile) → HaveOwnNames files → more ≡ with_file name text files → HaveOwnNames more
own_with name text files more own e = subst HaveOwnNames (sym e) (own_put files (record { name = name; bytes = text }) (place_of name files) refl own)

pub own_either : {T E : Type 0} (r : Result T E) (name text : List ℕ) (files more : List SourceFile) → HaveOwnNames files → OnOk r (more ≡ with_file name text files) → OnErr r (more ≡ files) → HaveOwnNames more
own_either (Ok t) name text files more own set same = own_with name text files more own set
own_either (Err e) name text files more own set same = subst HaveOwnNames (sym same) own

-- ---- a file that is removed

-- where an item stood before the i-th was removed
abbrev skip : ℕ → ℕ → ℕ
skip zero j = suc j
skip (suc i) zero = zero
skip (suc i) (suc j) = suc (skip i j)

skip_once : (i j k : ℕ) → skip i j ≡ skip i k → j ≡ k
skip_once zero j k e = omega (arith, e)
skip_once (suc i) zero zero e = refl
skip_once (suc i) zero (suc k) e = absurd (omega (arith, e))
skip_once (suc i) (suc j) zero e = absurd (omega (arith, e))
skip_once (suc i) (suc j) (suc k) e = ap suc (skip_once i j k (omega (arith, e)))

at_removed : (files : List SourceFile) (i j : ℕ) → slice_get (names_of (remove files i)) j ≡ slice_get (names_of files) (skip i j)
at_removed [] zero j = refl
at_removed [] (suc i) j = refl
at_removed (f ∷ files) zero j = refl
at_removed (f ∷ files) (suc i) zero = refl
at_removed (f ∷ files) (suc i) (suc j) = at_removed files i j

own_removed : (files : List SourceFile) (place : Option ℕ) → HaveOwnNames files → HaveOwnNames (removed_at place files)
own_removed files None own = own
own_removed files (Some i) own = λ j k text a b. skip_once i j k (own (skip i j) (skip i k) text (sym (at_removed files i j) ∙ a) (sym (at_removed files i k) ∙ b))

pub own_without : (name : List ℕ) (files more : List SourceFile) → HaveOwnNames files → more ≡ without_file name files → HaveOwnNames more
own_without name files more own e = subst HaveOwnNames (sym e) (own_removed files (place_of name files) own)
