-- Lists that are compared, and flags that are made, one after the other.
use Rattle.std.proofs.Common.{◌≡◌, ℕ, zero, suc, ◌+◌, ◌<◌, not, Bool, true, false, List, [], ◌∷◌, ◌++◌, length, get_or, Option, Some, None, refl, sym, ap, ◌∙◌, subst, ext_get_or, arith}
use mathlib.Core.Logic.{dite}
use native.Mathlib.Decide.{ℕ_discrete}
use Rattle.std.specs.Prelude.{◌↔◌, slice_get, slice_index_or}
use Rattle.jn_points.specs.declared.program.Body.{Body}
use Rattle.jn_points.specs.declared.program.Program.{Program}
use Rattle.jn_points.specs.Lookup.{body_at}
use Rattle.jn_contrib.specs.declared.listed.Overrider.{Overrider}
use Rattle.jn_recheck_law.specs.Alike.{ActsAlike}
use Rattle.jn_recheck_law.specs.Reusable.{ActAlike}
use Rattle.jn_reuse.proofs.Told.{told_acts}
use Rattle.jn_again.specs.Losing.{told}
use Rattle.jn_again.specs.Flags.{AreChangedBelow}

never : true ≡ false → ⊥
never e = cc

-- so many items are equal
abbrev pub EqualBelow : ℕ → List Overrider → List Overrider → Type 0
EqualBelow n xs ys = (i : ℕ) (d : Overrider) → i < n → get_or xs i d ≡ get_or ys i d

pub equal_none : (xs ys : List Overrider) → EqualBelow 0 xs ys
equal_none xs ys = λ i d lt. absurd (omega (arith, lt))

some_item : (xs : List Overrider) (i : ℕ) (d e : Overrider) → i < length xs → get_or xs i d ≡ get_or xs i e
some_item [] i d e lt = absurd (omega (arith, lt))
some_item (x ∷ xs) zero d e lt = refl
some_item (x ∷ xs) (suc i) d e lt = some_item xs i d e (omega (arith, lt))

pub equal_more : (xs ys : List Overrider) (n : ℕ) (d e : Overrider) → n < length xs → length xs ≡ length ys → get_or xs n d ≡ get_or ys n e → EqualBelow n xs ys → EqualBelow (n + 1) xs ys
equal_more xs ys n d e lt long same h = λ i f less. dite (ℕ_discrete i n)
    (λ at. ap (λ (k : ℕ). get_or xs k f) at ∙ some_item xs n f d lt ∙ same ∙ some_item ys n e f (omega (arith, lt, long)) ∙ ap (λ (k : ℕ). get_or ys k f) (sym at))
    (λ ne. h i f (omega (arith, less, ne)))

pub all_equal : (xs ys : List Overrider) (n : ℕ) → length xs ≡ length ys → n ≡ length xs → EqualBelow n xs ys → xs ≡ ys
all_equal [] [] n long e h = refl
all_equal [] (y ∷ ys) n long e h = absurd (omega (arith, long))
all_equal (x ∷ xs) ys n long e h = ext_get_or x (x ∷ xs) ys long (λ i lt. h i x (subst (λ (k : ℕ). i < k) (sym e) lt))

-- whether a body acts as it did
there : {A : Type 0} (xs : List A) (i : ℕ) → slice_get xs i ≡ None → i < length xs → ⊥
there [] i e lt = omega (arith, lt)
there (x ∷ xs) zero e lt = cc
there (x ∷ xs) (suc i) e lt = there xs i e (omega (arith, lt))

pub no_body : (P Q : Program) (b : ℕ) → body_at P b ≡ None → b < length P.bodies → (false ≡ false) ↔ ActAlike (body_at P b) (body_at Q b)
no_body P Q b e lt = absurd (there P.bodies b e lt)

alike_of : (o p : Option Body) (x y : Body) → o ≡ Some x → p ≡ Some y → (r : Bool) → (r ≡ true) ↔ ActsAlike x y → (not r ≡ false) ↔ ActAlike o p
alike_of o p x y e f true h = ((λ t. subst (λ (q : Option Body). ActAlike o q) (sym f) (subst (λ (q : Option Body). ActAlike q (Some y)) (sym e) (h.0 refl))), (λ a. refl))
alike_of o p x y e f false h = ((λ t. absurd (never t)), (λ a. absurd (never (sym (h.1 (subst (λ (q : Option Body). ActAlike q (Some y)) e (subst (λ (q : Option Body). ActAlike o q) f a)))))))

pub one_body : (P Q : Program) (b : ℕ) (x : Body) → body_at P b ≡ Some x → body_at Q b ≡ None → (true ≡ false) ↔ ActAlike (body_at P b) (body_at Q b)
one_body P Q b x e f = ((λ t. absurd (never t)), (λ a. absurd (subst (λ (q : Option Body). ActAlike q None) e (subst (λ (q : Option Body). ActAlike (body_at P b) q) f a))))

pub both_bodies : (P Q : Program) (b : ℕ) (x y : Body) (r : Bool) → body_at P b ≡ Some x → body_at Q b ≡ Some y → (r ≡ true) ↔ ActsAlike x y → (not r ≡ false) ↔ ActAlike (body_at P b) (body_at Q b)
both_bodies P Q b x y r e f h = alike_of (body_at P b) (body_at Q b) x y e f r h

pub known_body : (P Q : Program) (b : ℕ) → body_at P b ≡ body_at Q b → b < length P.bodies → (false ≡ false) ↔ ActAlike (body_at P b) (body_at Q b)
known_body P Q b e lt = ((λ t. told_acts P Q b lt e), (λ a. refl))

-- flags
pub flags_none : (P Q : Program) → AreChangedBelow 0 P Q []
flags_none P Q = λ b lt inside. absurd (omega (arith, lt))

flag_below : (xs : List Bool) (x : Bool) (w : ℕ) → w < length xs → slice_index_or (xs ++ x ∷ []) w false ≡ slice_index_or xs w false
flag_below [] x w lt = absurd (omega (arith, lt))
flag_below (y ∷ ys) x zero lt = refl
flag_below (y ∷ ys) x (suc w) lt = flag_below ys x w (omega (arith, lt))

flag_at : (xs : List Bool) (x : Bool) → slice_index_or (xs ++ x ∷ []) (length xs) false ≡ x
flag_at [] x = refl
flag_at (y ∷ ys) x = flag_at ys x

pub flags_more : (P Q : Program) (n : ℕ) (flags more : List Bool) (x : Bool) → length flags ≡ n → more ≡ flags ++ x ∷ [] → (n < length P.bodies → (x ≡ false) ↔ ActAlike (body_at P n) (body_at Q n)) → AreChangedBelow n P Q flags → AreChangedBelow (n + 1) P Q more
flags_more P Q n flags more x count e here h = λ b lt inside. subst (λ (l : List Bool). (told l b ≡ false) ↔ ActAlike (body_at P b) (body_at Q b)) (sym e) (dite (ℕ_discrete b n)
    (λ at. subst (λ (k : ℕ). (told (flags ++ x ∷ []) k ≡ false) ↔ ActAlike (body_at P k) (body_at Q k)) (sym at)
    (subst (λ (t : Bool). (t ≡ false) ↔ ActAlike (body_at P n) (body_at Q n)) (sym (ap (λ (k : ℕ). slice_index_or (flags ++ x ∷ []) k false) (sym count) ∙ flag_at flags x)) (here (subst (λ (k : ℕ). k < length P.bodies) at inside))))
    (λ ne. let low : b < n = omega (arith, lt, ne) in
    subst (λ (t : Bool). (t ≡ false) ↔ ActAlike (body_at P b) (body_at Q b)) (sym (flag_below flags x b (omega (arith, low, count)))) (h b low inside)))
