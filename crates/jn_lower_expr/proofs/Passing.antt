-- Temporaries that need not be looked at again.
use Rattle.std.proofs.Common.{◌≡◌, ◌<◌, ◌≤◌, ◌+◌, ℕ, zero, suc, Bool, true, false, cond, not, ◌&&◌, List, [], ◌∷◌, ◌++◌, length, Option, Some, None, refl, sym, ap, ◌∙◌, subst, get_or, set, arith}
use Rattle.std.specs.Prelude.{eqb, ◌||◌}
use Rattle.jn_points.specs.declared.point.BaseType.{BaseType}
use Rattle.jn_lowering.specs.Temporaries.{is_among, same_base, free_from}
use Rattle.jn_lowering.proofs.Taking.{same_base_is}
use Rattle.jn_lower_expr.specs.declared.ways.Way.{Way}
use Rattle.jn_lower_expr.specs.Passing.{Passes, AllPast, begin}

-- what is asked of one place
abbrev pub test : ℕ → BaseType → List ℕ → BaseType → Bool
test i b taken base = same_base b base && not (is_among i taken)

passes_more : (d : BaseType) (i n : ℕ) (bs : List BaseType) (taken : List ℕ) (base : BaseType) → Passes i n bs taken base → n < length bs → test (i + n) (get_or bs n d) taken base ≡ false → Passes i (suc n) bs taken base
passes_more d i n [] taken base h lt e = absurd (omega (arith, lt))
passes_more d i zero (b ∷ bs) taken base h lt e = (subst (λ k. test k b taken base ≡ false) (omega arith) e, tt)
passes_more d i (suc n) (b ∷ bs) taken base h lt e =
    (h.0, passes_more d (i + 1) n bs taken base h.1 (omega (arith, lt)) (subst (λ k. test k (get_or bs n d) taken base ≡ false) (omega arith) e))

-- the next place of all is passed
pub one_passed : (d : BaseType) (p : ℕ) (bs : List BaseType) (taken : List ℕ) (base : BaseType) → Passes 0 p bs taken base → p < length bs → test p (get_or bs p d) taken base ≡ false → Passes 0 (p + 1) bs taken base
one_passed d p bs taken base h lt e =
    let same : p ≡ 0 + p = omega arith in
    let next : suc p ≡ p + 1 = omega arith in
    subst (λ n. Passes 0 n bs taken base) next (passes_more d 0 p bs taken base h lt (subst (λ k. test k (get_or bs p d) taken base ≡ false) same e))

no_more : (i : ℕ) (b : BaseType) (bs : List BaseType) (taken : List ℕ) (base : BaseType) → test i b taken base ≡ false → free_from i (b ∷ bs) taken base ≡ free_from (i + 1) bs taken base
no_more i b bs taken base e = ap (λ t. cond t (Some i) (free_from (i + 1) bs taken base)) e

passes_found : (d : BaseType) (i n : ℕ) (bs : List BaseType) (taken : List ℕ) (base : BaseType) → Passes i n bs taken base → n < length bs → test (i + n) (get_or bs n d) taken base ≡ true → free_from i bs taken base ≡ Some (i + n)
passes_found d i n [] taken base h lt e = absurd (omega (arith, lt))
passes_found d i zero (b ∷ bs) taken base h lt e =
    let f : test i b taken base ≡ true = subst (λ k. test k b taken base ≡ true) (omega arith) e in
    ap (λ t. cond t (Some i) (free_from (i + 1) bs taken base)) f ∙ ap Some (omega arith)
passes_found d i (suc n) (b ∷ bs) taken base h lt e =
    no_more i b bs taken base h.0 ∙ passes_found d (i + 1) n bs taken base h.1 (omega (arith, lt)) (subst (λ k. test k (get_or bs n d) taken base ≡ true) (omega arith) e) ∙ ap Some (omega arith)

-- the next place of all is the first one that is free
pub first_found : (d : BaseType) (p : ℕ) (bs : List BaseType) (taken : List ℕ) (base : BaseType) → Passes 0 p bs taken base → p < length bs → test p (get_or bs p d) taken base ≡ true → Some p ≡ free_from 0 bs taken base
first_found d p bs taken base h lt e =
    let same : p ≡ 0 + p = omega arith in
    ap Some same ∙ sym (passes_found d 0 p bs taken base h lt (subst (λ k. test k (get_or bs p d) taken base ≡ true) same e))

pub passes_none : (i n : ℕ) (bs : List BaseType) (taken : List ℕ) (base : BaseType) → Passes i n bs taken base → length bs ≤ n → free_from i bs taken base ≡ None
passes_none i n [] taken base h le = refl
passes_none i zero (b ∷ bs) taken base h le = absurd (omega (arith, le))
passes_none i (suc n) (b ∷ bs) taken base h le = no_more i b bs taken base h.0 ∙ passes_none (i + 1) n bs taken base h.1 (omega (arith, le))

-- where none was found, all are passed
none_passes : (i : ℕ) (bs : List BaseType) (taken : List ℕ) (base : BaseType) → free_from i bs taken base ≡ None → Passes i (length bs) bs taken base
none_passes i [] taken base h = tt
none_passes i (b ∷ bs) taken base h = by (test i b taken base) refl h (none_passes (i + 1) bs taken base)
  where
    by : (t : Bool) → test i b taken base ≡ t → cond t (Some i) (free_from (i + 1) bs taken base) ≡ None → (free_from (i + 1) bs taken base ≡ None → Passes (i + 1) (length bs) bs taken base) → (test i b taken base ≡ false) × Passes (i + 1) (length bs) bs taken base
    by true e h rest = cc
    by false e h rest = (e, rest h)

and_less : (a b c : Bool) → (a && not b) ≡ false → (a && not (c || b)) ≡ false
and_less false b c h = refl
and_less true true true h = refl
and_less true true false h = refl
and_less true false c h = cc

and_false : (a : Bool) → (a && false) ≡ false
and_false true = refl
and_false false = refl

eqb_same : (n : ℕ) → eqb n n ≡ true
eqb_same n = grind arith

-- what is passed stays so where one more is taken
passes_taken : (p i n : ℕ) (bs : List BaseType) (taken : List ℕ) (base : BaseType) → Passes i n bs taken base → Passes i n bs (p ∷ taken) base
passes_taken p i zero bs taken base h = tt
passes_taken p i (suc n) [] taken base h = h
passes_taken p i (suc n) (b ∷ bs) taken base h = (and_less (same_base b base) (is_among i taken) (eqb i p) h.0, passes_taken p (i + 1) n bs taken base h.1)

-- and where one more is there
passes_pushed : (c : BaseType) (i n : ℕ) (bs : List BaseType) (taken : List ℕ) (base : BaseType) → Passes i n bs taken base → Passes i n (bs ++ c ∷ []) taken base
passes_pushed c i zero bs taken base h = tt
passes_pushed c i (suc n) [] taken base h = absurd h
passes_pushed c i (suc n) (b ∷ bs) taken base h = (h.0, passes_pushed c (i + 1) n bs taken base h.1)

taken_itself : (p : ℕ) (b : BaseType) (taken : List ℕ) (base : BaseType) → test p b (p ∷ taken) base ≡ false
taken_itself p b taken base = ap (λ t. same_base b base && not (t || is_among p taken)) (eqb_same p) ∙ and_false (same_base b base)

-- the one that is taken is passed
pub passes_it : (p : ℕ) (bs : List BaseType) (taken : List ℕ) (base : BaseType) → Passes 0 p bs taken base → p < length bs → Passes 0 (p + 1) bs (p ∷ taken) base
passes_it p bs taken base h lt = one_passed base p bs (p ∷ taken) base (passes_taken p 0 p bs taken base h) lt (taken_itself p (get_or bs p base) taken base)

-- and a new one
pub passes_new : (bs : List BaseType) (taken : List ℕ) (base : BaseType) → free_from 0 bs taken base ≡ None → Passes 0 (length bs) (bs ++ base ∷ []) taken base
passes_new bs taken base h = passes_pushed base 0 (length bs) bs taken base (none_passes 0 bs taken base h)

pub all_taken : (p : ℕ) (bs : List BaseType) (taken : List ℕ) (ws : List Way) → AllPast bs taken ws → AllPast bs (p ∷ taken) ws
all_taken p bs taken [] h = tt
all_taken p bs taken (w ∷ ws) h = (passes_taken p 0 w.from bs taken w.base h.0, all_taken p bs taken ws h.1)

pub all_pushed : (c : BaseType) (bs : List BaseType) (taken : List ℕ) (ws : List Way) → AllPast bs taken ws → AllPast (bs ++ c ∷ []) taken ws
all_pushed c bs taken [] h = tt
all_pushed c bs taken (w ∷ ws) h = (passes_pushed c 0 w.from bs taken w.base h.0, all_pushed c bs taken ws h.1)

-- a type's number is another one
pub all_set : (bs : List BaseType) (taken : List ℕ) (ws : List Way) (i : ℕ) (w : Way) → AllPast bs taken ws → Passes 0 w.from bs taken w.base → AllPast bs taken (set ws i w)
all_set bs taken [] i w h p = tt
all_set bs taken (v ∷ ws) zero w h p = (p, h.1)
all_set bs taken (v ∷ ws) (suc i) w h p = (h.0, all_set bs taken ws i w h.1 p)

-- a type's number is put after the others
pub all_put : (bs : List BaseType) (taken : List ℕ) (ws : List Way) (w : Way) → AllPast bs taken ws → Passes 0 w.from bs taken w.base → AllPast bs taken (ws ++ w ∷ [])
all_put bs taken [] w h p = (p, tt)
all_put bs taken (v ∷ ws) w h p = (h.0, all_put bs taken ws w h.1 p)

-- where a type's search begins
pub begins_past : (bs : List BaseType) (taken : List ℕ) (ws : List Way) (base : BaseType) → AllPast bs taken ws → Passes 0 (begin ws base) bs taken base
begins_past bs taken [] base h = tt
begins_past bs taken (w ∷ ws) base h = by (same_base w.base base) refl (begins_past bs taken ws base h.1)
  where
    by : (t : Bool) → same_base w.base base ≡ t → Passes 0 (begin ws base) bs taken base → Passes 0 (cond t w.from (begin ws base)) bs taken base
    by true e rest = subst (λ b. Passes 0 w.from bs taken b) (same_base_is w.base base e) h.0
    by false e rest = rest
