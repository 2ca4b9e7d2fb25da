-- Fields and points, one after another.
use Rattle.std.proofs.Common.{◌≡◌, ℕ, ◌+◌, ◌<◌, Bool, true, false, ◌||◌, List, [], ◌∷◌, ◌++◌, length, drop, filter, cond, refl, sym, ap, ◌∙◌, append_assoc}
use Rattle.std.specs.Prelude.{slice_index_or}
use Rattle.std.proofs.lemmas.List.{at_drop_more}
use Rattle.std.proofs.lemmas.List.Elements.{filter-append}
use Rattle.jn_base.specs.declared.number.FieldNo.{FieldNo}
use Rattle.jn_points.specs.declared.point.Point.{Point}
use Rattle.jn_env.specs.Order.{Table, env_in}
use Rattle.jn_ctor.specs.Unassigned.{field_numbers, lacks, lacks_from}

or_assoc : (a b c : Bool) → ((a || b) || c) ≡ (a || (b || c))
or_assoc true b c = refl
or_assoc false b c = refl

pub lacks_step : (own : List ℕ) (f : ℕ) (points : List Point) (t : Table) (at : ℕ) (d : Point) (left more all : Bool) → at < length points → more ≡ (left || lacks own f (slice_index_or points at d).kind (env_in t at)) → (left || lacks_from own f (drop at points) at t) ≡ all → (more || lacks_from own f (drop (at + 1) points) (at + 1) t) ≡ all
lacks_step own f points t at d left more all lt m h =
    let now = lacks own f (slice_index_or points at d).kind (env_in t at) in
    ap (λ z. z || lacks_from own f (drop (at + 1) points) (at + 1) t) m
    ∙ or_assoc left now (lacks_from own f (drop (at + 1) points) (at + 1) t)
    ∙ ap (λ z. left || z) (sym (at_drop_more (λ pts. lacks_from own f pts at t) points at d lt))
    ∙ h

numbers_more : (fs gs : List FieldNo) → field_numbers (fs ++ gs) ≡ field_numbers fs ++ field_numbers gs
numbers_more [] gs = refl
numbers_more (f ∷ fs) gs = ap (λ ns. f.0 ∷ ns) (numbers_more fs gs)

numbers_if : (wanted : Bool) (f : FieldNo) → field_numbers (cond wanted (f ∷ []) []) ≡ cond wanted (f.0 ∷ []) []
numbers_if true f = refl
numbers_if false f = refl

filter_first : (p : ℕ → Bool) (f : ℕ) (fs : List ℕ) → filter p (f ∷ fs) ≡ cond (p f) (f ∷ []) [] ++ filter p fs
filter_first p f fs = filter-append p (f ∷ []) fs

-- one field more of the filtered
pub field_step : (p : ℕ → Bool) (own : List ℕ) (i d : ℕ) (f : FieldNo) (fields more : List FieldNo) (all : List ℕ) → i < length own → f.0 ≡ slice_index_or own i d → more ≡ fields ++ cond (p f.0) (f ∷ []) [] → field_numbers fields ++ filter p (drop i own) ≡ all → field_numbers more ++ filter p (drop (i + 1) own) ≡ all
field_step p own i d f fields more all lt e m h =
    let rest = filter p (drop (i + 1) own) in
    let now = cond (p f.0) (f.0 ∷ []) [] in
    ap (λ fs. field_numbers fs ++ rest) m
    ∙ ap (λ ns. ns ++ rest) (numbers_more fields (cond (p f.0) (f ∷ []) []) ∙ ap (λ ns. field_numbers fields ++ ns) (numbers_if (p f.0) f))
    ∙ append_assoc (field_numbers fields) now rest
    ∙ ap (λ ns. field_numbers fields ++ ns) (ap (λ n. cond (p n) (n ∷ []) [] ++ rest) e ∙ sym (filter_first p (slice_index_or own i d) (drop (i + 1) own)) ∙ sym (at_drop_more (λ fs. filter p fs) own i d lt))
    ∙ h
