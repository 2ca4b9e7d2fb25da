-- What is left of lists beyond their ends, and bits one key after another.
use Rattle.std.proofs.Common.{◌≡◌, ℕ, zero, suc, ◌+◌, ◌<◌, ◌≤◌, ◌⊎◌, inl, inr, Bool, true, false, List, [], ◌∷◌, ◌++◌, ◌&&◌, ◌||◌, length, drop, Option, refl, sym, ap, ◌∙◌, add-one, append-nil, arith}
use Rattle.std.specs.Prelude.{slice_index_or}
use Rattle.jn_base.specs.declared.number.SlotNo.{SlotNo}
use Rattle.jn_base.specs.declared.place.Row.{Row}
use Rattle.jn_quals.specs.Qualifier.{Qualifier}
use Rattle.jn_points.specs.declared.point.Operand.{Operand}
use Rattle.jn_points.specs.Members.{some_of}
use Rattle.jn_sigs.specs.Signature.{slot_quals}
use Rattle.jn_env.specs.Environment.{Env}
use Rattle.jn_env.specs.Keys.{is_on}
use Rattle.jn_transfer.specs.Rules.{arg_rows}

none_given : (e : Env) (qs : List Qualifier) → arg_rows e qs [] ≡ []
none_given e [] = refl
none_given e (q ∷ qs) = refl

none_left : (e : Env) (s : List Qualifier) (slots : List (Option SlotNo)) (args : List Operand) (i : ℕ) → (length slots ≤ i) ⊎ (length args ≤ i) → arg_rows e (slot_quals s (drop i slots)) (drop i args) ≡ []
none_left e s [] args zero le = refl
none_left e s [] args (suc i) le = refl
none_left e s (x ∷ slots) [] zero le = refl
none_left e s (x ∷ slots) [] (suc i) le = none_given e (slot_quals s (drop i slots))
none_left e s (x ∷ slots) (a ∷ args) zero (inl le) = absurd (omega (arith, le))
none_left e s (x ∷ slots) (a ∷ args) zero (inr le) = absurd (omega (arith, le))
none_left e s (x ∷ slots) (a ∷ args) (suc i) (inl le) = none_left e s slots args i (inl (omega (arith, le)))
none_left e s (x ∷ slots) (a ∷ args) (suc i) (inr le) = none_left e s slots args i (inr (omega (arith, le)))

-- after the last slot or argument there are no rows
pub args_end : (e : Env) (s : List Qualifier) (slots : List (Option SlotNo)) (args : List Operand) (i : ℕ) (rows all : List Row) → (length slots ≤ i) ⊎ (length args ≤ i) → rows ++ arg_rows e (slot_quals s (drop i slots)) (drop i args) ≡ all → rows ≡ all
args_end e s slots args i rows all le h = sym (append-nil rows) ∙ ap (λ q. rows ++ q) (sym (none_left e s slots args i le)) ∙ h

module _ (test : ℕ → Bool) where
  no_bit : (ks : List ℕ) → is_on test ks [] ≡ false
  no_bit [] = refl
  no_bit (k ∷ ks) = refl

  on_at : (ks : List ℕ) (bits : List Bool) (i d : ℕ) → i < length ks → is_on test (drop i ks) (drop i bits) ≡ ((slice_index_or bits i false && test (slice_index_or ks i d)) || is_on test (drop (suc i) ks) (drop (suc i) bits))
  on_at [] bits i d lt = absurd (omega (arith, lt))
  on_at (k ∷ ks) [] zero d lt = sym (no_bit ks)
  on_at (k ∷ ks) (b ∷ bits) zero d lt = refl
  on_at (k ∷ ks) [] (suc i) d lt = no_bit (drop i ks) ∙ sym (no_bit (drop (suc i) ks))
  on_at (k ∷ ks) (b ∷ bits) (suc i) d lt = on_at ks bits i d (omega (arith, lt))

or_assoc : (a b c : Bool) → ((a || b) || c) ≡ (a || (b || c))
or_assoc true b c = refl
or_assoc false b c = refl

-- one key more has been looked at
pub on_more : (test : ℕ → Bool) (ks : List ℕ) (bits : List Bool) (i d : ℕ) (on more all : Bool) → i < length ks → more ≡ (on || (slice_index_or bits i false && test (slice_index_or ks i d))) → (on || is_on test (drop i ks) (drop i bits)) ≡ all → (more || is_on test (drop (i + 1) ks) (drop (i + 1) bits)) ≡ all
on_more test ks bits i d on more all lt e h =
    let rest = is_on test (drop (suc i) ks) (drop (suc i) bits) in
    let here = slice_index_or bits i false && test (slice_index_or ks i d) in
    rw add-one (ap (λ w. w || rest) e ∙ or_assoc on here rest ∙ ap (λ w. on || w) (sym (on_at test ks bits i d lt)) ∙ h)

-- no method's row is added
pub no_rows : {X : Type 0} (rows : X → List Row) (x y : X) (before : List Row) → x ≡ y → rows y ≡ [] → before ≡ before ++ rows x
no_rows rows x y before e none = sym (append-nil before) ∙ ap (λ r. before ++ r) (sym (ap rows e ∙ none))

none_behind : (test : ℕ → Bool) (xs : List ℕ) (i : ℕ) → length xs ≤ i → some_of test (drop i xs) ≡ false
none_behind test [] zero le = refl
none_behind test [] (suc i) le = refl
none_behind test (x ∷ xs) zero le = absurd (omega (arith, le))
none_behind test (x ∷ xs) (suc i) le = none_behind test xs i (omega (arith, le))

or_false : (a : Bool) → (a || false) ≡ a
or_false true = refl
or_false false = refl

-- all items have been looked at
pub some_end : (test : ℕ → Bool) (xs : List ℕ) (i : ℕ) (on all : Bool) → length xs ≤ i → (on || some_of test (drop i xs)) ≡ all → on ≡ all
some_end test xs i on all le h = sym (or_false on) ∙ ap (λ w. on || w) (sym (none_behind test xs i le)) ∙ h
