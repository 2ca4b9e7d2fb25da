-- The first that is given, number by number and by the places of two lists.
use Rattle.std.proofs.Common.{◌≡◌, ◌⊎◌, inl, inr, ℕ, zero, suc, ◌+◌, ◌<◌, ◌≤◌, true, false, List, [], ◌∷◌, length, drop, Option, Some, None, refl, sym, ap, ◌∙◌, subst, arith, add-one}
use Rattle.std.specs.Option.{option_or}
use Rattle.std.specs.Prelude.{is_some, slice_get, slice_index_or}
use Rattle.std.proofs.lemmas.Bool.{cases_lt, false≢true}
use Rattle.std.proofs.lemmas.List.{at_drop_all}
use Rattle.jn_base.specs.declared.number.SlotNo.{SlotNo}
use Rattle.jn_quals.specs.Qualifier.{Qualifier}
use Rattle.jn_points.specs.declared.point.Operand.{Operand}
use Rattle.jn_points.specs.declared.point.Point.{Point}
use Rattle.jn_points.specs.declared.program.Program.{Program}
use Rattle.jn_points.specs.Lookup.{body_at, points_of}
use Rattle.jn_env.specs.Environment.{Env}
use Rattle.jn_env.specs.Order.{Table, env_in}
use Rattle.jn_sigs.specs.Signature.{slot_quals}
use Rattle.jn_reasons_law.specs.declared.item.Item.{Item}
use Rattle.jn_note_words.specs.declared.owners.Owner.{Owner}
use Rattle.jn_note_words.specs.Owned.{first_below}
use Rattle.jn_notes.specs.declared.reads.Sought.{Sought}
use Rattle.jn_notes.specs.Asked.{by_asks, by_number, by_point, some_lacking}
use Rattle.jn_notes.specs.Asks.{ask_args}
use Rattle.jn_notes.specs.Spoken.{by_passes, first_outside, pass_args, taker_at, taker_by}

module _ {A : Type 0} where
  -- a number more that gives none
  pub none_more : (f : ℕ → Option A) (n : ℕ) (r : Option A) → first_below f n ≡ None → r ≡ f n → is_some r ≡ false → first_below f (n + 1) ≡ None
  none_more f n (Some x) h is e = absurd (false≢true (sym e))
  none_more f n None h is e = ap (first_below f) (add-one n) ∙ ap (λ (x : Option A). option_or x (f n)) h ∙ sym is

  found_first : (f : ℕ → Option A) (n m : ℕ) (x : A) → n < m → first_below f n ≡ None → f n ≡ Some x → first_below f m ≡ Some x
  found_first f n zero x lt h e = absurd (omega (arith, lt))
  found_first f n (suc m) x lt h e = by (λ (less : n < m). found_first f n m x less h e) (cases_lt n m)
    where
      by : (n < m → first_below f m ≡ Some x) → (n < m) ⊎ (m ≤ n) → option_or (first_below f m) (f m) ≡ Some x
      by before (inl less) = ap (λ (o : Option A). option_or o (f m)) (before less)
      by before (inr le) = let same : n ≡ m = omega (arith, lt, le) in subst (λ (k : ℕ). option_or (first_below f k) (f k) ≡ Some x) same (ap (λ (o : Option A). option_or o (f n)) h ∙ e)

  -- the first that is given
  pub found_is : (f : ℕ → Option A) (n m : ℕ) (r : Option A) → n < m → first_below f n ≡ None → r ≡ f n → is_some r ≡ true → r ≡ first_below f m
  found_is f n m None lt h is e = absurd (false≢true e)
  found_is f n m (Some x) lt h is e = sym (found_first f n m x lt h (sym is))

-- ---- two lists, of which one ends

module _ {A X Y : Type 0} (all : List X → List Y → Option A) (left : (ys : List Y) → all [] ys ≡ None) (right : (xs : List X) → all xs [] ≡ None) where
  one_ended : (xs : List X) (ys : List Y) (i n : ℕ) (whole : Option A) → n ≤ i → (length xs ≤ n) ⊎ (length ys ≤ n)
      → all (drop i xs) (drop i ys) ≡ whole → None ≡ whole
  one_ended xs ys i n whole le (inl l) e = sym (at_drop_all (λ (zs : List X). all zs (drop i ys)) xs i (omega (arith, l, le)) ∙ left (drop i ys)) ∙ e
  one_ended xs ys i n whole le (inr l) e = sym (at_drop_all (all (drop i xs)) ys i (omega (arith, l, le)) ∙ right (drop i xs)) ∙ e

module _ (q : Sought) (b p : ℕ) (e : Env) (s : List Qualifier) where
  abbrev args : List (Option SlotNo) → List Operand → Option Item
  args slots values = by_asks q b p e (ask_args (slot_quals s slots) values)

  pub args_done : (xs : List (Option SlotNo)) (ys : List Operand) (i n : ℕ) (whole : Option Item) → n ≤ i → (length xs ≤ n) ⊎ (length ys ≤ n)
      → args (drop i xs) (drop i ys) ≡ whole → None ≡ whole
  args_done = one_ended args (λ ys. refl) none
    where
      none : (xs : List (Option SlotNo)) → args xs [] ≡ None
      none [] = refl
      none (x ∷ xs) = refl

module _ (q : Sought) (e : Env) (s : List Qualifier) (m : ℕ) where
  abbrev passed : ℕ → List (Option SlotNo) → List Operand → Option Owner
  passed n slots values = by_passes q e (pass_args m n (slot_quals s slots) values)

  pub passed_done : (xs : List (Option SlotNo)) (ys : List Operand) (i n : ℕ) (whole : Option Owner) → n ≤ i → (length xs ≤ n) ⊎ (length ys ≤ n)
      → passed i (drop i xs) (drop i ys) ≡ whole → None ≡ whole
  passed_done xs ys i = one_ended (passed i) (λ ys. refl) none xs ys i
    where
      none : (xs : List (Option SlotNo)) → passed i xs [] ≡ None
      none [] = refl
      none (x ∷ xs) = refl

module _ (k : ℕ) (s : List Qualifier) where
  abbrev outside : ℕ → List (Option SlotNo) → List (Option SlotNo) → Option Owner
  outside n lower over = first_outside k n (slot_quals s lower) (slot_quals s over)

  pub outside_done : (xs ys : List (Option SlotNo)) (i n : ℕ) (whole : Option Owner) → n ≤ i → (length xs ≤ n) ⊎ (length ys ≤ n)
      → outside i (drop i xs) (drop i ys) ≡ whole → None ≡ whole
  outside_done xs ys i = one_ended (outside i) (λ ys. refl) none xs ys i
    where
      none : (xs : List (Option SlotNo)) → outside i xs [] ≡ None
      none [] = refl
      none (x ∷ xs) = refl

module _ (s : List Qualifier) where
  pub lacking_done : (xs ys : List (Option SlotNo)) (i n : ℕ) (whole : Option Item) → n ≤ i → (length xs ≤ n) ⊎ (length ys ≤ n)
      → some_lacking s (drop i xs) (drop i ys) ≡ whole → None ≡ whole
  lacking_done = one_ended (some_lacking s) (λ ys. refl) none
    where
      none : (xs : List (Option SlotNo)) → some_lacking s xs [] ≡ None
      none [] = refl
      none (x ∷ xs) = refl

-- ---- points

pub there : (A : Type 0) (xs : List A) (i : ℕ) (d : A) → i < length xs → slice_get xs i ≡ Some (slice_index_or xs i d)
there A [] i d lt = absurd (omega (arith, lt))
there A (x ∷ xs) zero d lt = refl
there A (x ∷ xs) (suc i) d lt = there A xs i d (omega (arith, lt))

pub point_is : (P : Program) (s : List Qualifier) (q : Sought) (b : ℕ) (T : Table) (points : List Point) (i : ℕ) (pt : Point) (r : Option Item)
    → points ≡ points_of (body_at P b) → i < length points → pt ≡ slice_index_or points i pt
    → r ≡ by_point P s q b i (Some pt) (env_in T i) → r ≡ by_number P s q b T i
point_is P s q b T points i pt r is lt e h =
    h ∙ ap (λ (o : Option Point). by_point P s q b i o (env_in T i)) (ap Some e ∙ sym (there Point points i pt lt) ∙ ap (λ (l : List Point). slice_get l i) is)

pub taker_is : (P : Program) (s : List Qualifier) (q : Sought) (b : ℕ) (T : Table) (points : List Point) (i : ℕ) (pt : Point) (r : Option Owner)
    → points ≡ points_of (body_at P b) → i < length points → pt ≡ slice_index_or points i pt
    → r ≡ taker_by P s q b (Some pt) (env_in T i) → r ≡ taker_at P s q b T i
taker_is P s q b T points i pt r is lt e h =
    h ∙ ap (λ (o : Option Point). taker_by P s q b o (env_in T i)) (ap Some e ∙ sym (there Point points i pt lt) ∙ ap (λ (l : List Point). slice_get l i) is)
