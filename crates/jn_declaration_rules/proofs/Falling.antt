-- Where ranks fall no class is its own supertype.
use Rattle.std.proofs.Common.{◌≡◌, ◌<◌, ◌≤◌, ◌+◌, ◌-◌, ℕ, zero, suc, Bool, true, false, cond, not, ◌||◌, ◌⊎◌, inl, inr, List, [], ◌∷◌, ◌++◌, length, Option, Some, None, refl, sym, ap, ◌∙◌, subst, eqb, ltb, get_or, arith, length-append}
use Rattle.std.specs.Prelude.{slice_get, slice_index}
use Rattle.std.proofs.lemmas.Option.{slice_get_cases}
use Rattle.std.proofs.lemmas.Bool.{eqb-true, eq-eqb, ltb-true}
use Rattle.jn_base.specs.declared.code.Code.{Code}
use Rattle.jn_base.specs.declared.number.ClassNo.{ClassNo}
use Rattle.jn_base.specs.declared.place.Span.{Span}
use Rattle.jn_points.specs.declared.program.Class.{Class}
use Rattle.jn_points.specs.declared.program.Program.{Program}
use Rattle.jn_points.specs.Lookup.{supers_of, class_info}
use Rattle.jn_points.specs.Members.{some_of, reaches}
use Rattle.jn_declaration_rules.specs.Rows.{rows_at, is_circle}
use Rattle.jn_declaration_rules.specs.Ranks.{rises, some_rises, mark_at, MarksReaching}
use Rattle.std.specs.Cmp.Lexicographic.{pointwise}
use Rattle.std.proofs.Math.Bool.{beq}
use Rattle.jn_declaration_rules.proofs.Tests.{and_true, or_true, or_false, not_both, true_or_not}
use Rattle.jn_declaration_rules.proofs.Lists.{none_at, some_same}

-- where no item passes there are no rows
rows_empty : {A : Type 0} (code : Code) (place : A → Span) (test : ℕ → A → Bool) (i : ℕ) (xs : List A) → ((k : ℕ) (x : A) → slice_get xs k ≡ Some x → test (i + k) x ≡ false) → rows_at code place test i xs ≡ []
rows_empty code place test i [] h = refl
rows_empty {A} code place test i (x ∷ xs) h =
    let here : test i x ≡ false = subst (λ n. test n x ≡ false) (let e : i + 0 ≡ i = omega arith in e) (h 0 x refl) in
    let rest : rows_at code place test (suc i) xs ≡ [] = rows_empty code place test (suc i) xs (λ k y at. subst (λ n. test n y ≡ false) (let e : i + suc k ≡ suc i + k = omega arith in e) (h (suc k) y at)) in
    ap (λ b. cond b (record { span = place x; code = code } ∷ []) [] ++ rows_at code place test (suc i) xs) here ∙ rest

two_not : (b : Bool) → not b ≡ false → b ≡ true
two_not true h = refl
two_not false h = cc

module _ (P : Program) (ranks : List ℕ) (fall : some_rises ranks P ≡ false) where
  falls : (c : ℕ) (x : Class) → class_info P c ≡ Some x → rises ranks c x.supers ≡ false
  falls c x at = none_at (λ c (x : Class). rises ranks c x.supers) P.classes fall c x at

  -- a supertype of the list that reaches d has at least d's rank, and less than c's
  along : (n c d : ℕ) (xs : List ClassNo) → ((s d : ℕ) → reaches P n s d ≡ true → slice_index ranks d ≤ slice_index ranks s) → rises ranks c xs ≡ false → some_of (λ (s : ClassNo). reaches P n s.0 d) xs ≡ true → slice_index ranks d < slice_index ranks c
  along n c d [] below h k = cc
  along n c d (x ∷ xs) below h k = by (or_true (reaches P n x.0 d) (some_of (λ (s : ClassNo). reaches P n s.0 d) xs) k) (along n c d xs below (or_false (not (ltb (slice_index ranks x.0) (slice_index ranks c))) (rises ranks c xs) h).1)
    where
      by : (reaches P n x.0 d ≡ true) ⊎ (some_of (λ (s : ClassNo). reaches P n s.0 d) xs ≡ true) → (some_of (λ (s : ClassNo). reaches P n s.0 d) xs ≡ true → slice_index ranks d < slice_index ranks c) → slice_index ranks d < slice_index ranks c
      by (inl e) rest =
          let a : slice_index ranks d ≤ slice_index ranks x.0 = below x.0 d e in
          let b : slice_index ranks x.0 < slice_index ranks c = ltb-true (slice_index ranks x.0) (slice_index ranks c) (two_not (ltb (slice_index ranks x.0) (slice_index ranks c)) (or_false (not (ltb (slice_index ranks x.0) (slice_index ranks c))) (rises ranks c xs) h).0) in
          omega arith
      by (inr e) rest = rest e

  reach_falls : (n c d : ℕ) → reaches P n c d ≡ true → slice_index ranks d ≤ slice_index ranks c
  reach_falls zero c d h = let e : c ≡ d = eqb-true c d h in subst (λ z. slice_index ranks z ≤ slice_index ranks c) e (omega arith)
  reach_falls (suc n) c d h = by (class_info P c) refl (or_true (eqb c d) (some_of (λ (s : ClassNo). reaches P n s.0 d) (supers_of (class_info P c))) h) (λ s d. reach_falls n s d)
    where
      by : (o : Option Class) → class_info P c ≡ o → (eqb c d ≡ true) ⊎ (some_of (λ (s : ClassNo). reaches P n s.0 d) (supers_of o) ≡ true) → ((s d : ℕ) → reaches P n s d ≡ true → slice_index ranks d ≤ slice_index ranks s) → slice_index ranks d ≤ slice_index ranks c
      by o at (inl e) rest = let k : c ≡ d = eqb-true c d e in subst (λ z. slice_index ranks z ≤ slice_index ranks c) k (omega arith)
      by None at (inr e) rest = cc
      by (Some x) at (inr e) rest = let l : slice_index ranks d < slice_index ranks c = along n c d x.supers rest (falls c x at) e in omega arith

  no_circle : (c : ℕ) (x : Class) → class_info P c ≡ Some x → is_circle P c x ≡ false
  no_circle c x at = by (true_or_not (is_circle P c x))
    where
      by : (is_circle P c x ≡ true) ⊎ (is_circle P c x ≡ false) → is_circle P c x ≡ false
      by (inl e) = absurd (let l : slice_index ranks c < slice_index ranks c = along (length P.classes) c c x.supers (reach_falls (length P.classes)) (falls c x at) e in omega arith)
      by (inr e) = e

pub no_circle_rows : (P : Program) (ranks : List ℕ) (code : Code) (place : Class → Span) → some_rises ranks P ≡ false → rows_at code place (is_circle P) 0 P.classes ≡ []
no_circle_rows P ranks code place fall = rows_empty code place (is_circle P) 0 P.classes (λ k x at. subst (λ n. is_circle P n x ≡ false) (let e : k ≡ 0 + k = omega arith in e) (no_circle P ranks fall k x at))

-- marks by rounds

pub stable : (P : Program) (d k : ℕ) → ((v : ℕ) → reaches P (suc k) v d ≡ reaches P k v d) → (j v : ℕ) → reaches P (k + j) v d ≡ reaches P k v d
stable P d k h zero v = ap (λ n. reaches P n v d) (let e : k + 0 ≡ k = omega arith in e)
stable P d k h (suc j) v =
    ap (λ n. reaches P n v d) (let e : k + suc j ≡ suc (k + j) = omega arith in e)
    ∙ (ap (λ b. eqb v d || b) (some_same (λ (s : ClassNo). reaches P (k + j) s.0 d) (λ (s : ClassNo). reaches P k s.0 d) (supers_of (class_info P v)) (λ s. stable P d k h j s.0)) ∙ h v)

mark_more : (xs : List Bool) (b : Bool) (v : ℕ) → v < length xs → mark_at (xs ++ b ∷ []) v ≡ mark_at xs v
mark_more [] b v l = absurd (omega arith)
mark_more (x ∷ xs) b zero l = refl
mark_more (x ∷ xs) b (suc v) l = mark_more xs b v (omega arith)

mark_last : (xs : List Bool) (b : Bool) → mark_at (xs ++ b ∷ []) (length xs) ≡ b
mark_last [] b = refl
mark_last (x ∷ xs) b = mark_last xs b

mark_past : (xs : List Bool) (v : ℕ) → length xs ≤ v → mark_at xs v ≡ false
mark_past [] v l = refl
mark_past (x ∷ xs) zero l = absurd (omega arith)
mark_past (x ∷ xs) (suc v) l = mark_past xs v (omega arith)

-- marks of the first classes, as a test gives them
abbrev pub MarkedBelow : (ℕ → Bool) → ℕ → List Bool → Type 0
MarkedBelow f i marks = record { long : length marks ≡ i; marked : (v : ℕ) → v < i → mark_at marks v ≡ f v }

pub marked_more : (f : ℕ → Bool) (i : ℕ) (b : Bool) (old new : List Bool) → new ≡ old ++ b ∷ [] → b ≡ f i → MarkedBelow f i old → MarkedBelow f (i + 1) new
marked_more f i b old new is at before =
    record {
      long = ap length is ∙ (length-append old (b ∷ []) ∙ (let e : length old ≡ i = before.long in omega arith));
      marked = λ v l. ap (λ x. mark_at x v) is ∙ by v (true_or_not (eqb v i)) l;
    }
  where
    here : (v : ℕ) → v ≡ length old → mark_at (old ++ b ∷ []) v ≡ b
    here v e = subst (λ n. mark_at (old ++ b ∷ []) n ≡ b) (sym e) (mark_last old b)

    by : (v : ℕ) → (eqb v i ≡ true) ⊎ (eqb v i ≡ false) → v < i + 1 → mark_at (old ++ b ∷ []) v ≡ f v
    by v (inl e) l = let k : v ≡ i = eqb-true v i e in here v (k ∙ sym before.long) ∙ (at ∙ ap f (sym k))
    by v (inr e) l =
        let less : v < i = (let d : v ≡ i → ⊥ = λ k. not_both (eqb v i) (eq-eqb v i k) e in omega (arith, d)) in
        mark_more old b v (let g : length old ≡ i = before.long in omega arith) ∙ before.marked v less

-- after the last class nothing is marked, and nothing is to be
pub marked_all : (P : Program) (target : ℕ) (old new : List Bool) → target < length P.classes → MarkedBelow (λ v. eqb v target || some_of (λ (s : ClassNo). mark_at old s.0) (supers_of (class_info P v))) (length P.classes) new → (v : ℕ) → mark_at new v ≡ (eqb v target || some_of (λ (s : ClassNo). mark_at old s.0) (supers_of (class_info P v)))
marked_all P target old new inside m v = by (slice_get_cases P.classes v).1
  where
    past : length P.classes ≤ v → class_info P v ≡ None → mark_at new v ≡ (eqb v target || some_of (λ (s : ClassNo). mark_at old s.0) (supers_of (class_info P v)))
    past l e =
        let e1 : eqb v target ≡ false = none v target (omega arith) in
        mark_past new v (let g : length new ≡ length P.classes = m.long in omega arith)
        ∙ sym (ap (λ b. b || some_of (λ (s : ClassNo). mark_at old s.0) (supers_of (class_info P v))) e1 ∙ ap (λ o. some_of (λ (s : ClassNo). mark_at old s.0) (supers_of o)) e)
      where
        none : (v t : ℕ) → t < v → eqb v t ≡ false
        none v t l = differ (true_or_not (eqb v t))
          where
            differ : (eqb v t ≡ true) ⊎ (eqb v t ≡ false) → eqb v t ≡ false
            differ (inl e) = absurd (let k : v ≡ t = eqb-true v t e in omega arith)
            differ (inr e) = e

    by : ((x : Class) × (v < length P.classes) × (slice_get P.classes v ≡ Some x) × (get_or P.classes v x ≡ x)) ⊎ ((length P.classes ≤ v) × (slice_get P.classes v ≡ None)) → mark_at new v ≡ (eqb v target || some_of (λ (s : ClassNo). mark_at old s.0) (supers_of (class_info P v)))
    by (inl x) = m.marked v x.1
    by (inr e) = past e.0 e.1

pub marks_start : (P : Program) (target : ℕ) (new : List Bool) → ((v : ℕ) → mark_at new v ≡ (eqb v target || some_of (λ (s : ClassNo). mark_at [] s.0) (supers_of (class_info P v)))) → MarksReaching P 0 target new
marks_start P target new m v = m v ∙ or_none (eqb v target) (some_of (λ (s : ClassNo). mark_at [] s.0) (supers_of (class_info P v))) (nothing (supers_of (class_info P v)))
  where
    nothing : (xs : List ClassNo) → some_of (λ (s : ClassNo). mark_at [] s.0) xs ≡ false
    nothing [] = refl
    nothing (x ∷ xs) = nothing xs

    or_none : (a b : Bool) → b ≡ false → (a || b) ≡ a
    or_none true b e = refl
    or_none false b e = e

pub marks_step : (P : Program) (n target : ℕ) (old new : List Bool) → ((v : ℕ) → mark_at new v ≡ (eqb v target || some_of (λ (s : ClassNo). mark_at old s.0) (supers_of (class_info P v)))) → MarksReaching P n target old → MarksReaching P (n + 1) target new
marks_step P n target old new m before v =
    m v ∙ (ap (λ b. eqb v target || b) (some_same (λ (s : ClassNo). mark_at old s.0) (λ (s : ClassNo). reaches P n s.0 target) (supers_of (class_info P v)) (λ s. before s.0))
    ∙ ap (λ k. reaches P k v target) (let e : suc n ≡ n + 1 = omega arith in e))

-- a round that changes nothing is the last one
pub marks_end : (P : Program) (n size target : ℕ) (old new : List Bool) → n ≤ size → old ≡ new → ((v : ℕ) → mark_at new v ≡ (eqb v target || some_of (λ (s : ClassNo). mark_at old s.0) (supers_of (class_info P v)))) → MarksReaching P n target old → MarksReaching P size target old
marks_end P n size target old new l same m before v =
    before v ∙ sym (ap (λ k. reaches P k v target) (let e : size ≡ n + (size - n) = omega arith in e) ∙ stable P target n settled (size - n) v)
  where
    settled : (v : ℕ) → reaches P (suc n) v target ≡ reaches P n v target
    settled v = ap (λ k. reaches P k v target) (let e : suc n ≡ n + 1 = omega arith in e) ∙ (sym (marks_step P n target old new m before v) ∙ (ap (λ x. mark_at x v) (sym same) ∙ before v))

-- what marks say of a class
pub circle_is : (P : Program) (c : ℕ) (x : Class) (marks : List Bool) → MarksReaching P (length P.classes) c marks → some_of (λ (s : ClassNo). mark_at marks s.0) x.supers ≡ is_circle P c x
circle_is P c x marks m = some_same (λ (s : ClassNo). mark_at marks s.0) (λ (s : ClassNo). reaches P (length P.classes) s.0 c) x.supers (λ s. m s.0)

pub same_marks : (xs ys : List Bool) → pointwise beq xs ys ≡ true → xs ≡ ys
same_marks [] [] h = refl
same_marks [] (y ∷ ys) h = cc
same_marks (x ∷ xs) [] h = cc
same_marks (x ∷ xs) (y ∷ ys) h =
    let p = and_true (beq x y) (pointwise beq xs ys) h in
    ap (λ b. b ∷ xs) (equal x y p.0) ∙ ap (λ l. y ∷ l) (same_marks xs ys p.1)
  where
    equal : (a b : Bool) → beq a b ≡ true → a ≡ b
    equal true true e = refl
    equal true false e = cc
    equal false true e = cc
    equal false false e = refl
