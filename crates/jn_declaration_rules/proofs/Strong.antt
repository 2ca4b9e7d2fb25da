-- Labels that are given along supertypes tell circles; where ranks don't climb along supertypes, a class above all of its own has none.
use Rattle.std.proofs.Common.{◌≡◌, ◌<◌, ◌≤◌, ℕ, zero, suc, Bool, true, false, not, ◌||◌, ◌⊎◌, inl, inr, List, [], ◌∷◌, length, map, set, Option, Some, None, get_or, refl, sym, ap, ◌∙◌, subst, eqb, ltb, arith}
use Rattle.std.specs.Prelude.{slice_index, replicate}
use Rattle.std.proofs.lemmas.Bool.{eqb-true, eq-eqb, ltb-true, lt-ltb, or_left, or_right}
use Rattle.std.proofs.lemmas.List.{get_or-set_same, get_or-set_other}
use Rattle.jn_base.specs.declared.number.ClassNo.{ClassNo}
use Rattle.jn_points.specs.declared.program.Class.{Class}
use Rattle.jn_points.specs.declared.program.Program.{Program}
use Rattle.jn_points.specs.Lookup.{class_info, supers_of}
use Rattle.jn_points.specs.Members.{reaches, some_of}
use Rattle.jn_declaration_rules.specs.Ranks.{names_one, names_super, rises, climbs, some_climbs, Reaches, AreBelow, AreAbove, some_labelled}
use Rattle.jn_declaration_rules.specs.Rows.{is_circle}
use Rattle.jn_declaration_rules.proofs.Tests.{not_both, or_true, or_false, true_or_not, member}
use Rattle.jn_declaration_rules.proofs.Lists.{none_at, some_map}
use Rattle.jn_declaration_rules.proofs.Graph.{enough}
use Rattle.jn_declaration_rules.proofs.Subtypes.{supers_in, reaches_by_edges}

-- where a supertype that is named passes, some passes
some_super : (test : ℕ → Bool) (s : ℕ) (xs : List ClassNo) → names_one s xs ≡ true → test s ≡ true → some_of (λ (t : ClassNo). test t.0) xs ≡ true
some_super test s [] h k = cc
some_super test s (x ∷ xs) h k = by (or_true (eqb x.0 s) (names_one s xs) h) (λ e. some_super test s xs e k)
  where
    by : (eqb x.0 s ≡ true) ⊎ (names_one s xs ≡ true) → (names_one s xs ≡ true → some_of (λ (t : ClassNo). test t.0) xs ≡ true) → some_of (λ (t : ClassNo). test t.0) (x ∷ xs) ≡ true
    by (inl e) rest = or_left (test x.0) (some_of (λ (t : ClassNo). test t.0) xs) (subst (λ n. test n ≡ true) (sym (eqb-true x.0 s e)) k)
    by (inr e) rest = or_right (test x.0) (some_of (λ (t : ClassNo). test t.0) xs) (rest e)

super_some : (test : ℕ → Bool) (xs : List ClassNo) → some_of (λ (t : ClassNo). test t.0) xs ≡ true → (s : ClassNo) × (names_one s.0 xs ≡ true) × (test s.0 ≡ true)
super_some test [] h = cc
super_some test (x ∷ xs) h = by (or_true (test x.0) (some_of (λ (t : ClassNo). test t.0) xs) h) (super_some test xs)
  where
    by : (test x.0 ≡ true) ⊎ (some_of (λ (t : ClassNo). test t.0) xs ≡ true) → (some_of (λ (t : ClassNo). test t.0) xs ≡ true → (s : ClassNo) × (names_one s.0 xs ≡ true) × (test s.0 ≡ true)) → (s : ClassNo) × (names_one s.0 (x ∷ xs) ≡ true) × (test s.0 ≡ true)
    by (inl e) rest = (x, or_left (eqb x.0 x.0) (names_one x.0 xs) (eq-eqb x.0 x.0 refl), e)
    by (inr e) rest = let r = rest e in (r.0, or_right (eqb x.0 r.0.0) (names_one r.0.0 xs) r.1, r.2)

-- where none passes, one that is named doesn't
super_none : (test : ℕ → Bool) (s : ℕ) (xs : List ClassNo) → some_of (λ (t : ClassNo). test t.0) xs ≡ false → names_one s xs ≡ true → test s ≡ false
super_none test s xs none named = by (true_or_not (test s))
  where
    by : (test s ≡ true) ⊎ (test s ≡ false) → test s ≡ false
    by (inl e) = absurd (not_both (some_of (λ (t : ClassNo). test t.0) xs) (some_super test s xs named e) none)
    by (inr e) = e

-- the item at a place is named
pub named_at : (xs : List ClassNo) (i : ℕ) (d : ClassNo) → i < length xs → names_one (get_or xs i d).0 xs ≡ true
named_at [] i d l = absurd (omega arith)
named_at (x ∷ xs) zero d l = or_left (eqb x.0 x.0) (names_one x.0 xs) (eq-eqb x.0 x.0 refl)
named_at (x ∷ xs) (suc i) d l = or_right (eqb x.0 (get_or xs i d).0) (names_one (get_or xs i d).0 xs) (named_at xs i d (omega arith))

-- one more label that is right
written : (Q : ℕ → ℕ → Type 0) (xs : List ℕ) (c label : ℕ) → c < length xs → ((v r : ℕ) → slice_index xs v ≡ suc r → Q v r) → ((r : ℕ) → label ≡ suc r → Q c r) → (v r : ℕ) → slice_index (set xs c label) v ≡ suc r → Q v r
written Q xs c label l old new v r e = by (true_or_not (eqb v c))
  where
    by : (eqb v c ≡ true) ⊎ (eqb v c ≡ false) → Q v r
    by (inl k) =
        let same : v ≡ c = eqb-true v c k in
        let here : get_or (set xs c label) c 0 ≡ label = get_or-set_same xs c label 0 l in
        subst (λ n. Q n r) (sym same) (new r (sym here ∙ (ap (λ n. slice_index (set xs c label) n) (sym same) ∙ e)))
    by (inr k) =
        let other : v ≡ c → ⊥ = λ s. not_both (eqb v c) (eq-eqb v c s) k in
        let there : get_or (set xs c label) v 0 ≡ get_or xs v 0 = get_or-set_other xs c v label 0 other in
        old v r (sym there ∙ e)

zeros : (n v : ℕ) → slice_index (replicate n 0) v ≡ 0
zeros zero zero = refl
zeros zero (suc v) = refl
zeros (suc n) zero = refl
zeros (suc n) (suc v) = zeros n v

no_suc : (a r : ℕ) → a ≡ 0 → a ≡ suc r → ⊥
no_suc a r e k = omega (arith, e, k)

pub none_below : (P : Program) (n : ℕ) → AreBelow P (replicate n 0)
none_below P n v r e = absurd (no_suc (slice_index (replicate n 0) v) r (zeros n v) e)

pub none_above : (P : Program) (n : ℕ) → AreAbove P (replicate n 0)
none_above P n v r e = absurd (no_suc (slice_index (replicate n 0) v) r (zeros n v) e)

module _ (P : Program) where
  step : (n c s d : ℕ) → names_super P c s ≡ true → reaches P n s d ≡ true → reaches P (suc n) c d ≡ true
  step n c s d named h = or_right (eqb c d) (some_of (λ (t : ClassNo). reaches P n t.0 d) (supers_of (class_info P c))) (some_super (λ k. reaches P n k d) s (supers_of (class_info P c)) named h)

  joined : (n c d e : ℕ) → reaches P n c d ≡ true → Reaches P d e → Reaches P c e
  joined zero c d e h r = subst (λ z. Reaches P z e) (sym (eqb-true c d h)) r
  joined (suc n) c d e h r = by (or_true (eqb c d) (some_of (λ (s : ClassNo). reaches P n s.0 d) (supers_of (class_info P c))) h) (λ s k. joined n s d e k r)
    where
      by : (eqb c d ≡ true) ⊎ (some_of (λ (s : ClassNo). reaches P n s.0 d) (supers_of (class_info P c)) ≡ true) → ((s : ℕ) → reaches P n s d ≡ true → Reaches P s e) → Reaches P c e
      by (inl k) rest = subst (λ z. Reaches P z e) (sym (eqb-true c d k)) r
      by (inr k) rest =
          let s = super_some (λ k. reaches P n k d) (supers_of (class_info P c)) k in
          let t = rest s.0.0 s.2 in
          (suc t.0, step t.0 c s.0.0 e s.1 t.1)

  itself : (c r : ℕ) → suc c ≡ suc r → Reaches P c r
  itself c r e = (zero, eq-eqb c r (let k : c ≡ r = omega arith in k))

  itself_up : (c r : ℕ) → suc c ≡ suc r → Reaches P r c
  itself_up c r e = (zero, eq-eqb r c (let k : r ≡ c = omega arith in k))

  pub below_start : (xs : List ℕ) (c label : ℕ) → c < length xs → label ≡ suc c → AreBelow P xs → AreBelow P (set xs c label)
  below_start xs c label l is h = written (λ v r. Reaches P v r) xs c label l h (λ r e. itself c r (sym is ∙ e))

  pub below_more : (xs : List ℕ) (c s label : ℕ) → c < length xs → names_super P c s ≡ true → label ≡ slice_index xs s → AreBelow P xs → AreBelow P (set xs c label)
  below_more xs c s label l named is h = written (λ v r. Reaches P v r) xs c label l h (λ r e. let t = h s r (sym is ∙ e) in (suc t.0, step t.0 c s r named t.1))

  pub above_start : (xs : List ℕ) (c label : ℕ) → c < length xs → label ≡ suc c → AreAbove P xs → AreAbove P (set xs c label)
  above_start xs c label l is h = written (λ v r. Reaches P r v) xs c label l h (λ r e. itself_up c r (sym is ∙ e))

  above_named : (xs : List ℕ) (c s label : ℕ) → s < length xs → names_super P c s ≡ true → label ≡ slice_index xs c → AreAbove P xs → AreAbove P (set xs s label)
  above_named xs c s label l named is h = written (λ v r. Reaches P r v) xs s label l h (λ r e. let t = h c r (sym is ∙ e) in joined t.0 r c s t.1 (suc zero, step zero c s s named (eq-eqb s s refl)))

  pub above_more : (xs : List ℕ) (c i s label : ℕ) (d : ClassNo) (x : Class) → class_info P c ≡ Some x → i < length x.supers → s ≡ (get_or x.supers i d).0 → s < length xs → label ≡ slice_index xs c → AreAbove P xs → AreAbove P (set xs s label)
  above_more xs c i s label d x at within same l is h =
      let named : names_one s x.supers ≡ true = subst (λ n. names_one n x.supers ≡ true) (sym same) (named_at x.supers i d within) in
      above_named xs c s label l (subst (λ o. names_one s (supers_of o) ≡ true) (sym at) named) is h

  module _ (ranks : List ℕ) (steady : some_climbs ranks P ≡ false) where
    -- a supertype that is named is there, and no higher
    level : (c s : ℕ) (x : Class) → class_info P c ≡ Some x → names_one s x.supers ≡ true → (ltb s (length P.classes) ≡ true) × (ltb (slice_index ranks c) (slice_index ranks s) ≡ false)
    level c s x at named =
        let h : (not (ltb s (length P.classes)) || ltb (slice_index ranks c) (slice_index ranks s)) ≡ false = super_none (λ k. not (ltb k (length P.classes)) || ltb (slice_index ranks c) (slice_index ranks k)) s x.supers (none_at (λ c (x : Class). climbs ranks (length P.classes) c x.supers) P.classes steady c x at) named in
        let p = or_false (not (ltb s (length P.classes))) (ltb (slice_index ranks c) (slice_index ranks s)) h in
        (two_not (ltb s (length P.classes)) p.0, p.1)
      where
        two_not : (b : Bool) → not b ≡ false → b ≡ true
        two_not true h = refl
        two_not false h = cc

    no_higher : (a b : ℕ) → ltb a b ≡ false → b ≤ a
    no_higher a b h = by (true_or_less a b)
      where
        true_or_less : (a b : ℕ) → (a < b) ⊎ (b ≤ a)
        true_or_less zero zero = inr (omega arith)
        true_or_less zero (suc b) = inl (omega arith)
        true_or_less (suc a) zero = inr (omega arith)
        true_or_less (suc a) (suc b) = up (true_or_less a b)
          where
            up : (a < b) ⊎ (b ≤ a) → (suc a < suc b) ⊎ (suc b ≤ suc a)
            up (inl l) = inl (omega arith)
            up (inr l) = inr (omega arith)

        by : (a < b) ⊎ (b ≤ a) → b ≤ a
        by (inl l) = absurd (not_both (ltb a b) (lt-ltb a b l) h)
        by (inr l) = l

    never_up : (n c d : ℕ) → reaches P n c d ≡ true → slice_index ranks d ≤ slice_index ranks c
    never_up zero c d h = let e : c ≡ d = eqb-true c d h in subst (λ z. slice_index ranks z ≤ slice_index ranks c) e (omega arith)
    never_up (suc n) c d h = by (class_info P c) refl (or_true (eqb c d) (some_of (λ (s : ClassNo). reaches P n s.0 d) (supers_of (class_info P c))) h) (λ s k. never_up n s d k)
      where
        by : (o : Option Class) → class_info P c ≡ o → (eqb c d ≡ true) ⊎ (some_of (λ (s : ClassNo). reaches P n s.0 d) (supers_of o) ≡ true) → ((s : ℕ) → reaches P n s d ≡ true → slice_index ranks d ≤ slice_index ranks s) → slice_index ranks d ≤ slice_index ranks c
        by o at (inl e) rest = let k : c ≡ d = eqb-true c d e in subst (λ z. slice_index ranks z ≤ slice_index ranks c) k (omega arith)
        by None at (inr e) rest = cc
        by (Some x) at (inr e) rest =
            let s = super_some (λ k. reaches P n k d) x.supers e in
            let a : slice_index ranks d ≤ slice_index ranks s.0.0 = rest s.0.0 s.2 in
            let b : slice_index ranks s.0.0 ≤ slice_index ranks c = no_higher (slice_index ranks c) (slice_index ranks s.0.0) (level c s.0.0 x at s.1).1 in
            omega (arith, a, b)

    -- a class above all of its supertypes isn't met again
    pub falling_is_none : (c : ℕ) (x : Class) → class_info P c ≡ Some x → rises ranks c x.supers ≡ false → false ≡ is_circle P c x
    falling_is_none c x at fall = by (true_or_not (is_circle P c x))
      where
        two_not : (b : Bool) → not b ≡ false → b ≡ true
        two_not true h = refl
        two_not false h = cc

        by : (is_circle P c x ≡ true) ⊎ (is_circle P c x ≡ false) → false ≡ is_circle P c x
        by (inl h) =
            let s = super_some (λ k. reaches P (length P.classes) k c) x.supers h in
            let a : slice_index ranks c ≤ slice_index ranks s.0.0 = never_up (length P.classes) s.0.0 c s.2 in
            let b : slice_index ranks s.0.0 < slice_index ranks c = ltb-true (slice_index ranks s.0.0) (slice_index ranks c) (two_not (ltb (slice_index ranks s.0.0) (slice_index ranks c)) (super_none (λ k. not (ltb (slice_index ranks k) (slice_index ranks c))) s.0.0 x.supers fall s.1)) in
            absurd (omega (arith, a, b))
        by (inr h) = sym h

    inside : (c s : ℕ) → member s (supers_in P.classes c) ≡ true → s < length P.classes
    inside c s m = by (class_info P c) refl m
      where
        by : (o : Option Class) → class_info P c ≡ o → member s (map (λ (t : ClassNo). t.0) (supers_of o)) ≡ true → s < length P.classes
        by None at m = cc
        by (Some x) at m = ltb-true s (length P.classes) (level c s x at (sym (some_map (λ t. eqb t s) (λ (t : ClassNo). t.0) x.supers) ∙ m)).0

    few : (n s d : ℕ) → s < length P.classes → reaches P n s d ≡ true → reaches P (length P.classes) s d ≡ true
    few n s d l h =
        reaches_by_edges P (length P.classes) s d
        ∙ enough (supers_in P.classes) (length P.classes) inside n (length P.classes) s d (omega arith) l (sym (reaches_by_edges P n s d) ∙ h)

    circle_by : (c s r : ℕ) (x : Class) (below above : List ℕ) → class_info P c ≡ Some x → names_one s x.supers ≡ true → AreBelow P below → AreAbove P above → slice_index below s ≡ suc r → slice_index above c ≡ suc r → true ≡ is_circle P c x
    circle_by c s r x below above at named down up b a =
        let down_to = down s r b in
        let around = joined down_to.0 s r c down_to.1 (up c r a) in
        let within : s < length P.classes = ltb-true s (length P.classes) (level c s x at named).0 in
        sym (some_super (λ k. reaches P (length P.classes) k c) s x.supers named (few around.0 s c within around.1))

    -- a class of a label whose supertype reaches the class of that label
    pub labelled_is_circle : (c label : ℕ) (x : Class) (below above : List ℕ) → class_info P c ≡ Some x → AreBelow P below → AreAbove P above → label ≡ slice_index above c → 0 < label → some_labelled below label x.supers ≡ true → true ≡ is_circle P c x
    labelled_is_circle c zero x below above at down up is some h = absurd (omega arith)
    labelled_is_circle c (suc r) x below above at down up is some h =
        let s = super_some (λ k. eqb (slice_index below k) (suc r)) x.supers h in
        circle_by c s.0.0 r x below above at s.1 down up (eqb-true (slice_index below s.0.0) (suc r) s.2) (sym is)
