-- A field hides one where a supertype's table has its name.
use Rattle.std.proofs.Common.{◌≡◌, ◌<◌, ℕ, zero, suc, Bool, true, false, not, ◌||◌, ◌&&◌, ◌⊎◌, inl, inr, List, [], ◌∷◌, length, Option, Some, None, refl, sym, ap, ◌∙◌, subst, eqb, arith}
use Rattle.std.specs.Option.{is_some}
use Rattle.std.proofs.lemmas.Bool.{eqb-true, eq-eqb, or_left, or_right}
use Rattle.jn_base.specs.declared.number.ClassNo.{ClassNo}
use Rattle.jn_points.specs.declared.program.Class.{Class}
use Rattle.jn_points.specs.declared.program.Field.{Field}
use Rattle.jn_points.specs.declared.program.Program.{Program}
use Rattle.jn_points.specs.Lookup.{class_info, supers_of}
use Rattle.jn_points.specs.Members.{some_of, first_or, reaches, sub}
use Rattle.jn_member_tables.specs.Tables.{Trees, find_in}
use Rattle.jn_member_tables.proofs.Ready.{class_inside, some_super}
use Rattle.jn_declaration_rules.specs.Rows.{is_hiding}
use Rattle.jn_declaration_rules.specs.Hidden.{declares, AreOwners, Untold, object, circle, found_above}
use Rattle.jn_declaration_rules.proofs.Tests.{and_true, and_both, or_true, true_or_not, not_true, not_both}

-- an item that passes; each test that it passes some item does
passing : {A : Type 0} (test : A → Bool) (xs : List A) → some_of test xs ≡ true → (x : A) × (test x ≡ true) × ((other : A → Bool) → other x ≡ true → some_of other xs ≡ true)
passing test [] h = cc
passing {A} test (x ∷ xs) h = by (or_true (test x) (some_of test xs) h) (passing test xs)
  where
    by : (test x ≡ true) ⊎ (some_of test xs ≡ true) → (some_of test xs ≡ true → (y : A) × (test y ≡ true) × ((other : A → Bool) → other y ≡ true → some_of other xs ≡ true)) → (y : A) × (test y ≡ true) × ((other : A → Bool) → other y ≡ true → some_of other (x ∷ xs) ≡ true)
    by (inl e) rest = (x, e, λ other k. or_left (other x) (some_of other xs) k)
    by (inr e) rest = let r = rest e in (r.0, r.1, λ other k. or_right (other x) (some_of other xs) (r.2 other k))

super_some : (f : ℕ → Bool) (ss : List ClassNo) (s : ℕ) → some_of (λ (t : ClassNo). eqb t.0 s) ss ≡ true → f s ≡ true → some_of (λ (t : ClassNo). f t.0) ss ≡ true
super_some f ss s h k =
    let r = passing (λ (t : ClassNo). eqb t.0 s) ss h in
    r.2 (λ (t : ClassNo). f t.0) (subst (λ z. f z ≡ true) (sym (eqb-true r.0.0 s r.1)) k)

none_found : (t : Trees) (name : ℕ) (ss : List ClassNo) (s : ℕ) → found_above t name ss ≡ None → some_of (λ (u : ClassNo). eqb u.0 s) ss ≡ true → find_in t s name ≡ None
none_found t name [] s h k = cc
none_found t name (u ∷ ss) s h k = by (find_in t u.0 name) refl h (or_true (eqb u.0 s) (some_of (λ (v : ClassNo). eqb v.0 s) ss) k) (none_found t name ss s)
  where
    by : (o : Option ℕ) → find_in t u.0 name ≡ o → first_or o (found_above t name ss) ≡ None → (eqb u.0 s ≡ true) ⊎ (some_of (λ (v : ClassNo). eqb v.0 s) ss ≡ true) → (found_above t name ss ≡ None → some_of (λ (v : ClassNo). eqb v.0 s) ss ≡ true → find_in t s name ≡ None) → find_in t s name ≡ None
    by None e h (inl k) rest = subst (λ z. find_in t z name ≡ None) (eqb-true u.0 s k) e
    by None e h (inr k) rest = rest h k
    by (Some d) e h k rest = cc

some_found : (t : Trees) (name : ℕ) (ss : List ClassNo) (d : ℕ) → found_above t name ss ≡ Some d → (s : ClassNo) × (some_of (λ (u : ClassNo). eqb u.0 s.0) ss ≡ true) × (find_in t s.0 name ≡ Some d)
some_found t name [] d h = cc
some_found t name (u ∷ ss) d h = by (find_in t u.0 name) refl h (some_found t name ss d)
  where
    by : (o : Option ℕ) → find_in t u.0 name ≡ o → first_or o (found_above t name ss) ≡ Some d → (found_above t name ss ≡ Some d → (s : ClassNo) × (some_of (λ (v : ClassNo). eqb v.0 s.0) ss ≡ true) × (find_in t s.0 name ≡ Some d)) → (s : ClassNo) × (some_of (λ (v : ClassNo). eqb v.0 s.0) (u ∷ ss) ≡ true) × (find_in t s.0 name ≡ Some d)
    by None e h rest = let r = rest h in (r.0, or_right (eqb u.0 r.0.0) (some_of (λ (v : ClassNo). eqb v.0 r.0.0) ss) r.1, r.2)
    by (Some v) e h rest = (u, or_left (eqb u.0 u.0) (some_of (λ (v : ClassNo). eqb v.0 u.0) ss) (eq-eqb u.0 u.0 refl), e ∙ h)

reaches_self : (P : Program) (k c : ℕ) → reaches P k c c ≡ true
reaches_self P zero c = eq-eqb c c refl
reaches_self P (suc k) c = or_left (eqb c c) (some_of (λ (s : ClassNo). reaches P k s.0 c) (supers_of (class_info P c))) (eq-eqb c c refl)

module _ (P : Program) (n : ℕ) (t : Trees) (are : AreOwners P n t) (x : Field) (info : Class) (at : class_info P x.owner.0 ≡ Some info) (low : x.name.0 < n) where
  inside : x.owner.0 < length P.classes
  inside = class_inside P.classes x.owner.0 info at

  -- a class that is named as a supertype is there
  super_inside : (s : ℕ) → some_of (λ (u : ClassNo). eqb u.0 s) info.supers ≡ true → s < length P.classes
  super_inside s h = are.within x.owner.0 s 1 inside (or_right (eqb x.owner.0 s) (some_of (λ (u : ClassNo). eqb u.0 s) (supers_of (class_info P x.owner.0))) (subst (λ o. some_of (λ (u : ClassNo). eqb u.0 s) (supers_of o) ≡ true) (sym at) h))

  step : (d : ℕ) → (eqb x.owner.0 d || some_of (λ (s : ClassNo). reaches P (length P.classes) s.0 d) info.supers) ≡ reaches P (length P.classes) x.owner.0 d
  step d = sym (ap (λ o. eqb x.owner.0 d || some_of (λ (s : ClassNo). reaches P (length P.classes) s.0 d) (supers_of o)) at) ∙ are.steady x.owner.0 d inside

  abbrev hides : Field → Bool
  hides y = eqb x.name.0 y.name.0 && not (eqb x.owner.0 y.owner.0) && sub P x.owner.0 y.owner.0

  pub some_above : (d : ℕ) → found_above t x.name.0 info.supers ≡ Some d → (d ≡ x.owner.0 → ⊥) → is_hiding P x ≡ true
  some_above d h other =
      let s = some_found t x.name.0 info.supers d h in
      let own = are.some s.0.0 d x.name.0 (super_inside s.0.0 s.1) low s.2 in
      let above : some_of (λ (u : ClassNo). reaches P (length P.classes) u.0 d) info.supers ≡ true = super_some (λ u. reaches P (length P.classes) u d) info.supers s.0.0 s.1 own.0 in
      let r : reaches P (length P.classes) x.owner.0 d ≡ true = sym (step d) ∙ or_right (eqb x.owner.0 d) (some_of (λ (u : ClassNo). reaches P (length P.classes) u.0 d) info.supers) above in
      let y = passing (λ (y : Field). eqb y.owner.0 d && eqb y.name.0 x.name.0) P.fields own.1 in
      let parts = and_true (eqb y.0.owner.0 d) (eqb y.0.name.0 x.name.0) y.1 in
      let owner : y.0.owner.0 ≡ d = eqb-true y.0.owner.0 d parts.0 in
      let name : x.name.0 ≡ y.0.name.0 = sym (eqb-true y.0.name.0 x.name.0 parts.1) in
      let apart : eqb x.owner.0 y.0.owner.0 ≡ false = subst (λ z. eqb x.owner.0 z ≡ false) (sym owner) (by (true_or_not (eqb x.owner.0 d))) in
      y.2 hides (and_both (eqb x.name.0 y.0.name.0 && not (eqb x.owner.0 y.0.owner.0)) (sub P x.owner.0 y.0.owner.0) (and_both (eqb x.name.0 y.0.name.0) (not (eqb x.owner.0 y.0.owner.0)) (eq-eqb x.name.0 y.0.name.0 name) (ap not apart)) (or_right (eqb y.0.owner.0 0) (reaches P (length P.classes) x.owner.0 y.0.owner.0) (subst (λ z. reaches P (length P.classes) x.owner.0 z ≡ true) (sym owner) r)))
    where
      by : (eqb x.owner.0 d ≡ true) ⊎ (eqb x.owner.0 d ≡ false) → eqb x.owner.0 d ≡ false
      by (inl e) = absurd (other (sym (eqb-true x.owner.0 d e)))
      by (inr e) = e

  -- Object or a class above it declares what its table finds
  pub untold_object : (o : Option ℕ) → find_in t 0 x.name.0 ≡ o → is_some o ≡ true → Untold P n x info
  untold_object None e h = cc
  untold_object (Some d) e h =
      let lt = inside in
      let own = are.some 0 d x.name.0 (omega (arith, lt)) low e in
      object d own.0 own.1

  -- a class that its own supertypes find stands above itself
  pub untold_circle : (d : ℕ) → found_above t x.name.0 info.supers ≡ Some d → d ≡ x.owner.0 → Untold P n x info
  untold_circle d h same =
      let s = some_found t x.name.0 info.supers d h in
      let own = are.some s.0.0 d x.name.0 (super_inside s.0.0 s.1) low s.2 in
      circle (subst (λ z. some_of (λ (u : ClassNo). reaches P (length P.classes) u.0 z) info.supers ≡ true) same (super_some (λ u. reaches P (length P.classes) u d) info.supers s.0.0 s.1 own.0))

  -- a class on the walk of a class that finds nothing declares no field of the name
  unseen : (s : ℕ) (y : Field) → s < length P.classes → find_in t s x.name.0 ≡ None → reaches P (length P.classes) s y.owner.0 ≡ true → declares P y.owner.0 x.name.0 ≡ true → ⊥
  unseen s y lt none r d = not_both (declares P y.owner.0 x.name.0) d (are.none s y.owner.0 x.name.0 lt low none r)

  pub none_above : find_in t 0 x.name.0 ≡ None → found_above t x.name.0 info.supers ≡ None → is_hiding P x ≡ false
  none_above first h = by (true_or_not (is_hiding P x))
    where
      lowest : 0 < length P.classes
      lowest = let lt = inside in omega (arith, lt)

      over : (y : Field) → eqb x.owner.0 y.owner.0 ≡ false → (eqb x.owner.0 y.owner.0 ≡ true) ⊎ (some_of (λ (s : ClassNo). reaches P (length P.classes) s.0 y.owner.0) info.supers ≡ true) → declares P y.owner.0 x.name.0 ≡ true → ⊥
      over y apart (inl e) d = not_both (eqb x.owner.0 y.owner.0) e apart
      over y apart (inr e) d =
          let s = some_super (λ (s : ClassNo). reaches P (length P.classes) s.0 y.owner.0) info.supers e in
          unseen s.0.0 y (super_inside s.0.0 s.1) (none_found t x.name.0 info.supers s.0.0 h s.1) s.2 d

      within : (y : Field) → eqb x.owner.0 y.owner.0 ≡ false → (eqb y.owner.0 0 ≡ true) ⊎ (reaches P (length P.classes) x.owner.0 y.owner.0 ≡ true) → declares P y.owner.0 x.name.0 ≡ true → ⊥
      within y apart (inl e) d = unseen 0 y lowest first (subst (λ z. reaches P (length P.classes) 0 z ≡ true) (sym (eqb-true y.owner.0 0 e)) (reaches_self P (length P.classes) 0)) d
      within y apart (inr e) d = over y apart (or_true (eqb x.owner.0 y.owner.0) (some_of (λ (s : ClassNo). reaches P (length P.classes) s.0 y.owner.0) info.supers) (step y.owner.0 ∙ e)) d

      none : is_hiding P x ≡ true → ⊥
      none k =
          let y = passing hides P.fields k in
          let both = and_true (eqb x.name.0 y.0.name.0 && not (eqb x.owner.0 y.0.owner.0)) (sub P x.owner.0 y.0.owner.0) y.1 in
          let parts = and_true (eqb x.name.0 y.0.name.0) (not (eqb x.owner.0 y.0.owner.0)) both.0 in
          let name : eqb y.0.name.0 x.name.0 ≡ true = eq-eqb y.0.name.0 x.name.0 (sym (eqb-true x.name.0 y.0.name.0 parts.0)) in
          let own : declares P y.0.owner.0 x.name.0 ≡ true = y.2 (λ (z : Field). eqb z.owner.0 y.0.owner.0 && eqb z.name.0 x.name.0) (and_both (eqb y.0.owner.0 y.0.owner.0) (eqb y.0.name.0 x.name.0) (eq-eqb y.0.owner.0 y.0.owner.0 refl) name) in
          within y.0 (not_true (eqb x.owner.0 y.0.owner.0) parts.1) (or_true (eqb y.0.owner.0 0) (reaches P (length P.classes) x.owner.0 y.0.owner.0) both.1) own

      by : (is_hiding P x ≡ true) ⊎ (is_hiding P x ≡ false) → is_hiding P x ≡ false
      by (inl k) = absurd (none k)
      by (inr k) = k
