-- Direct and proper supertypes of a regular program.
use Rattle.std.proofs.Common.{◌≡◌, ◌<◌, ◌≤◌, ℕ, zero, suc, Bool, true, false, not, ◌||◌, ◌⊎◌, inl, inr, List, [], ◌∷◌, length, Option, Some, None, refl, sym, ap, ◌∙◌, subst, eqb, arith}
use Rattle.std.specs.Prelude.{slice_get, filter}
use Rattle.std.proofs.lemmas.Bool.{eqb-true, eq-eqb, or_left, or_right}
use Rattle.jn_base.specs.declared.number.ClassNo.{ClassNo}
use Rattle.jn_points.specs.declared.program.Class.{Class}
use Rattle.jn_points.specs.declared.program.Program.{Program}
use Rattle.jn_points.specs.Lookup.{class_info, supers_of, parent_of, interface_of}
use Rattle.jn_points.specs.Members.{some_of, is_class, reaches, sub, interfaces}
use Rattle.jn_points.specs.Regular.{RegularClasses, IsParent}
use Rattle.jn_members_law.specs.Inherited.{IsInterface, IsDirectSuper, SuperBy, IsSupertype}
use Rattle.jn_members_law.proofs.Searches.{true_or_not, or_true}

pub get_below : {A : Type 0} (xs : List A) (k : ℕ) (x : A) → slice_get xs k ≡ Some x → k < length xs
get_below [] k x e = cc
get_below (y ∷ xs) zero x e = omega arith
get_below (y ∷ xs) (suc k) x e = let l : k < length xs = get_below xs k x e in omega (arith, l)

some_there : (f : ClassNo → Bool) (xs : List ClassNo) → some_of f xs ≡ true → (s : ClassNo) × (some_of (λ t. eqb t.0 s.0) xs ≡ true) × (f s ≡ true)
some_there f [] h = cc
some_there f (x ∷ xs) h = by (or_true (f x) (some_of f xs) h) (some_there f xs)
  where
    by : (f x ≡ true) ⊎ (some_of f xs ≡ true) → (some_of f xs ≡ true → (s : ClassNo) × (some_of (λ t. eqb t.0 s.0) xs ≡ true) × (f s ≡ true)) → (s : ClassNo) × (some_of (λ t. eqb t.0 s.0) (x ∷ xs) ≡ true) × (f s ≡ true)
    by (inl e) rest = (x, or_left (eqb x.0 x.0) (some_of (λ t. eqb t.0 x.0) xs) (eq-eqb x.0 x.0 refl), e)
    by (inr e) rest = let r = rest e in (r.0, or_right (eqb x.0 r.0.0) (some_of (λ t. eqb t.0 r.0.0) xs) r.1, r.2)

there_some : (f : ℕ → Bool) (xs : List ClassNo) (d : ℕ) → some_of (λ t. eqb t.0 d) xs ≡ true → f d ≡ true → some_of (λ t. f t.0) xs ≡ true
there_some f [] d h k = cc
there_some f (x ∷ xs) d h k = by (or_true (eqb x.0 d) (some_of (λ t. eqb t.0 d) xs) h) (λ h. there_some f xs d h k)
  where
    by : (eqb x.0 d ≡ true) ⊎ (some_of (λ t. eqb t.0 d) xs ≡ true) → (some_of (λ t. eqb t.0 d) xs ≡ true → some_of (λ t. f t.0) xs ≡ true) → (f x.0 || some_of (λ t. f t.0) xs) ≡ true
    by (inl e) rest = or_left (f x.0) (some_of (λ t. f t.0) xs) (subst (λ n. f n ≡ true) (sym (eqb-true x.0 d e)) k)
    by (inr e) rest = or_right (f x.0) (some_of (λ t. f t.0) xs) (rest e)

-- a supertype is the parent, or one of the others
parent_or_other : (o : Option ClassNo) (xs : List ClassNo) (d : ℕ) → some_of (λ t. eqb t.0 d) xs ≡ true → ((p : ClassNo) × (o ≡ Some p) × (p.0 ≡ d)) ⊎ ((some_of (λ t. eqb t.0 d) (filter (λ t. not (is_class o t)) xs) ≡ true) × (is_class o (record { 0 = d }) ≡ false))
parent_or_other o [] d h = cc
parent_or_other o (x ∷ xs) d h = by (or_true (eqb x.0 d) (some_of (λ t. eqb t.0 d) xs) h) (true_or_not (is_class o x)) (parent_or_other o xs d)
  where
    is_parent : (o : Option ClassNo) (x : ClassNo) → is_class o x ≡ true → x.0 ≡ d → (p : ClassNo) × (o ≡ Some p) × (p.0 ≡ d)
    is_parent None x t e = cc
    is_parent (Some p) x t e = (p, refl, eqb-true p.0 x.0 t ∙ e)

    by : (eqb x.0 d ≡ true) ⊎ (some_of (λ t. eqb t.0 d) xs ≡ true) → (is_class o x ≡ true) ⊎ (is_class o x ≡ false) → (some_of (λ t. eqb t.0 d) xs ≡ true → ((p : ClassNo) × (o ≡ Some p) × (p.0 ≡ d)) ⊎ ((some_of (λ t. eqb t.0 d) (filter (λ t. not (is_class o t)) xs) ≡ true) × (is_class o (record { 0 = d }) ≡ false))) → ((p : ClassNo) × (o ≡ Some p) × (p.0 ≡ d)) ⊎ ((some_of (λ t. eqb t.0 d) (filter (λ t. not (is_class o t)) (x ∷ xs)) ≡ true) × (is_class o (record { 0 = d }) ≡ false))
    by (inl e) (inl t) rest = inl (is_parent o x t (eqb-true x.0 d e))
    by (inl e) (inr t) rest =
        let same : x.0 ≡ d = eqb-true x.0 d e in
        inr (rw t (or_left (eqb x.0 d) (some_of (λ t. eqb t.0 d) (filter (λ t. not (is_class o t)) xs)) e), subst (λ n. is_class o (record { 0 = n }) ≡ false) same t)
    by (inr e) (inl t) rest = rw t (rest e)
    by (inr e) (inr t) rest = up (rest e)
      where
        up : ((p : ClassNo) × (o ≡ Some p) × (p.0 ≡ d)) ⊎ ((some_of (λ t. eqb t.0 d) (filter (λ t. not (is_class o t)) xs) ≡ true) × (is_class o (record { 0 = d }) ≡ false)) → ((p : ClassNo) × (o ≡ Some p) × (p.0 ≡ d)) ⊎ ((some_of (λ t. eqb t.0 d) (filter (λ t. not (is_class o t)) (x ∷ xs)) ≡ true) × (is_class o (record { 0 = d }) ≡ false))
        up (inl p) = inl p
        up (inr r) = inr (rw t (or_right (eqb x.0 d) (some_of (λ t. eqb t.0 d) (filter (λ t. not (is_class o t)) xs)) r.0), r.1)

module _ (P : Program) where
  pub super_there : (c d : ℕ) → IsDirectSuper P c d → (x : Class) × (class_info P c ≡ Some x) × (some_of (λ t. eqb t.0 d) x.supers ≡ true)
  super_there c d h = by (class_info P c) refl h
    where
      by : (o : Option Class) → class_info P c ≡ o → some_of (λ t. eqb t.0 d) (supers_of o) ≡ true → (x : Class) × (class_info P c ≡ Some x) × (some_of (λ t. eqb t.0 d) x.supers ≡ true)
      by None e h = cc
      by (Some x) e h = (x, e, h)

  pub first_super : (ss : List ℕ) (c d : ℕ) → SuperBy P ss c d → (s : ℕ) × IsDirectSuper P c s
  first_super [] c d h = (d, h)
  first_super (s ∷ ss) c d h = (s, h.0)

  pub above_there : (c d : ℕ) → IsSupertype P c d → c < length P.classes
  above_there c d a = let s = first_super a.between c d a.by in let x = super_there c s.0 s.1 in get_below P.classes c x.0 x.1

  pub parent_there : (c : ℕ) (p : ClassNo) → parent_of (class_info P c) ≡ Some p → (x : Class) × (class_info P c ≡ Some x) × (x.parent ≡ Some p)
  parent_there c p h = by (class_info P c) refl h
    where
      by : (o : Option Class) → class_info P c ≡ o → parent_of o ≡ Some p → (x : Class) × (class_info P c ≡ Some x) × (x.parent ≡ Some p)
      by None e h = cc
      by (Some x) e h = (x, e, h)

  pub parent_or_interface : (c d : ℕ) → IsDirectSuper P c d → ((p : ClassNo) × (parent_of (class_info P c) ≡ Some p) × (p.0 ≡ d)) ⊎ ((some_of (λ t. eqb t.0 d) (interfaces P c) ≡ true) × (is_class (parent_of (class_info P c)) (record { 0 = d }) ≡ false))
  parent_or_interface c d h = parent_or_other (parent_of (class_info P c)) (supers_of (class_info P c)) d h

  pub reaches_self : (k c : ℕ) → reaches P k c c ≡ true
  reaches_self zero c = eq-eqb c c refl
  reaches_self (suc k) c = or_left (eqb c c) (some_of (λ s. reaches P k s.0 c) (supers_of (class_info P c))) (eq-eqb c c refl)

  pub reached_super : (k c d : ℕ) → reaches P k c d ≡ true → (c ≡ d) ⊎ IsSupertype P c d
  reached_super zero c d h = inl (eqb-true c d h)
  reached_super (suc k) c d h = by (or_true (eqb c d) (some_of (λ s. reaches P k s.0 d) (supers_of (class_info P c))) h) (λ s. reached_super k s d)
    where
      on : (s : ClassNo) → IsDirectSuper P c s.0 → (s.0 ≡ d) ⊎ IsSupertype P s.0 d → (c ≡ d) ⊎ IsSupertype P c d
      on s u (inl e) = inr (record { between = []; by = subst (IsDirectSuper P c) e u })
      on s u (inr a) = inr (record { between = s.0 ∷ a.between; by = (u, a.by) })

      by : (eqb c d ≡ true) ⊎ (some_of (λ s. reaches P k s.0 d) (supers_of (class_info P c)) ≡ true) → ((s : ℕ) → reaches P k s d ≡ true → (s ≡ d) ⊎ IsSupertype P s d) → (c ≡ d) ⊎ IsSupertype P c d
      by (inl e) rest = inl (eqb-true c d e)
      by (inr e) rest = let s = some_there (λ s. reaches P k s.0 d) (supers_of (class_info P c)) e in on s.0 s.1 (rest s.0.0 s.2)

  module _ (C : RegularClasses P) where
    pub lower : (c d : ℕ) → IsDirectSuper P c d → C.rank d < C.rank c
    lower c d u = let x = super_there c d u in (C.classes c x.0 x.1).ranked (record { 0 = d }) x.2

    -- the parent is a direct supertype
    pub parent_super : (c p : ℕ) → IsParent P c p → IsDirectSuper P c p
    parent_super c p h =
        let x = parent_there c (record { 0 = p }) h in
        let u : some_of (λ t. eqb t.0 p) x.0.supers ≡ true = (C.classes c x.0 x.1).parent (record { 0 = p }) x.2 in
        subst (λ o. some_of (λ t. eqb t.0 p) (supers_of o) ≡ true) (sym x.1) u

    pub other_interface : (c d : ℕ) → IsDirectSuper P c d → is_class (parent_of (class_info P c)) (record { 0 = d }) ≡ false → IsInterface P d true
    other_interface c d u h =
        let x = super_there c d u in
        (C.classes c x.0 x.1).interfaces (record { 0 = d }) x.2 (subst (λ o. is_class (parent_of o) (record { 0 = d }) ≡ false) x.1 h)

    -- Object has nothing above it
    pub no_super : (d : ℕ) → IsDirectSuper P 0 d → ⊥
    no_super d u =
        let none : supers_of (class_info P 0) ≡ [] = ap supers_of C.object_there ∙ C.above_object in
        let bad : false ≡ true = subst (λ xs. some_of (λ t. eqb t.0 d) xs ≡ true) none u in
        cc

    -- the parent of an interface is Object
    pub interface_parent : (c : ℕ) (p : ClassNo) → IsInterface P c true → parent_of (class_info P c) ≡ Some p → p.0 ≡ 0
    interface_parent c p i h =
        let x = parent_there c p h in
        (C.classes c x.0 x.1).above_interface p (subst (λ o. interface_of o ≡ true) x.1 i) x.2

    supers_reached : (ss : List ℕ) (c d k : ℕ) → SuperBy P ss c d → C.rank c ≤ k → reaches P k c d ≡ true
    supers_reached ss c d zero h le = absurd (let s = first_super ss c d h in let l : C.rank s.0 < C.rank c = lower c s.0 s.1 in omega arith)
    supers_reached [] c d (suc k) h le = or_right (eqb c d) (some_of (λ s. reaches P k s.0 d) (supers_of (class_info P c))) (there_some (λ s. reaches P k s d) (supers_of (class_info P c)) d h (reaches_self k d))
    supers_reached (s ∷ ss) c d (suc k) h le =
        let l : C.rank s < C.rank c = lower c s h.0 in
        or_right (eqb c d) (some_of (λ s. reaches P k s.0 d) (supers_of (class_info P c))) (there_some (λ s. reaches P k s d) (supers_of (class_info P c)) s h.0 (supers_reached ss s d k h.1 (omega arith)))

    pub super_sub : (c d : ℕ) → IsSupertype P c d → sub P c d ≡ true
    super_sub c d a =
        let l : C.rank c < length P.classes = C.few c in
        or_right (eqb d 0) (reaches P (length P.classes) c d) (supers_reached a.between c d (length P.classes) a.by (omega arith))

    pub supers_lower : (ss : List ℕ) (c d : ℕ) → SuperBy P ss c d → C.rank d < C.rank c
    supers_lower [] c d h = lower c d h
    supers_lower (s ∷ ss) c d h = let a : C.rank s < C.rank c = lower c s h.0 in let b : C.rank d < C.rank s = supers_lower ss s d h.1 in omega arith

    pub not_above_itself : (c d : ℕ) → IsSupertype P c d → c ≡ d → ⊥
    not_above_itself c d a e = let l : C.rank d < C.rank c = supers_lower a.between c d a.by in let s : C.rank c ≡ C.rank d = ap C.rank e in omega arith
