-- Subtypes of a regular program are an order: ranks fall along supertypes, so as many steps as there are classes reach all that more would.
use Rattle.std.proofs.Common.{◌≡◌, ◌<◌, ◌≤◌, ℕ, zero, suc, Bool, true, false, ◌⊎◌, ◌||◌, inl, inr, List, [], ◌∷◌, length, Option, Some, None, refl, sym, ap, ◌∙◌, subst, eqb, arith}
use Rattle.std.proofs.lemmas.Bool.{eqb-true, eq-eqb, or_left, or_right, or_cases}
use Rattle.jn_base.specs.declared.number.ClassNo.{ClassNo}
use Rattle.jn_points.specs.declared.program.Class.{Class}
use Rattle.jn_points.specs.declared.program.Program.{Program}
use Rattle.jn_points.specs.Lookup.{supers_of, parent_of, interface_of, class_info}
use Rattle.jn_points.specs.Members.{some_of, is_class, reaches, sub}
use Rattle.jn_points.specs.BaseTyping.{Ordered}
use Rattle.jn_points.specs.Regular.{RegularClasses}
use Rattle.jn_soundness.proofs.Fits.{reaches_self}

abbrev pub IsSuper : Program → ℕ → ClassNo → Type 0
IsSuper P c s = some_of (λ t. eqb t.0 s.0) (supers_of (class_info P c)) ≡ true

some_named : (test : ClassNo → Bool) (xs : List ClassNo) → some_of test xs ≡ true → (s : ClassNo) × (some_of (λ t. eqb t.0 s.0) xs ≡ true) × (test s ≡ true)
some_named test [] h = cc
some_named test (x ∷ xs) h = by (test x) refl h (some_named test xs)
  where
    by : (t : Bool) → test x ≡ t → (t || some_of test xs) ≡ true → (some_of test xs ≡ true → (s : ClassNo) × (some_of (λ t. eqb t.0 s.0) xs ≡ true) × (test s ≡ true)) → (s : ClassNo) × (some_of (λ t. eqb t.0 s.0) (x ∷ xs) ≡ true) × (test s ≡ true)
    by true e h rest = (x, or_left (eqb x.0 x.0) (some_of (λ t. eqb t.0 x.0) xs) (eq-eqb x.0 x.0 refl), e)
    by false e h rest = let r = rest h in (r.0, or_right (eqb x.0 r.0.0) (some_of (λ t. eqb t.0 r.0.0) xs) r.1, r.2)

named_some : (f : ℕ → Bool) (xs : List ClassNo) (s : ClassNo) → some_of (λ t. eqb t.0 s.0) xs ≡ true → f s.0 ≡ true → some_of (λ t. f t.0) xs ≡ true
named_some f [] s h k = cc
named_some f (x ∷ xs) s h k = by (eqb x.0 s.0) refl h (λ h. named_some f xs s h k)
  where
    by : (t : Bool) → eqb x.0 s.0 ≡ t → (t || some_of (λ t. eqb t.0 s.0) xs) ≡ true → (some_of (λ t. eqb t.0 s.0) xs ≡ true → some_of (λ t. f t.0) xs ≡ true) → (f x.0 || some_of (λ t. f t.0) xs) ≡ true
    by true e h rest = or_left (f x.0) (some_of (λ t. f t.0) xs) (subst (λ n. f n ≡ true) (sym (eqb-true x.0 s.0 e)) k)
    by false e h rest = or_right (f x.0) (some_of (λ t. f t.0) xs) (rest h)

module _ (P : Program) where
  pub super_of : (c : ℕ) (s : ClassNo) → IsSuper P c s → (x : Class) × (class_info P c ≡ Some x) × (some_of (λ t. eqb t.0 s.0) x.supers ≡ true)
  super_of c s h = by (class_info P c) refl h
    where
      by : (o : Option Class) → class_info P c ≡ o → some_of (λ t. eqb t.0 s.0) (supers_of o) ≡ true → (x : Class) × (class_info P c ≡ Some x) × (some_of (λ t. eqb t.0 s.0) x.supers ≡ true)
      by None e h = cc
      by (Some x) e h = (x, e, h)

  pub reaches_split : (n c d : ℕ) → reaches P (suc n) c d ≡ true → (c ≡ d) ⊎ ((s : ClassNo) × IsSuper P c s × (reaches P n s.0 d ≡ true))
  reaches_split n c d h = by (or_cases (eqb c d) (some_of (λ s. reaches P n s.0 d) (supers_of (class_info P c))) h)
    where
      by : (eqb c d ≡ true) ⊎ (some_of (λ s. reaches P n s.0 d) (supers_of (class_info P c)) ≡ true) → (c ≡ d) ⊎ ((s : ClassNo) × IsSuper P c s × (reaches P n s.0 d ≡ true))
      by (inl e) = inl (eqb-true c d e)
      by (inr k) = inr (some_named (λ s. reaches P n s.0 d) (supers_of (class_info P c)) k)

  reaches_by : (n c d : ℕ) (s : ClassNo) → IsSuper P c s → reaches P n s.0 d ≡ true → reaches P (suc n) c d ≡ true
  reaches_by n c d s u h = or_right (eqb c d) (some_of (λ s. reaches P n s.0 d) (supers_of (class_info P c))) (named_some (λ k. reaches P n k d) (supers_of (class_info P c)) s u h)

  module _ (C : RegularClasses P) where
    ranked : (c : ℕ) (s : ClassNo) → IsSuper P c s → C.rank s.0 < C.rank c
    ranked c s u = let x = super_of c s u in (C.classes c x.0 x.1).ranked s x.2

    -- more steps than the rank aren't needed, and a path goes on where another begins
    goes_on : (n k a b c : ℕ) → C.rank a ≤ k → reaches P n a b ≡ true → ((k : ℕ) → C.rank b ≤ k → reaches P k b c ≡ true) → reaches P k a c ≡ true
    goes_on zero k a b c l h rest =
        let same : a ≡ b = eqb-true a b h in
        subst (λ z. reaches P k z c ≡ true) (sym same) (rest k (subst (λ z. C.rank z ≤ k) same l))
    goes_on (suc n) k a b c l h rest = by k l (reaches_split n a b h) (λ s k l r. goes_on n k s b c l r rest)
      where
        by : (k : ℕ) → C.rank a ≤ k → (a ≡ b) ⊎ ((s : ClassNo) × IsSuper P a s × (reaches P n s.0 b ≡ true)) → ((s k : ℕ) → C.rank s ≤ k → reaches P n s b ≡ true → reaches P k s c ≡ true) → reaches P k a c ≡ true
        by k l (inl e) more = subst (λ z. reaches P k z c ≡ true) (sym e) (rest k (subst (λ z. C.rank z ≤ k) e l))
        by zero l (inr s) more = absurd (let r : C.rank s.0.0 < C.rank a = ranked a s.0 s.1 in omega arith)
        by (suc k) l (inr s) more = let r : C.rank s.0.0 < C.rank a = ranked a s.0 s.1 in reaches_by k a c s.0 s.1 (more s.0.0 k (omega arith) s.2)

    pub enough : (n k c d : ℕ) → C.rank c ≤ k → reaches P n c d ≡ true → reaches P k c d ≡ true
    enough n k c d l h = goes_on n k c d d l h (λ k l. reaches_self P k d)

    below_count : (c : ℕ) → C.rank c ≤ length P.classes
    below_count c = let r : C.rank c < length P.classes = C.few c in omega arith

    pub sub_by : (n c d : ℕ) → reaches P n c d ≡ true → sub P c d ≡ true
    sub_by n c d h = or_right (eqb d 0) (reaches P (length P.classes) c d) (enough n (length P.classes) c d (below_count c) h)

    pub reaches_object : (n c : ℕ) → reaches P n 0 c ≡ true → c ≡ 0
    reaches_object zero c h = sym (eqb-true 0 c h)
    reaches_object (suc n) c h = by (reaches_split n 0 c h)
      where
        by : (0 ≡ c) ⊎ ((s : ClassNo) × IsSuper P 0 s × (reaches P n s.0 c ≡ true)) → c ≡ 0
        by (inl e) = sym e
        by (inr s) =
            let none : supers_of (class_info P 0) ≡ [] = ap supers_of C.object_there ∙ C.above_object in
            let bad : false ≡ true = subst (λ xs. some_of (λ t. eqb t.0 s.0.0) xs ≡ true) none s.1 in
            cc

    reaches_string : (n c : ℕ) → reaches P n c 1 ≡ true → c ≡ 1
    reaches_string zero c h = eqb-true c 1 h
    reaches_string (suc n) c h = by (reaches_split n c 1 h) (λ s r. reaches_string n s r)
      where
        by : (c ≡ 1) ⊎ ((s : ClassNo) × IsSuper P c s × (reaches P n s.0 1 ≡ true)) → ((s : ℕ) → reaches P n s 1 ≡ true → s ≡ 1) → c ≡ 1
        by (inl e) rest = e
        by (inr s) rest = let x = super_of c s.0 s.1 in absurd ((C.classes c x.0 x.1).no_string s.0 x.2 (rest s.0.0 s.2))

    sub_object : (c : ℕ) → sub P 0 c ≡ true → c ≡ 0
    sub_object c h = by (or_cases (eqb c 0) (reaches P (length P.classes) 0 c) h)
      where
        by : (eqb c 0 ≡ true) ⊎ (reaches P (length P.classes) 0 c ≡ true) → c ≡ 0
        by (inl e) = eqb-true c 0 e
        by (inr r) = reaches_object (length P.classes) c r

    sub_trans : (a b c : ℕ) → sub P a b ≡ true → sub P b c ≡ true → sub P a c ≡ true
    sub_trans a b c h k = by (or_cases (eqb c 0) (reaches P (length P.classes) b c) k) (or_cases (eqb b 0) (reaches P (length P.classes) a b) h)
      where
        by : (eqb c 0 ≡ true) ⊎ (reaches P (length P.classes) b c ≡ true) → (eqb b 0 ≡ true) ⊎ (reaches P (length P.classes) a b ≡ true) → sub P a c ≡ true
        by (inl e) h = or_left (eqb c 0) (reaches P (length P.classes) a c) e
        by (inr r) (inl e) =
            let top : c ≡ 0 = sub_object c (subst (λ z. sub P z c ≡ true) (eqb-true b 0 e) k) in
            or_left (eqb c 0) (reaches P (length P.classes) a c) (eq-eqb c 0 top)
        by (inr r) (inr q) = or_right (eqb c 0) (reaches P (length P.classes) a c) (goes_on (length P.classes) (length P.classes) a b c (below_count a) q (λ j l. enough (length P.classes) j b c l r))

    pub regular_order : Ordered P
    regular_order = record {
      trans = sub_trans;
      object = sub_object;
      string = λ c h. reaches_string (length P.classes) c h;
    }

    -- what stands above an interface through its parent is Object
    through_parent : (s : ℕ) (x : Class) → class_info P s ≡ Some x → x.interface ≡ true → (t : ClassNo) (n d : ℕ) → reaches P n t.0 d ≡ true → (p : Option ClassNo) → x.parent ≡ p → is_class p t ≡ true → d ≡ 0
    through_parent s x there i t n d r None e k = cc
    through_parent s x there i t n d r (Some p) e k =
        let top : p.0 ≡ 0 = (C.classes s x there).above_interface p i e in
        reaches_object n d (subst (λ z. reaches P n z d ≡ true) (sym (eqb-true p.0 t.0 k) ∙ top) r)

    -- above an interface stand interfaces and Object alone
    above_interface : (n s d : ℕ) → interface_of (class_info P s) ≡ true → reaches P n s d ≡ true → (d ≡ 0) ⊎ (interface_of (class_info P d) ≡ true)
    above_interface zero s d i h = inr (subst (λ z. interface_of (class_info P z) ≡ true) (eqb-true s d h) i)
    above_interface (suc n) s d i h = by (reaches_split n s d h) (λ t i r. above_interface n t d i r)
      where
        each : (t : ClassNo) (x : Class) → class_info P s ≡ Some x → some_of (λ y. eqb y.0 t.0) x.supers ≡ true → reaches P n t.0 d ≡ true → (interface_of (class_info P t.0) ≡ true → (d ≡ 0) ⊎ (interface_of (class_info P d) ≡ true)) → (b : Bool) → is_class x.parent t ≡ b → (d ≡ 0) ⊎ (interface_of (class_info P d) ≡ true)
        each t x there u r rest true k = inl (through_parent s x there (ap interface_of (sym there) ∙ i) t n d r x.parent refl k)
        each t x there u r rest false k = rest ((C.classes s x there).interfaces t u k)

        by : (s ≡ d) ⊎ ((t : ClassNo) × IsSuper P s t × (reaches P n t.0 d ≡ true)) → ((t : ℕ) → interface_of (class_info P t) ≡ true → reaches P n t d ≡ true → (d ≡ 0) ⊎ (interface_of (class_info P d) ≡ true)) → (d ≡ 0) ⊎ (interface_of (class_info P d) ≡ true)
        by (inl e) rest = inr (subst (λ z. interface_of (class_info P z) ≡ true) e i)
        by (inr t) rest = let x = super_of s t.0 t.1 in each t.0 x.0 x.1 x.2 t.2 (λ i. rest t.0.0 i t.2) (is_class x.0.parent t.0) refl

    -- a class above another one is that class, or stands above its parent
    pub own_or_above : (c d : ℕ) → (d ≡ 0 → ⊥) → interface_of (class_info P d) ≡ false → sub P c d ≡ true → (c ≡ d) ⊎ ((p : ClassNo) × (parent_of (class_info P c) ≡ Some p) × (sub P p.0 d ≡ true))
    own_or_above c d z i h = first (or_cases (eqb d 0) (reaches P (length P.classes) c d) h)
      where
        parent : (t : ClassNo) (x : Class) → class_info P c ≡ Some x → (n : ℕ) → reaches P n t.0 d ≡ true → (p : Option ClassNo) → x.parent ≡ p → is_class p t ≡ true → (p : ClassNo) × (parent_of (class_info P c) ≡ Some p) × (sub P p.0 d ≡ true)
        parent t x there n r None e k = cc
        parent t x there n r (Some p) e k = (p, ap parent_of there ∙ e, sub_by n p.0 d (subst (λ z. reaches P n z d ≡ true) (sym (eqb-true p.0 t.0 k)) r))

        never : (d ≡ 0) ⊎ (interface_of (class_info P d) ≡ true) → ⊥
        never (inl e) = z e
        never (inr e) = let bad : true ≡ false = sym e ∙ i in cc

        each : (t : ClassNo) (x : Class) → class_info P c ≡ Some x → some_of (λ y. eqb y.0 t.0) x.supers ≡ true → (n : ℕ) → reaches P n t.0 d ≡ true → (b : Bool) → is_class x.parent t ≡ b → (p : ClassNo) × (parent_of (class_info P c) ≡ Some p) × (sub P p.0 d ≡ true)
        each t x there u n r true k = parent t x there n r x.parent refl k
        each t x there u n r false k = absurd (never (above_interface n t.0 d ((C.classes c x there).interfaces t u k) r))

        by : (n : ℕ) → reaches P n c d ≡ true → (c ≡ d) ⊎ ((p : ClassNo) × (parent_of (class_info P c) ≡ Some p) × (sub P p.0 d ≡ true))
        by zero r = inl (eqb-true c d r)
        by (suc n) r = split (reaches_split n c d r)
          where
            split : (c ≡ d) ⊎ ((t : ClassNo) × IsSuper P c t × (reaches P n t.0 d ≡ true)) → (c ≡ d) ⊎ ((p : ClassNo) × (parent_of (class_info P c) ≡ Some p) × (sub P p.0 d ≡ true))
            split (inl e) = inl e
            split (inr t) = let x = super_of c t.0 t.1 in inr (each t.0 x.0 x.1 x.2 n t.2 (is_class x.0.parent t.0) refl)

        first : (eqb d 0 ≡ true) ⊎ (reaches P (length P.classes) c d ≡ true) → (c ≡ d) ⊎ ((p : ClassNo) × (parent_of (class_info P c) ≡ Some p) × (sub P p.0 d ≡ true))
        first (inl e) = absurd (z (eqb-true d 0 e))
        first (inr r) = by (length P.classes) r

    -- a class is within its parent
    pub under_parent : (c : ℕ) (p : ClassNo) → parent_of (class_info P c) ≡ Some p → sub P c p.0 ≡ true
    under_parent c p h = by (class_info P c) refl h
      where
        by : (o : Option Class) → class_info P c ≡ o → parent_of o ≡ Some p → sub P c p.0 ≡ true
        by None e h = cc
        by (Some x) e h =
            let u : IsSuper P c p = subst (λ o. some_of (λ t. eqb t.0 p.0) (supers_of o) ≡ true) (sym e) ((C.classes c x e).parent p h) in
            sub_by 1 c p.0 (reaches_by 0 c p.0 p u (eq-eqb p.0 p.0 refl))
