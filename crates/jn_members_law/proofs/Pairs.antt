-- Overriding pairs are what overrides.
use Rattle.std.proofs.Common.{◌≡◌, ◌<◌, ℕ, zero, suc, Bool, true, false, not, ◌||◌, ◌&&◌, ◌⊎◌, inl, inr, List, [], ◌∷◌, ◌++◌, length, Option, Some, None, refl, sym, ap, ◌∙◌, subst, eqb, arith}
use Rattle.std.proofs.lemmas.Bool.{eqb-true, eq-eqb, or_left, or_right}
use Rattle.jn_points.specs.declared.program.Method.{Method}
use Rattle.jn_points.specs.declared.program.Program.{Program}
use Rattle.jn_points.specs.Lookup.{class_info, interface_of, method_at}
use Rattle.jn_points.specs.Members.{below, some_of, is_number, is_named, reaches, sub, method_of, class_pair, class_pairs, interface_pairs, in_interface, pairs_of, is_pair}
use Rattle.jn_points.specs.Regular.{RegularClasses}
use Rattle.jn_members_law.specs.Inherited.{SameSignature, IsInterface, IsSupertype, Declares, IsMember, KeepsAccess, RegularMethods}
use Rattle.jn_members_law.specs.Overrides.{OverridesFrom, OverridesThere}
use Rattle.jn_members_law.proofs.Searches.{true_or_not, or_true, and_true, and_both}
use Rattle.jn_members_law.proofs.Supers.{above_there, reached_super, super_sub, not_above_itself}
use Rattle.jn_members_law.proofs.Members.{named_parts, parts_named, not_true}
use Rattle.jn_members_law.proofs.Unique.{member_named, method_member, class_member, no_object}

some_append : (f : ℕ → Bool) (xs ys : List ℕ) → some_of f (xs ++ ys) ≡ (some_of f xs || some_of f ys)
some_append f [] ys = refl
some_append f (x ∷ xs) ys = ap (λ b. f x || b) (some_append f xs ys) ∙ assoc (f x) (some_of f xs) (some_of f ys)
  where
    assoc : (a b c : Bool) → (a || (b || c)) ≡ ((a || b) || c)
    assoc true b c = refl
    assoc false b c = refl

below_some : (f : ℕ → Bool) (n : ℕ) → some_of f (below n) ≡ true → (c : ℕ) × (f c ≡ true)
below_some f zero h = cc
below_some f (suc n) h = by (or_true (some_of f (below n)) (some_of f (n ∷ [])) (sym (some_append f (below n) (n ∷ [])) ∙ h)) (below_some f n)
  where
    last : (f n ≡ true) ⊎ (false ≡ true) → (c : ℕ) × (f c ≡ true)
    last (inl e) = (n, e)
    last (inr e) = cc

    by : (some_of f (below n) ≡ true) ⊎ (some_of f (n ∷ []) ≡ true) → (some_of f (below n) ≡ true → (c : ℕ) × (f c ≡ true)) → (c : ℕ) × (f c ≡ true)
    by (inl e) rest = rest e
    by (inr e) rest = last (or_true (f n) false e)

some_below : (f : ℕ → Bool) (n c : ℕ) → c < n → f c ≡ true → some_of f (below n) ≡ true
some_below f zero c l h = absurd (omega arith)
some_below f (suc n) c l h = some_append f (below n) (n ∷ []) ∙ by (true_or_not (eqb c n)) (λ l. some_below f n c l h)
  where
    by : (eqb c n ≡ true) ⊎ (eqb c n ≡ false) → (c < n → some_of f (below n) ≡ true) → (some_of f (below n) || some_of f (n ∷ [])) ≡ true
    by (inl e) rest = or_right (some_of f (below n)) (f n || false) (or_left (f n) false (subst (λ z. f z ≡ true) (eqb-true c n e) h))
    by (inr e) rest = or_left (some_of f (below n)) (some_of f (n ∷ [])) (rest (less (λ s. (let t : eqb c n ≡ true = eq-eqb c n s in cc))))
      where
        less : (c ≡ n → ⊥) → c < n
        less apart = omega (arith, l, apart)

number_is : (o : Option ℕ) (m : ℕ) → is_number o m ≡ true → o ≡ Some m
number_is None m h = cc
number_is (Some n) m h = ap Some (eqb-true n m h)

pub same_method : (P : Program) (m : ℕ) (x y : Method) → method_at P m ≡ Some x → method_at P m ≡ Some y → x ≡ y
same_method P m x y a b = (let e : Some x ≡ Some y = sym a ∙ b in cc)

other_number : (m k : ℕ) → (m ≡ k → ⊥) → not (eqb m k) ≡ true
other_number m k apart = by (true_or_not (eqb m k))
  where
    by : (eqb m k ≡ true) ⊎ (eqb m k ≡ false) → not (eqb m k) ≡ true
    by (inl e) = absurd (apart (eqb-true m k e))
    by (inr e) = ap not e

not_equal : (m k : ℕ) → not (eqb m k) ≡ true → m ≡ k → ⊥
not_equal m k h e = (let t : eqb m k ≡ true = eq-eqb m k e in let f : not (eqb m k) ≡ false = ap not t in cc)

module _ (P : Program) (C : RegularClasses P) (m k : ℕ) (x y : Method) (at_m : method_at P m ≡ Some x) (at_k : method_at P k ≡ Some y) where
  whole : is_pair P m k ≡ pairs_of P m k (Some x) (Some y)
  whole = ap (λ o. pairs_of P m k o (method_at P k)) at_m ∙ ap (λ o. pairs_of P m k (Some x) o) at_k

  is_whole : x.ctor ≡ false → y.ctor ≡ false → SameSignature x y → (class_pairs P m k x y || interface_pairs P x y) ≡ true → is_pair P m k ≡ true
  is_whole cx cy same h = whole ∙ and_both (not x.ctor && is_named y x.name.0 (length x.params)) (class_pairs P m k x y || interface_pairs P x y) (and_both (not x.ctor) (is_named y x.name.0 (length x.params)) (ap not cx) (parts_named y x.name.0 (length x.params) cy (sym same.0) (sym same.1))) h

  pub found_overrides : (c : ℕ) → OverridesFrom P c m k x y → method_of P c x.name.0 (length x.params) ≡ Some m → is_pair P m k ≡ true
  found_overrides c o found =
      let there = member_named P o.member.from c m x o.member.by in
      let number : is_number (method_of P c x.name.0 (length x.params)) m ≡ true = ap (λ z. is_number z m) found ∙ eq-eqb m m refl in
      let here = and_both (not (interface_of (class_info P c)) && is_number (method_of P c x.name.0 (length x.params)) m) (sub P c y.owner.0) (and_both (not (interface_of (class_info P c))) (is_number (method_of P c x.name.0 (length x.params)) m) (ap not o.class) number) (super_sub P C c y.owner.0 o.above) in
      let some = some_below (class_pair P m x y) (length P.classes) c (above_there P c y.owner.0 o.above) here in
      let tests = and_both (not (eqb m k) && not y.is_private) (not y.is_static) (and_both (not (eqb m k)) (not y.is_private) (other_number m k o.other) (ap not o.not_private)) (ap not o.not_static) in
      is_whole there.1 o.declared.method o.same (or_left (class_pairs P m k x y) (interface_pairs P x y) (and_both (not (eqb m k) && not y.is_private && not y.is_static) (some_of (class_pair P m x y) (below (length P.classes))) tests some))

  pub there_pair : OverridesThere P m k x y → is_pair P m k ≡ true
  there_pair o =
      let other : x.owner.0 ≡ y.owner.0 → ⊥ = λ e. not_above_itself P C x.owner.0 y.owner.0 o.above e in
      let h = and_both (in_interface P x && in_interface P y && not (eqb x.owner.0 y.owner.0)) (sub P x.owner.0 y.owner.0) (and_both (in_interface P x && in_interface P y) (not (eqb x.owner.0 y.owner.0)) (and_both (in_interface P x) (in_interface P y) o.interface o.above_interface) (other_number x.owner.0 y.owner.0 other)) (super_sub P C x.owner.0 y.owner.0 o.above) in
      is_whole o.declared.method o.declared_above.method o.same (or_right (class_pairs P m k x y) (interface_pairs P x y) h)

module _ (P : Program) (C : RegularClasses P) (M : RegularMethods P) where
  -- what is within a class that isn't its own is a proper supertype
  proper : (c d : ℕ) → (d ≡ 0 → ⊥) → (c ≡ d → ⊥) → sub P c d ≡ true → IsSupertype P c d
  proper c d top other h = by (or_true (eqb d 0) (reaches P (length P.classes) c d) h)
    where
      on : (c ≡ d) ⊎ IsSupertype P c d → IsSupertype P c d
      on (inl e) = absurd (other e)
      on (inr a) = a

      by : (eqb d 0 ≡ true) ⊎ (reaches P (length P.classes) c d ≡ true) → IsSupertype P c d
      by (inl e) = absurd (top (eqb-true d 0 e))
      by (inr r) = on (reached_super P (length P.classes) c d r)

  module _ (m k : ℕ) (x y : Method) (at_m : method_at P m ≡ Some x) (at_k : method_at P k ≡ Some y) where
    from_class : KeepsAccess P → x.is_static ≡ false → is_named y x.name.0 (length x.params) ≡ true → class_pairs P m k x y ≡ true → (c : ℕ) × OverridesFrom P c m k x y
    from_class A instance named h =
        let outer = and_true (not (eqb m k) && not y.is_private && not y.is_static) (some_of (class_pair P m x y) (below (length P.classes))) h in
        let inner = and_true (not (eqb m k) && not y.is_private) (not y.is_static) outer.0 in
        let first = and_true (not (eqb m k)) (not y.is_private) inner.0 in
        let c = below_some (class_pair P m x y) (length P.classes) outer.1 in
        let parts = and_true (not (interface_of (class_info P c.0)) && is_number (method_of P c.0 x.name.0 (length x.params)) m) (sub P c.0 y.owner.0) c.1 in
        let two = and_true (not (interface_of (class_info P c.0))) (is_number (method_of P c.0 x.name.0 (length x.params)) m) parts.0 in
        let found = number_is (method_of P c.0 x.name.0 (length x.params)) m two.1 in
        let member = method_member P C A c.0 x.name.0 (length x.params) m found in
        let there = member_named P member.1.from c.0 m member.0 member.1.by in
        let signature = named_parts y x.name.0 (length x.params) named in
        let other = not_equal m k first.0 in
        let alone = only c.0 found other signature.1 signature.2 in
        let declared : Declares P y.owner.0 k y = record { there = at_k; method = signature.0; owner = refl } in (
          c.0,
          record {
            class = not_true (interface_of (class_info P c.0)) two.0;
            member = subst (λ z. IsMember P c.0 m z) (same_method P m member.0 x there.0 at_m) member.1;
            instance = instance;
            above = proper c.0 y.owner.0 (no_object P C M k y at_k signature.0) (λ e. alone (subst (λ z. IsInterface P z false) e (not_true (interface_of (class_info P c.0)) two.0)) (record { from = []; by = record { there = at_k; method = signature.0; owner = sym e } })) parts.1;
            declared = declared;
            same = (sym signature.1, sym signature.2);
            other = other;
            not_static = not_true y.is_static inner.1;
            not_private = not_true y.is_private first.1;
            not_inherited = alone;
          },
        )
      where
        only : (c : ℕ) → method_of P c x.name.0 (length x.params) ≡ Some m → (m ≡ k → ⊥) → y.name.0 ≡ x.name.0 → length y.params ≡ length x.params → IsInterface P y.owner.0 false → IsMember P c k y → ⊥
        only c found other name arity class member =
            let own = class_member P C M c k y member class in
            let there : method_of P c x.name.0 (length x.params) ≡ Some k = subst (λ n. method_of P c n (length x.params) ≡ Some k) name (subst (λ n. method_of P c y.name.0 n ≡ Some k) arity own) in
            other (let e : Some m ≡ Some k = sym found ∙ there in cc)

    from_interface : x.ctor ≡ false → is_named y x.name.0 (length x.params) ≡ true → interface_pairs P x y ≡ true → OverridesThere P m k x y
    from_interface ctor named h =
        let outer = and_true (in_interface P x && in_interface P y && not (eqb x.owner.0 y.owner.0)) (sub P x.owner.0 y.owner.0) h in
        let inner = and_true (in_interface P x && in_interface P y) (not (eqb x.owner.0 y.owner.0)) outer.0 in
        let both = and_true (in_interface P x) (in_interface P y) inner.0 in
        let signature = named_parts y x.name.0 (length x.params) named in
        record {
          interface = both.0;
          declared = record { there = at_m; method = ctor; owner = refl };
          above = proper x.owner.0 y.owner.0 (no_object P C M k y at_k signature.0) (not_equal x.owner.0 y.owner.0 inner.1) outer.1;
          above_interface = both.1;
          declared_above = record { there = at_k; method = signature.0; owner = refl };
          same = (sym signature.1, sym signature.2);
        }

    pub pair_overrides : KeepsAccess P → x.is_static ≡ false → is_pair P m k ≡ true → ((c : ℕ) × OverridesFrom P c m k x y) ⊎ OverridesThere P m k x y
    pair_overrides A instance h =
        let outer = and_true (not x.ctor && is_named y x.name.0 (length x.params)) (class_pairs P m k x y || interface_pairs P x y) (sym (whole P C m k x y at_m at_k) ∙ h) in
        let named = and_true (not x.ctor) (is_named y x.name.0 (length x.params)) outer.0 in
        by named.0 named.1 (or_true (class_pairs P m k x y) (interface_pairs P x y) outer.1)
      where
        by : not x.ctor ≡ true → is_named y x.name.0 (length x.params) ≡ true → (class_pairs P m k x y ≡ true) ⊎ (interface_pairs P x y ≡ true) → ((c : ℕ) × OverridesFrom P c m k x y) ⊎ OverridesThere P m k x y
        by ctor named (inl e) = inl (from_class A instance named e)
        by ctor named (inr e) = inr (from_interface (not_true x.ctor ctor) named e)

    pub overrides_pair : (c : ℕ) → OverridesFrom P c m k x y → IsInterface P x.owner.0 false → is_pair P m k ≡ true
    overrides_pair c o class = found_overrides P C m k x y at_m at_k c o (class_member P C M c m x o.member class)
