-- The field that a class has for a name is its only member of the name.
use Rattle.std.proofs.Common.{◌≡◌, ◌<◌, ◌≤◌, ◌+◌, ℕ, zero, suc, Bool, true, false, not, ◌||◌, ◌&&◌, ◌⊎◌, inl, inr, List, [], ◌∷◌, length, Option, Some, None, refl, sym, ap, ◌∙◌, subst, eqb, arith}
use Rattle.std.proofs.lemmas.Bool.{eqb-true, eq-eqb, or_right}
use Rattle.jn_base.specs.declared.number.ClassNo.{ClassNo}
use Rattle.jn_points.specs.declared.program.Field.{Field}
use Rattle.jn_points.specs.declared.program.Program.{Program}
use Rattle.jn_points.specs.Lookup.{class_info, parent_of, field_info}
use Rattle.jn_points.specs.Members.{some_of, is_class, reaches, first_some, walk_by, interfaces, sub, declared_field, field_of}
use Rattle.jn_points.specs.Regular.{RegularClasses}
use Rattle.jn_members_law.specs.Inherited.{IsInterface, IsDirectSuper, IsSupertype}
use Rattle.jn_members_law.specs.InheritedFields.{DeclaresField, DeclaresNoField, FieldBy, IsFieldMember, RegularFields}
use Rattle.jn_members_law.proofs.Searches.{first_passes, passes_found}
use Rattle.jn_members_law.proofs.Supers.{parent_or_interface, parent_super, other_interface, no_super, interface_parent, lower, reaches_self, super_sub, supers_lower, not_above_itself}
use Rattle.jn_members_law.proofs.Members.{three, three_both, walk_cases, interface_super}
use Rattle.jn_members_law.proofs.Unique.{by_super, in_class}

-- class d declares a field of the name for class c, where one that is private counts at class c alone
abbrev field_for : ℕ → ℕ → ℕ → Field → Bool
field_for c name d f = eqb f.name.0 name && eqb f.owner.0 d && (not f.is_private || eqb d c)

same_name : (x y : Field) → x.name.0 ≡ y.name.0 → x.name ≡ y.name
same_name x y e = λ i. record { 0 = e i }

module _ (P : Program) where
  same_field : (f : ℕ) (x y : Field) → field_info P f ≡ Some x → field_info P f ≡ Some y → x ≡ y
  same_field f x y a b = (let e : Some x ≡ Some y = sym a ∙ b in cc)

  -- what is declared, as the specification says it
  field_is : (c name d f : ℕ) → declared_field P c name d ≡ Some f → (x : Field) × DeclaresField P d f x × (x.name.0 ≡ name) × (x.is_private ≡ true → x.owner.0 ≡ c)
  field_is c name d f h =
      let r = first_passes (field_for c name d) 0 P.fields f h in
      let number : f ≡ r.0 = (let e : f ≡ 0 + r.0 = r.4 in omega arith) in
      let t = three (eqb r.1.name.0 name) (eqb r.1.owner.0 d) (not r.1.is_private || eqb d c) r.3 in
      let owner : r.1.owner.0 ≡ d = eqb-true r.1.owner.0 d t.1 in
      (r.1, record { there = subst (λ n. field_info P n ≡ Some r.1) (sym number) r.2; owner = owner }, eqb-true r.1.name.0 name t.0, (λ p. owner ∙ own r.1.is_private t.2 p))
    where
      own : (b : Bool) → (not b || eqb d c) ≡ true → b ≡ true → d ≡ c
      own true h e = eqb-true d c h
      own false h e = cc

  -- what is declared is found, or another one
  is_field : (c name d f : ℕ) (x : Field) → DeclaresField P d f x → x.name.0 ≡ name → (x.is_private ≡ true → d ≡ c) → (j : ℕ) × (declared_field P c name d ≡ Some j)
  is_field c name d f x dec named own = passes_found (field_for c name d) P.fields f x dec.there (three_both (eqb x.name.0 name) (eqb x.owner.0 d) (not x.is_private || eqb d c) (eq-eqb x.name.0 name named) (eq-eqb x.owner.0 d dec.owner) (counts x.is_private own))
    where
      counts : (b : Bool) → (b ≡ true → d ≡ c) → (not b || eqb d c) ≡ true
      counts true own = eq-eqb d c (own refl)
      counts false own = refl

  -- what a class inherits stands in a proper supertype
  owner_above : (from : List ℕ) (c d f : ℕ) (x : Field) → IsDirectSuper P c d → FieldBy P from d f x → IsSupertype P c x.owner.0
  owner_above [] c d f x u h = record { between = []; by = subst (IsDirectSuper P c) (sym h.owner) u }
  owner_above (e ∷ from) c d f x u h = let a = owner_above from d e f x h.0.from h.1 in record { between = d ∷ a.between; by = (u, a.by) }

  module _ (C : RegularClasses P) where
    -- a member that isn't private is found along the class, or another one
    open_along : (c name : ℕ) (from : List ℕ) (d f : ℕ) (x : Field) → FieldBy P from d f x → x.name.0 ≡ name → x.is_private ≡ false → (k : ℕ) → C.rank d < k → (j : ℕ) × (first_some (declared_field P c name) (walk_by P k d) ≡ Some j)
    open_along c name from d f x h n o zero l = absurd (omega arith)
    open_along c name [] d f x h n o (suc k) l =
        let r = is_field c name d f x h n (λ p. absurd (let bad : true ≡ false = sym p ∙ o in cc)) in
        (r.0, in_class P (declared_field P c name) (suc k) d r.0 (omega arith) r.1)
    open_along c name (e ∷ from) d f x h n o (suc k) l =
        let low : C.rank e < C.rank d = lower P C d e h.0.from in
        let r = open_along c name from e f x h.1 n o k (omega arith) in
        by_super P (declared_field P c name) k d e r.0 h.0.from r.1

    -- a class has a field for the name of each member
    some_field : (c f : ℕ) (x : Field) (from : List ℕ) → FieldBy P from c f x → (j : ℕ) × (field_of P c x.name.0 ≡ Some j)
    some_field c f x [] h =
        let l : C.rank c < length P.classes = C.few c in
        let r = is_field c x.name.0 c f x h refl (λ p. refl) in
        (r.0, in_class P (declared_field P c x.name.0) (length P.classes) c r.0 (omega arith) r.1)
    some_field c f x (d ∷ from) h = open_along c x.name.0 (d ∷ from) c f x h refl h.0.open_to_all (length P.classes) (C.few c)

    module _ (F : RegularFields P) where
      -- no field is a member of Object, or of an interface
      none_in_object : (from : List ℕ) (f : ℕ) (x : Field) → FieldBy P from 0 f x → ⊥
      none_in_object [] f x h = let d : 1 < x.owner.0 = (F f x h.there).declared in let o : x.owner.0 ≡ 0 = h.owner in omega (d, o, arith)
      none_in_object (d ∷ from) f x h = no_super P C d h.0.from

      none_in_interface : (from : List ℕ) (c f : ℕ) (x : Field) → FieldBy P from c f x → IsInterface P c true → ⊥
      none_in_interface [] c f x h i = (let bad : true ≡ false = sym i ∙ subst (λ z. IsInterface P z false) h.owner (F f x h.there).no_interface in cc)
      none_in_interface (d ∷ from) c f x h i = by (parent_or_interface P c d h.0.from) (λ j. none_in_interface from d f x h.1 j)
        where
          by : ((p : ClassNo) × (parent_of (class_info P c) ≡ Some p) × (p.0 ≡ d)) ⊎ ((some_of (λ t. eqb t.0 d) (interfaces P c) ≡ true) × (is_class (parent_of (class_info P c)) (record { 0 = d }) ≡ false)) → (IsInterface P d true → ⊥) → ⊥
          by (inl p) rest = none_in_object from f x (subst (λ z. FieldBy P from z f x) (sym p.2 ∙ interface_parent P C c p.0 i p.1) h.1)
          by (inr o) rest = rest (other_interface P C c d h.0.from o.1)

      -- so a field is inherited from the parent
      from_parent : (from : List ℕ) (c d f : ℕ) (x : Field) → IsDirectSuper P c d → FieldBy P from d f x → (p : ClassNo) × (parent_of (class_info P c) ≡ Some p) × (p.0 ≡ d)
      from_parent from c d f x u h = by (parent_or_interface P c d u)
        where
          by : ((p : ClassNo) × (parent_of (class_info P c) ≡ Some p) × (p.0 ≡ d)) ⊎ ((some_of (λ t. eqb t.0 d) (interfaces P c) ≡ true) × (is_class (parent_of (class_info P c)) (record { 0 = d }) ≡ false)) → (p : ClassNo) × (parent_of (class_info P c) ≡ Some p) × (p.0 ≡ d)
          by (inl p) = p
          by (inr o) = absurd (none_in_interface from d f x h (other_interface P C c d u o.1))

      -- two members of one name are one
      one_by : (from other : List ℕ) (c f g : ℕ) (x y : Field) → FieldBy P from c f x → FieldBy P other c g y → x.name.0 ≡ y.name.0 → f ≡ g
      one_by [] [] c f g x y a b same =
          let owner : x.owner.0 ≡ y.owner.0 = a.owner ∙ sym b.owner in
          (F f x a.there).names g y b.there (subst (λ z. sub P x.owner.0 z ≡ true) owner (within x.owner.0)) (same_name x y same)
        where
          within : (c : ℕ) → sub P c c ≡ true
          within c = or_right (eqb c 0) (reaches P (length P.classes) c c) (reaches_self P (length P.classes) c)
      one_by [] (e ∷ other) c f g x y a b same = absurd (b.0.kept f x a same)
      one_by (d ∷ from) [] c f g x y a b same = absurd (a.0.kept g y b (sym same))
      one_by (d ∷ from) (e ∷ other) c f g x y a b same =
          let p = from_parent from c d f x a.0.from a.1 in
          let q = from_parent other c e g y b.0.from b.1 in
          let parent : q.0.0 ≡ p.0.0 = number q.0 p.0 (sym q.1 ∙ p.1) in
          one_by from other d f g x y a.1 (subst (λ z. FieldBy P other z g y) (sym q.2 ∙ parent ∙ p.2) b.1) same
        where
          number : (q p : ClassNo) → ◌≡◌ {A = Option ClassNo} (Some q) (Some p) → q.0 ≡ p.0
          number q p e = let s : q ≡ p = cc in ap (λ (z : ClassNo). z.0) s

      pub one_field : (c f g : ℕ) (x y : Field) → IsFieldMember P c f x → IsFieldMember P c g y → x.name.0 ≡ y.name.0 → f ≡ g
      one_field c f g x y a b same = one_by a.from b.from c f g x y a.by b.by same

      -- no declaration hides a field of a supertype
      none_hidden : (c f : ℕ) (x : Field) → field_info P f ≡ Some x → IsSupertype P c x.owner.0 → DeclaresNoField P c x
      none_hidden c f x at above g y dec same =
          let within : sub P y.owner.0 x.owner.0 ≡ true = subst (λ z. sub P z x.owner.0 ≡ true) (sym dec.owner) (super_sub P C c x.owner.0 above) in
          let number : g ≡ f = (F g y dec.there).names f x at within (same_name y x same) in
          let field : y ≡ x = same_field f y x (subst (λ n. field_info P n ≡ Some y) number dec.there) at in
          not_above_itself P C c x.owner.0 above (sym dec.owner ∙ ap (λ (z : Field). z.owner.0) field)

      -- what is found along the walk from a class is its member
      along_member : (c name k d f : ℕ) → C.rank d ≤ C.rank c → first_some (declared_field P c name) (walk_by P k d) ≡ Some f → (x : Field) × IsFieldMember P d f x × (x.name.0 ≡ name) × (field_info P f ≡ Some x) × (x.is_private ≡ true → x.owner.0 ≡ c)
      along_member c name zero d f le h = cc
      along_member c name (suc k) d f le h = by (walk_cases P name 0 (declared_field P c name) k d f h) (λ s. along_member c name k s f)
        where
          inherited : (s : ℕ) → IsDirectSuper P d s → (x : Field) × IsFieldMember P s f x × (x.name.0 ≡ name) × (field_info P f ≡ Some x) × (x.is_private ≡ true → x.owner.0 ≡ c) → (x : Field) × IsFieldMember P d f x × (x.name.0 ≡ name) × (field_info P f ≡ Some x) × (x.is_private ≡ true → x.owner.0 ≡ c)
          inherited s u r =
              let above = owner_above r.1.from d s f r.0 u r.1.by in
              let low : C.rank r.0.owner.0 < C.rank d = supers_lower P C above.between d r.0.owner.0 above.by in
              let member : IsFieldMember P d f r.0 = record {
                from = s ∷ r.1.from;
                by = (record { from = u; open_to_all = open' r.0.is_private (λ p. (let e : C.rank r.0.owner.0 ≡ C.rank c = ap C.rank (r.4 p) in omega (e, low, le, arith))); kept = none_hidden d f r.0 r.3 above }, r.1.by);
              } in
              (r.0, member, r.2, r.3, r.4)
            where
              open' : (b : Bool) → (b ≡ true → ⊥) → b ≡ false
              open' true n = absurd (n refl)
              open' false n = refl

          by : (declared_field P c name d ≡ Some f) ⊎ ((declared_field P c name d ≡ None) × (((p : ClassNo) × (parent_of (class_info P d) ≡ Some p) × (first_some (declared_field P c name) (walk_by P k p.0) ≡ Some f)) ⊎ ((s : ClassNo) × (some_of (λ (t : ClassNo). eqb t.0 s.0) (interfaces P d) ≡ true) × (first_some (declared_field P c name) (walk_by P k s.0) ≡ Some f)))) → ((s : ℕ) → C.rank s ≤ C.rank c → first_some (declared_field P c name) (walk_by P k s) ≡ Some f → (x : Field) × IsFieldMember P s f x × (x.name.0 ≡ name) × (field_info P f ≡ Some x) × (x.is_private ≡ true → x.owner.0 ≡ c)) → (x : Field) × IsFieldMember P d f x × (x.name.0 ≡ name) × (field_info P f ≡ Some x) × (x.is_private ≡ true → x.owner.0 ≡ c)
          by (inl e) rest = let r = field_is c name d f e in (r.0, record { from = []; by = r.1 }, r.2, r.1.there, r.3)
          by (inr (e, inl p)) rest = let u = parent_super P C d p.0.0 p.1 in let l : C.rank p.0.0 < C.rank d = lower P C d p.0.0 u in inherited p.0.0 u (rest p.0.0 (omega (l, le, arith)) p.2)
          by (inr (e, inr s)) rest = let u = interface_super P name 0 C d s.0 s.1 in let l : C.rank s.0.0 < C.rank d = lower P C d s.0.0 u in inherited s.0.0 u (rest s.0.0 (omega (l, le, arith)) s.2)

      -- the field that a class has is one of its members
      pub field_member : (c name f : ℕ) → field_of P c name ≡ Some f → (x : Field) × IsFieldMember P c f x × (x.name.0 ≡ name)
      field_member c name f h = let r = along_member c name (length P.classes) c f (omega arith) h in (r.0, r.1, r.2)

      -- a class has each of its members
      pub field_found : (c f : ℕ) (x : Field) → IsFieldMember P c f x → field_of P c x.name.0 ≡ Some f
      field_found c f x h =
          let j = some_field c f x h.from h.by in
          let y = field_member c x.name.0 j.0 j.1 in
          let same : j.0 ≡ f = one_field c j.0 f y.0 x y.1 h y.2 in
          subst (λ n. field_of P c x.name.0 ≡ Some n) same j.1
