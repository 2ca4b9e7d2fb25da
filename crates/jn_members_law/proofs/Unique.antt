-- A member is found along the walk, and a member that a class declares is the one that is found.
use Rattle.std.proofs.Common.{◌≡◌, ◌<◌, ℕ, zero, suc, true, false, ◌⊎◌, inl, inr, List, [], ◌∷◌, ◌++◌, length, Option, Some, None, refl, sym, ap, ◌∙◌, subst, eqb, arith}
use Rattle.std.specs.Prelude.{flat_map}
use Rattle.jn_base.specs.declared.number.ClassNo.{ClassNo}
use Rattle.jn_points.specs.declared.program.Method.{Method}
use Rattle.jn_points.specs.declared.program.Program.{Program}
use Rattle.jn_points.specs.Lookup.{class_info, parent_of, method_at}
use Rattle.jn_points.specs.Members.{some_of, first_or, first_some, is_class, walk_by, walk_parent, interfaces, declared_method, method_of}
use Rattle.jn_points.specs.Regular.{RegularClasses}
use Rattle.jn_points.proofs.Walks.{first_some_append}
use Rattle.jn_members_law.specs.Inherited.{SameSignature, IsInterface, IsDirectSuper, Declares, MemberBy, IsMember, KeepsAccess, RegularMethods}
use Rattle.jn_members_law.proofs.Searches.{found_or_none, or_first, or_none, or_some, one_along}
use Rattle.jn_members_law.proofs.Supers.{parent_or_interface, lower, other_interface, no_super, interface_parent}
use Rattle.jn_members_law.proofs.Members.{open_method, named_parts, parts_named, declared_is, open_is, is_declared, is_open, open_alone, kept_none, open_member}

module _ (P : Program) where
  -- after a class that finds none: along its parent
  by_parent : (f : ℕ → Option ℕ) (k c m : ℕ) (p : ClassNo) → f c ≡ None → parent_of (class_info P c) ≡ Some p → first_some f (walk_by P k p.0) ≡ Some m → first_some f (walk_by P (suc k) c) ≡ Some m
  by_parent f k c m p none parent found =
      let there : first_some f (walk_parent P (walk_by P k) (parent_of (class_info P c))) ≡ Some m = ap (λ o. first_some f (walk_parent P (walk_by P k) o)) parent ∙ found in
      or_none (f c) (first_some f (walk_parent P (walk_by P k) (parent_of (class_info P c)) ++ flat_map (λ (s : ClassNo). walk_by P k s.0) (interfaces P c))) none
      ∙ (first_some_append f (walk_parent P (walk_by P k) (parent_of (class_info P c))) (flat_map (λ (s : ClassNo). walk_by P k s.0) (interfaces P c))
      ∙ or_first (first_some f (walk_parent P (walk_by P k) (parent_of (class_info P c)))) (first_some f (flat_map (λ (s : ClassNo). walk_by P k s.0) (interfaces P c))) m there)

  -- what a direct supertype finds, the class finds, or something before it
  pub by_super : (f : ℕ → Option ℕ) (k c d m : ℕ) → IsDirectSuper P c d → first_some f (walk_by P k d) ≡ Some m → (j : ℕ) × (first_some f (walk_by P (suc k) c) ≡ Some j)
  by_super f k c d m u found = by (found_or_none (f c)) (parent_or_interface P c d u)
    where
      by : (f c ≡ None) ⊎ ((j : ℕ) × (f c ≡ Some j)) → ((p : ClassNo) × (parent_of (class_info P c) ≡ Some p) × (p.0 ≡ d)) ⊎ ((some_of (λ t. eqb t.0 d) (interfaces P c) ≡ true) × (is_class (parent_of (class_info P c)) (record { 0 = d }) ≡ false)) → (j : ℕ) × (first_some f (walk_by P (suc k) c) ≡ Some j)
      by (inr r) i = (r.0, or_first (f c) (first_some f (walk_parent P (walk_by P k) (parent_of (class_info P c)) ++ flat_map (λ (s : ClassNo). walk_by P k s.0) (interfaces P c))) r.0 r.1)
      by (inl e) (inl p) = (m, by_parent f k c m p.0 e p.1 (subst (λ z. first_some f (walk_by P k z) ≡ Some m) (sym p.2) found))
      by (inl e) (inr i) =
          let a = one_along f (walk_by P k) (interfaces P c) d m i.0 found in
          let o = or_some (first_some f (walk_parent P (walk_by P k) (parent_of (class_info P c)))) (first_some f (flat_map (λ (s : ClassNo). walk_by P k s.0) (interfaces P c))) a.0 a.1 in
          (o.0, or_none (f c) (first_some f (walk_parent P (walk_by P k) (parent_of (class_info P c)) ++ flat_map (λ (s : ClassNo). walk_by P k s.0) (interfaces P c))) e ∙ (first_some_append f (walk_parent P (walk_by P k) (parent_of (class_info P c))) (flat_map (λ (s : ClassNo). walk_by P k s.0) (interfaces P c)) ∙ o.1))

  -- what the class itself finds comes first
  pub in_class : (f : ℕ → Option ℕ) (k c j : ℕ) → 0 < k → f c ≡ Some j → first_some f (walk_by P k c) ≡ Some j
  in_class f zero c j l e = absurd (omega arith)
  in_class f (suc k) c j l e = or_first (f c) (first_some f (walk_parent P (walk_by P k) (parent_of (class_info P c)) ++ flat_map (λ (s : ClassNo). walk_by P k s.0) (interfaces P c))) j e

  same_along : (f g : ℕ → Option ℕ) → ((d : ℕ) → f d ≡ g d) → (xs : List ℕ) → first_some f xs ≡ first_some g xs
  same_along f g same [] = refl
  same_along f g same (x ∷ xs) = ap (λ o. first_or o (first_some f xs)) (same x) ∙ ap (first_or (g x)) (same_along f g same xs)

  pub member_named : (from : List ℕ) (c m : ℕ) (x : Method) → MemberBy P from c m x → (method_at P m ≡ Some x) × (x.ctor ≡ false)
  member_named [] c m x h = (h.there, h.method)
  member_named (d ∷ ds) c m x h = member_named ds d m x h.1

  module _ (C : RegularClasses P) where
    some_classes : (c : ℕ) → 0 < length P.classes
    some_classes c = let l : C.rank c < length P.classes = C.few c in omega arith

    -- a member that isn't private is found along the class, or another one
    open_found : (from : List ℕ) (c m : ℕ) (x : Method) → MemberBy P from c m x → x.is_private ≡ false → (k : ℕ) → C.rank c < k → (j : ℕ) × (first_some (open_method P x.name.0 (length x.params)) (walk_by P k c) ≡ Some j)
    open_found from c m x h o zero l = absurd (omega arith)
    open_found [] c m x h o (suc k) l =
        let f = is_open P x.name.0 (length x.params) c m x h (parts_named x x.name.0 (length x.params) h.method refl refl) o in
        (f.0, in_class (open_method P x.name.0 (length x.params)) (suc k) c f.0 (omega arith) f.1)
    open_found (d ∷ ds) c m x h o (suc k) l =
        let low : C.rank d < C.rank c = lower P C c d h.0.from in
        let r = open_found ds d m x h.1 o k (omega arith) in
        by_super (open_method P x.name.0 (length x.params)) k c d r.0 h.0.from r.1

    -- a class has a method for each of its members
    pub member_found : (c m : ℕ) (x : Method) → IsMember P c m x → (j : ℕ) × (method_of P c x.name.0 (length x.params) ≡ Some j)
    member_found c m x h = by (found_or_none (declared_method P c x.name.0 (length x.params) c)) h.from h.by
      where
        by : (declared_method P c x.name.0 (length x.params) c ≡ None) ⊎ ((j : ℕ) × (declared_method P c x.name.0 (length x.params) c ≡ Some j)) → (from : List ℕ) → MemberBy P from c m x → (j : ℕ) × (method_of P c x.name.0 (length x.params) ≡ Some j)
        by (inr r) from h = (r.0, in_class (declared_method P c x.name.0 (length x.params)) (length P.classes) c r.0 (some_classes c) r.1)
        by (inl e) [] h = absurd (let f = is_declared P x.name.0 (length x.params) c c m x h (parts_named x x.name.0 (length x.params) h.method refl refl) (λ p. refl) in cc)
        by (inl e) (d ∷ ds) h =
            let r = open_found (d ∷ ds) c m x h h.0.open_to_all (length P.classes) (C.few c) in
            (r.0, same_along (declared_method P c x.name.0 (length x.params)) (open_method P x.name.0 (length x.params)) (open_alone P x.name.0 (length x.params) c e) (walk_by P (length P.classes) c) ∙ r.1)

    -- what a class has is one of its members
    pub method_member : KeepsAccess P → (c name arity m : ℕ) → method_of P c name arity ≡ Some m → (x : Method) × IsMember P c m x × (x.name.0 ≡ name) × (length x.params ≡ arity)
    method_member A c name arity m h = by (found_or_none (declared_method P c name arity c))
      where
        by : (declared_method P c name arity c ≡ None) ⊎ ((j : ℕ) × (declared_method P c name arity c ≡ Some j)) → (x : Method) × IsMember P c m x × (x.name.0 ≡ name) × (length x.params ≡ arity)
        by (inr r) =
            let own : method_of P c name arity ≡ Some r.0 = in_class (declared_method P c name arity) (length P.classes) c r.0 (some_classes c) r.1 in
            let same : r.0 ≡ m = (let s : Some r.0 ≡ Some m = sym own ∙ h in cc) in
            let x = declared_is P name arity c c m (subst (λ j. declared_method P c name arity c ≡ Some j) same r.1) in
            let parts = named_parts x.0 name arity x.2 in
            (x.0, record { from = []; by = x.1 }, parts.1, parts.2)
        by (inl e) =
            let open_along = sym (same_along (declared_method P c name arity) (open_method P name arity) (open_alone P name arity c e) (walk_by P (length P.classes) c)) ∙ h in
            let x = open_member P name arity C A (length P.classes) c m open_along in
            let parts = named_parts x.0 name arity x.2 in
            (x.0, x.1, parts.1, parts.2)

    -- the members of Object are its own, those of an interface come from interfaces or Object
    object_owner : (from : List ℕ) (m : ℕ) (x : Method) → MemberBy P from 0 m x → x.owner.0 ≡ 0
    object_owner [] m x h = h.owner
    object_owner (d ∷ ds) m x h = absurd (no_super P C d h.0.from)

    interface_owner : (from : List ℕ) (c m : ℕ) (x : Method) → MemberBy P from c m x → IsInterface P c true → (IsInterface P x.owner.0 true) ⊎ (x.owner.0 ≡ 0)
    interface_owner [] c m x h i = inl (subst (λ z. IsInterface P z true) (sym h.owner) i)
    interface_owner (d ∷ ds) c m x h i = by (parent_or_interface P c d h.0.from) (λ j. interface_owner ds d m x h.1 j)
      where
        by : ((p : ClassNo) × (parent_of (class_info P c) ≡ Some p) × (p.0 ≡ d)) ⊎ ((some_of (λ t. eqb t.0 d) (interfaces P c) ≡ true) × (is_class (parent_of (class_info P c)) (record { 0 = d }) ≡ false)) → (IsInterface P d true → (IsInterface P x.owner.0 true) ⊎ (x.owner.0 ≡ 0)) → (IsInterface P x.owner.0 true) ⊎ (x.owner.0 ≡ 0)
        by (inl p) rest = inr (object_owner ds m x (subst (λ z. MemberBy P ds z m x) (sym p.2 ∙ interface_parent P C c p.0 i p.1) h.1))
        by (inr o) rest = rest (other_interface P C c d h.0.from o.1)

    module _ (M : RegularMethods P) where
      -- two declarations of one signature in a class are one
      pub one_declaration : (c m k : ℕ) (x y : Method) → Declares P c m x → Declares P c k y → SameSignature y x → k ≡ m
      one_declaration c m k x y a b same =
          let owner : y.owner ≡ x.owner = (let e : y.owner.0 ≡ x.owner.0 = b.owner ∙ sym a.owner in λ i. record { 0 = e i }) in
          let name : y.name ≡ x.name = (let e : y.name.0 ≡ x.name.0 = same.0 in λ i. record { 0 = e i }) in
          (M k y b.there).names m x a.there owner name same.1

      pub no_object : (m : ℕ) (x : Method) → method_at P m ≡ Some x → x.ctor ≡ false → x.owner.0 ≡ 0 → ⊥
      no_object m x at c e = let o = (M m x at).of_object e in let t : x.ctor ≡ true = o.0 in cc

      no_interface : (from : List ℕ) (c m : ℕ) (x : Method) → MemberBy P from c m x → IsInterface P c true → IsInterface P x.owner.0 false → ⊥
      no_interface from c m x h i n = by (interface_owner from c m x h i)
        where
          by : (IsInterface P x.owner.0 true) ⊎ (x.owner.0 ≡ 0) → ⊥
          by (inl t) = (let s : true ≡ false = sym t ∙ n in cc)
          by (inr e) = let a = member_named from c m x h in no_object m x a.0 a.1 e

      -- a member that a class declares is the one that is found
      class_open : (from : List ℕ) (c m : ℕ) (x : Method) → MemberBy P from c m x → x.is_private ≡ false → IsInterface P x.owner.0 false → (k : ℕ) → C.rank c < k → first_some (open_method P x.name.0 (length x.params)) (walk_by P k c) ≡ Some m
      class_open from c m x h o n zero l = absurd (omega arith)
      class_open [] c m x h o n (suc k) l =
          let f = is_open P x.name.0 (length x.params) c m x h (parts_named x x.name.0 (length x.params) h.method refl refl) o in
          let y = open_is P x.name.0 (length x.params) c f.0 f.1 in
          let parts = named_parts y.0 x.name.0 (length x.params) y.2 in
          let same : f.0 ≡ m = one_declaration c m f.0 x y.0 h y.1 (parts.1, parts.2) in
          in_class (open_method P x.name.0 (length x.params)) (suc k) c m (omega arith) (subst (λ j. open_method P x.name.0 (length x.params) c ≡ Some j) same f.1)
      class_open (d ∷ ds) c m x h o n (suc k) l = by (parent_or_interface P c d h.0.from) (λ below. class_open ds d m x h.1 o n k below)
        where
          named : (method_at P m ≡ Some x) × (x.ctor ≡ false)
          named = member_named (d ∷ ds) c m x h

          none : open_method P x.name.0 (length x.params) c ≡ None
          none = kept_none P x.name.0 (length x.params) c x h.0.kept (parts_named x x.name.0 (length x.params) named.1 refl refl)

          by : ((p : ClassNo) × (parent_of (class_info P c) ≡ Some p) × (p.0 ≡ d)) ⊎ ((some_of (λ t. eqb t.0 d) (interfaces P c) ≡ true) × (is_class (parent_of (class_info P c)) (record { 0 = d }) ≡ false)) → (C.rank d < k → first_some (open_method P x.name.0 (length x.params)) (walk_by P k d) ≡ Some m) → first_some (open_method P x.name.0 (length x.params)) (walk_by P (suc k) c) ≡ Some m
          by (inl p) rest =
              let low : C.rank d < C.rank c = lower P C c d h.0.from in
              by_parent (open_method P x.name.0 (length x.params)) k c m p.0 none p.1 (subst (λ z. first_some (open_method P x.name.0 (length x.params)) (walk_by P k z) ≡ Some m) (sym p.2) (rest (omega arith)))
          by (inr i) rest = absurd (no_interface ds d m x h.1 (other_interface P C c d h.0.from i.1) n)

      pub class_member : (c m : ℕ) (x : Method) → IsMember P c m x → IsInterface P x.owner.0 false → method_of P c x.name.0 (length x.params) ≡ Some m
      class_member c m x h n = by (found_or_none (declared_method P c x.name.0 (length x.params) c)) h.from h.by
        where
          by : (declared_method P c x.name.0 (length x.params) c ≡ None) ⊎ ((j : ℕ) × (declared_method P c x.name.0 (length x.params) c ≡ Some j)) → (from : List ℕ) → MemberBy P from c m x → method_of P c x.name.0 (length x.params) ≡ Some m
          by (inr r) [] h =
              let y = declared_is P x.name.0 (length x.params) c c r.0 r.1 in
              let parts = named_parts y.0 x.name.0 (length x.params) y.2 in
              let same : r.0 ≡ m = one_declaration c m r.0 x y.0 h y.1 (parts.1, parts.2) in
              in_class (declared_method P c x.name.0 (length x.params)) (length P.classes) c m (some_classes c) (subst (λ j. declared_method P c x.name.0 (length x.params) c ≡ Some j) same r.1)
          by (inr r) (d ∷ ds) h =
              let y = declared_is P x.name.0 (length x.params) c c r.0 r.1 in
              let parts = named_parts y.0 x.name.0 (length x.params) y.2 in
              absurd (h.0.kept r.0 y.0 y.1 (parts.1, parts.2))
          by (inl e) [] h = absurd (let f = is_declared P x.name.0 (length x.params) c c m x h (parts_named x x.name.0 (length x.params) h.method refl refl) (λ p. refl) in cc)
          by (inl e) (d ∷ ds) h =
              same_along (declared_method P c x.name.0 (length x.params)) (open_method P x.name.0 (length x.params)) (open_alone P x.name.0 (length x.params) c e) (walk_by P (length P.classes) c) ∙ class_open (d ∷ ds) c m x h h.0.open_to_all n (length P.classes) (C.few c)
