-- Dispatch selects the method that is invoked.
use Rattle.std.proofs.Common.{◌≡◌, ℕ, zero, suc, true, false, not, ◌⊎◌, inl, inr, List, [], ◌∷◌, length, Option, Some, None, refl, sym, ap, ◌∙◌, subst, eqb}
use Rattle.std.specs.Prelude.{filter}
use Rattle.std.proofs.lemmas.Bool.{eqb-true}
use Rattle.jn_base.specs.declared.number.BodyNo.{BodyNo}
use Rattle.jn_base.specs.declared.number.ClassNo.{ClassNo}
use Rattle.jn_points.specs.declared.program.Method.{Method}
use Rattle.jn_points.specs.declared.program.Program.{Program}
use Rattle.jn_points.specs.Lookup.{class_info, parent_of, supers_of, method_at, body_of, body_no, class_of}
use Rattle.jn_points.specs.Members.{some_of, is_class, is_named, first_some, walk_by, interfaces, sub, declared_method, method_of, with_body, where_some, selected_for, dispatch}
use Rattle.jn_points.specs.Regular.{RegularClasses, Implements, IsConcrete, has_body}
use Rattle.jn_points.specs.Shaped.{IsVirtual}
use Rattle.jn_members_law.specs.Inherited.{SameSignature, IsInterface, Declares, AbstractInterfaces, RegularMethods}
use Rattle.jn_members_law.specs.Invoked.{Runs, InvokedBy, IsInvoked}
use Rattle.jn_members_law.proofs.Searches.{true_or_not, or_true}
use Rattle.jn_members_law.proofs.Supers.{parent_super, other_interface, no_super, interface_parent}
use Rattle.jn_members_law.proofs.Members.{named_parts, parts_named, declared_is, is_declared, walk_cases, interface_super}
use Rattle.jn_members_law.proofs.Unique.{one_declaration, no_object}
use Rattle.jn_members_law.proofs.Pairs.{same_method}

other_there : (o : Option ClassNo) (ss : List ClassNo) (d : ℕ) → some_of (λ t. eqb t.0 d) (filter (λ t. not (is_class o t)) ss) ≡ true → is_class o (record { 0 = d }) ≡ false
other_there o [] d h = cc
other_there o (s ∷ ss) d h = by (true_or_not (is_class o s)) (other_there o ss d)
  where
    on : is_class o s ≡ false → (eqb s.0 d ≡ true) ⊎ (some_of (λ t. eqb t.0 d) (filter (λ t. not (is_class o t)) ss) ≡ true) → (some_of (λ t. eqb t.0 d) (filter (λ t. not (is_class o t)) ss) ≡ true → is_class o (record { 0 = d }) ≡ false) → is_class o (record { 0 = d }) ≡ false
    on f (inl e) rest = (let same : s.0 ≡ d = eqb-true s.0 d e in subst (λ n. is_class o (record { 0 = n }) ≡ false) same f)
    on f (inr e) rest = rest e

    by : (is_class o s ≡ true) ⊎ (is_class o s ≡ false) → (some_of (λ t. eqb t.0 d) (filter (λ t. not (is_class o t)) ss) ≡ true → is_class o (record { 0 = d }) ≡ false) → is_class o (record { 0 = d }) ≡ false
    by (inl e) rest = rest (rw e at h)
    by (inr e) rest = on e (or_true (eqb s.0 d) (some_of (λ t. eqb t.0 d) (filter (λ t. not (is_class o t)) ss)) (rw e at h)) rest

module _ (P : Program) where
  -- a method with a body is given where it is found
  body_found : (k j : ℕ) → where_some (body_of (method_at P k)) k ≡ Some j → (x : Method) × (method_at P k ≡ Some x) × (has_body x.body ≡ true) × (k ≡ j)
  body_found k j h = by (method_at P k) refl h
    where
      on : (x : Method) (b : Option BodyNo) → x.body ≡ b → method_at P k ≡ Some x → where_some (body_no b) k ≡ Some j → (x : Method) × (method_at P k ≡ Some x) × (has_body x.body ≡ true) × (k ≡ j)
      on x None e at h = cc
      on x (Some b) e at h = (x, at, ap has_body e, (let s : k ≡ j = cc in s))

      by : (o : Option Method) → method_at P k ≡ o → where_some (body_of o) k ≡ Some j → (x : Method) × (method_at P k ≡ Some x) × (has_body x.body ≡ true) × (k ≡ j)
      by None e h = cc
      by (Some x) e h = on x x.body refl e h

  dispatched : (s m j : ℕ) (named : Method) → method_at P m ≡ Some named → dispatch P s m ≡ Some j → (x : Method) × (method_at P j ≡ Some x) × (has_body x.body ≡ true) × (method_of P s named.name.0 (length named.params) ≡ Some j)
  dispatched s m j named at h = by (method_of P s named.name.0 (length named.params)) refl (sym (ap (selected_for P s) at) ∙ h)
    where
      by : (o : Option ℕ) → method_of P s named.name.0 (length named.params) ≡ o → with_body P o ≡ Some j → (x : Method) × (method_at P j ≡ Some x) × (has_body x.body ≡ true) × (method_of P s named.name.0 (length named.params) ≡ Some j)
      by None e h = cc
      by (Some k) e h = let r = body_found k j h in (r.0, subst (λ n. method_at P n ≡ Some r.0) r.3 r.1, r.2, e ∙ ap Some r.3)

  module _ (C : RegularClasses P) (M : RegularMethods P) where
    module _ (s name arity : ℕ) where
      object_along : (n m : ℕ) → first_some (declared_method P s name arity) (walk_by P n 0) ≡ Some m → (x : Method) × Declares P 0 m x
      object_along zero m h = cc
      object_along (suc n) m h = by (walk_cases P name arity (declared_method P s name arity) n 0 m h)
        where
          by : (declared_method P s name arity 0 ≡ Some m) ⊎ ((declared_method P s name arity 0 ≡ None) × (((p : ClassNo) × (parent_of (class_info P 0) ≡ Some p) × (first_some (declared_method P s name arity) (walk_by P n p.0) ≡ Some m)) ⊎ ((t : ClassNo) × (some_of (λ (u : ClassNo). eqb u.0 t.0) (interfaces P 0) ≡ true) × (first_some (declared_method P s name arity) (walk_by P n t.0) ≡ Some m)))) → (x : Method) × Declares P 0 m x
          by (inl e) = let r = declared_is P name arity s 0 m e in (r.0, r.1)
          by (inr (e, inl p)) = absurd (no_super P C p.0.0 (parent_super P C 0 p.0.0 p.1))
          by (inr (e, inr t)) = absurd (no_super P C t.0.0 (interface_super P name arity C 0 t.0 t.1))

      -- what is found along an interface stands in an interface
      interface_along : (n c m : ℕ) → IsInterface P c true → first_some (declared_method P s name arity) (walk_by P n c) ≡ Some m → (x : Method) × (method_at P m ≡ Some x) × IsInterface P x.owner.0 true
      interface_along zero c m i h = cc
      interface_along (suc n) c m i h = by (walk_cases P name arity (declared_method P s name arity) n c m h) (λ t i h. interface_along n t m i h)
        where
          by : (declared_method P s name arity c ≡ Some m) ⊎ ((declared_method P s name arity c ≡ None) × (((p : ClassNo) × (parent_of (class_info P c) ≡ Some p) × (first_some (declared_method P s name arity) (walk_by P n p.0) ≡ Some m)) ⊎ ((t : ClassNo) × (some_of (λ (u : ClassNo). eqb u.0 t.0) (interfaces P c) ≡ true) × (first_some (declared_method P s name arity) (walk_by P n t.0) ≡ Some m)))) → ((t : ℕ) → IsInterface P t true → first_some (declared_method P s name arity) (walk_by P n t) ≡ Some m → (x : Method) × (method_at P m ≡ Some x) × IsInterface P x.owner.0 true) → (x : Method) × (method_at P m ≡ Some x) × IsInterface P x.owner.0 true
          by (inl e) rest = let r = declared_is P name arity s c m e in (r.0, r.1.there, subst (λ z. IsInterface P z true) (sym r.1.owner) i)
          by (inr (e, inl p)) rest =
              let o = object_along n m (subst (λ z. first_some (declared_method P s name arity) (walk_by P n z) ≡ Some m) (interface_parent P C c p.0 i p.1) p.2) in
              absurd (no_object P C M m o.0 o.1.there o.1.method o.1.owner)
          by (inr (e, inr t)) rest = rest t.0.0 (other_interface P C c t.0.0 (interface_super P name arity C c t.0 t.1) (other_there (parent_of (class_info P c)) (supers_of (class_info P c)) t.0.0 t.1)) t.2

    module _ (I : AbstractInterfaces P) (s : ℕ) (named : Method) where
      invoked_along : (n c m : ℕ) (x : Method) → method_at P m ≡ Some x → has_body x.body ≡ true → first_some (declared_method P s named.name.0 (length named.params)) (walk_by P n c) ≡ Some m → (past : List ℕ) × InvokedBy P s named past c m x
      invoked_along zero c m x at body h = cc
      invoked_along (suc n) c m x at body h = by (walk_cases P named.name.0 (length named.params) (declared_method P s named.name.0 (length named.params)) n c m h) (λ p h. invoked_along n p m x at body h)
        where
          here : (r : (x : Method) × Declares P c m x × (is_named x named.name.0 (length named.params) ≡ true) × (x.is_private ≡ true → c ≡ s)) → (past : List ℕ) × InvokedBy P s named past c m x
          here r =
              let same : r.0 ≡ x = same_method P m r.0 x r.1.there at in
              let parts = named_parts r.0 named.name.0 (length named.params) r.2 in (
                [],
                record {
                  declared = subst (λ z. Declares P c m z) same r.1;
                  same = subst (λ z. SameSignature z named) same (parts.1, parts.2);
                  body = body;
                  own = subst (λ z. z.is_private ≡ true → c ≡ s) same r.3;
                },
              )

          none_runs : declared_method P s named.name.0 (length named.params) c ≡ None → (j : ℕ) (y : Method) → Runs P s named c j y → ⊥
          none_runs e j y r = let f = is_declared P named.name.0 (length named.params) s c j y r.declared (parts_named y named.name.0 (length named.params) r.declared.method r.same.0 r.same.1) r.own in cc

          by : (declared_method P s named.name.0 (length named.params) c ≡ Some m) ⊎ ((declared_method P s named.name.0 (length named.params) c ≡ None) × (((p : ClassNo) × (parent_of (class_info P c) ≡ Some p) × (first_some (declared_method P s named.name.0 (length named.params)) (walk_by P n p.0) ≡ Some m)) ⊎ ((t : ClassNo) × (some_of (λ (u : ClassNo). eqb u.0 t.0) (interfaces P c) ≡ true) × (first_some (declared_method P s named.name.0 (length named.params)) (walk_by P n t.0) ≡ Some m)))) → ((p : ℕ) → first_some (declared_method P s named.name.0 (length named.params)) (walk_by P n p) ≡ Some m → (past : List ℕ) × InvokedBy P s named past p m x) → (past : List ℕ) × InvokedBy P s named past c m x
          by (inl e) rest = here (declared_is P named.name.0 (length named.params) s c m e)
          by (inr (e, inl p)) rest = let r = rest p.0.0 p.2 in (p.0.0 ∷ r.0, (none_runs e, p.1, r.1))
          by (inr (e, inr t)) rest =
              let o = interface_along s named.name.0 (length named.params) n t.0.0 m (other_interface P C c t.0.0 (interface_super P named.name.0 (length named.params) C c t.0 t.1) (other_there (parent_of (class_info P c)) (supers_of (class_info P c)) t.0.0 t.1)) t.2 in
              let same : o.0 ≡ x = same_method P m o.0 x o.1 at in
              let none : has_body x.body ≡ false = I m x at (subst (λ z. IsInterface P z.owner.0 true) same o.2) in
              cc

      pub dispatch_invoked : (m k : ℕ) → method_at P m ≡ Some named → dispatch P s m ≡ Some k → (x : Method) × IsInvoked P s named k x
      dispatch_invoked m k at h =
          let d = dispatched s m k named at h in
          let r = invoked_along (length P.classes) s k d.0 d.1 d.2 d.3 in
          (d.0, record { past = r.0; search = r.1 })

    module _ (s : ℕ) (named : Method) where
      -- at most one method is invoked
      invoked_once : (past other : List ℕ) (c k j : ℕ) (x y : Method) → InvokedBy P s named past c k x → InvokedBy P s named other c j y → k ≡ j
      invoked_once [] [] c k j x y a b = one_declaration P C M c j k y x b.declared a.declared (a.same.0 ∙ sym b.same.0, a.same.1 ∙ sym b.same.1)
      invoked_once [] (q ∷ other) c k j x y a b = absurd (b.0 k x a)
      invoked_once (p ∷ past) [] c k j x y a b = absurd (a.0 j y b)
      invoked_once (p ∷ past) (q ∷ other) c k j x y a b =
          let same : q ≡ p = parent (sym b.1 ∙ a.1) in
          invoked_once past other p k j x y a.2 (subst (λ z. InvokedBy P s named other z j y) same b.2)
        where
          number : Option ClassNo → ℕ
          number None = 0
          number (Some c) = c.0

          parent : ◌≡◌ {A = Option ClassNo} (Some (record { 0 = q })) (Some (record { 0 = p })) → q ≡ p
          parent e = ap number e

      pub invoked_is_one : (k j : ℕ) (x y : Method) → IsInvoked P s named k x → IsInvoked P s named j y → k ≡ j
      invoked_is_one k j x y a b = invoked_once a.past b.past s k j x y a.search b.search

    pub invoked_dispatch : AbstractInterfaces P → Implements P → (s m k : ℕ) (named x : Method) → method_at P m ≡ Some named → IsConcrete P s → IsVirtual P m → sub P s named.owner.0 ≡ true → IsInvoked P s named k x → dispatch P s m ≡ Some k
    invoked_dispatch I G s m k named x at concrete virtual below h =
        let d = G.bodies s m concrete virtual (subst (λ o. sub P s (class_of o) ≡ true) (sym at) below) in
        let i = dispatch_invoked I s named m d.0 at d.1 in
        let same : d.0 ≡ k = invoked_is_one s named d.0 k i.0 x i.1 h in
        subst (λ n. dispatch P s m ≡ Some n) same d.1
