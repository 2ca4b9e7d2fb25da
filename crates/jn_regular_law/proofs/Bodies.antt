-- Bodies, methods and fields of a regular program.
use Rattle.std.proofs.Common.{◌≡◌, ◌<◌, ℕ, zero, suc, true, false, not, ◌⊎◌, inl, inr, List, [], ◌∷◌, length, Option, Some, None, refl, sym, ap, ◌∙◌, subst, arith}
use Rattle.std.specs.Prelude.{slice_get, slice_index_or}
use Rattle.std.proofs.lemmas.Bool.{and_parts, not-true}
use Rattle.jn_base.specs.declared.number.BodyNo.{BodyNo}
use Rattle.jn_base.specs.declared.number.ClassNo.{ClassNo}
use Rattle.jn_points.specs.declared.point.BaseType.{BaseType}
use Rattle.jn_points.specs.declared.point.BaseType.TheVariants.{Void, Ref}
use Rattle.jn_points.specs.declared.program.Body.{Body}
use Rattle.jn_points.specs.declared.program.Field.{Field}
use Rattle.jn_points.specs.declared.program.Method.{Method}
use Rattle.jn_points.specs.declared.program.Program.{Program}
use Rattle.jn_points.specs.Lookup.{base_in, parent_of, body_no, body_of, class_of, class_info, ctor_of, static_of, params_of, regs_of, body_at, field_info, method_at, method_in, method_of_body, owner, owner_of, reg_base}
use Rattle.jn_points.specs.Members.{has_field, object_has, sub, fits, is_pair, pairs_of}
use Rattle.jn_points.specs.BaseTyping.{PairTyped, StartsWith, given_bases}
use Rattle.jn_points.specs.Regular.{BodyBelow, FrontOf, Regular, RegularPair}
use Rattle.jn_soundness.proofs.Basics.{given_this}
use Rattle.jn_soundness.proofs.Fits.{fits_self, both_true}
use Rattle.jn_regular_law.proofs.Subtypes.{own_or_above, regular_order}

pub there_at : {A : Type 0} (xs : List A) (n : ℕ) → n < length xs → (x : A) × (slice_get xs n ≡ Some x)
there_at [] n l = absurd (omega arith)
there_at (x ∷ xs) zero l = (x, refl)
there_at (x ∷ xs) (suc n) l = there_at xs n (omega arith)

-- types in front are those of the first registers

pub front_first : (t : BaseType) (ts regs : List BaseType) → FrontOf (t ∷ ts) regs → slice_index_or regs 0 Void ≡ t
front_first t ts [] h = absurd h
front_first t ts (r ∷ regs) h = h.0

pub front_some : (t : BaseType) (ts regs : List BaseType) → FrontOf (t ∷ ts) regs → (n : ℕ) × (length regs ≡ suc n)
front_some t ts [] h = absurd h
front_some t ts (r ∷ regs) h = (length regs, refl)

module _ (P : Program) where
  front_starts : (ts regs : List BaseType) → FrontOf ts regs → StartsWith P (λ r. slice_index_or regs r Void) ts
  front_starts [] regs h = tt
  front_starts (t ∷ ts) [] h = absurd h
  front_starts (t ∷ ts) (r ∷ regs) h = (subst (λ z. fits P t z ≡ true) (sym h.0) (fits_self P t), front_starts ts regs h.1)

  pub ctor_there : (m : ℕ) → ctor_of (method_at P m) ≡ true → (x : Method) × (method_at P m ≡ Some x) × (x.ctor ≡ true)
  ctor_there m c = by (method_at P m) refl c
    where
      by : (o : Option Method) → method_at P m ≡ o → ctor_of o ≡ true → (x : Method) × (method_at P m ≡ Some x) × (x.ctor ≡ true)
      by None e c = cc
      by (Some x) e c = (x, e, c)

  pub field_there : (c f : ℕ) → has_field P c f ≡ true → (x : Field) × (field_info P f ≡ Some x) × (x.is_static ≡ false) × (sub P c x.owner.0 ≡ true)
  field_there c f h = by (field_info P f) refl h
    where
      by : (o : Option Field) → field_info P f ≡ o → object_has P c o ≡ true → (x : Field) × (field_info P f ≡ Some x) × (x.is_static ≡ false) × (sub P c x.owner.0 ≡ true)
      by None e h = cc
      by (Some x) e h = let q = and_parts (not x.is_static) (sub P c x.owner.0) h in (x, e, not-true x.is_static q.0, q.1)

  has_by : (c f : ℕ) (x : Field) → field_info P f ≡ Some x → x.is_static ≡ false → sub P c x.owner.0 ≡ true → has_field P c f ≡ true
  has_by c f x e s u = subst (λ o. object_has P c o ≡ true) (sym e) (both_true (not x.is_static) (sub P c x.owner.0) (ap not s) u)

  pair_there : (m k : ℕ) → is_pair P m k ≡ true → (x : Method) × (y : Method) × (method_at P m ≡ Some x) × (method_at P k ≡ Some y)
  pair_there m k h = by (method_at P m) (method_at P k) refl refl h
    where
      by : (o u : Option Method) → method_at P m ≡ o → method_at P k ≡ u → pairs_of P m k o u ≡ true → (x : Method) × (y : Method) × (method_at P m ≡ Some x) × (method_at P k ≡ Some y)
      by None u eo eu h = cc
      by (Some x) None eo eu h = cc
      by (Some x) (Some y) eo eu h = (x, y, eo, eu)

  module _ (R : Regular P) where
    pub method_body : (m b : ℕ) → body_of (method_at P m) ≡ Some b → (x : Body) × (body_at P b ≡ Some x) × (x.method.0 ≡ m)
    method_body m b is = by (method_at P m) refl is
      where
        at_body : (x : Body) → body_at P b ≡ Some x → (x : Body) × (body_at P b ≡ Some x) × (x.method.0 ≡ m)
        at_body x e = (x, e, sym ((R.bodies b x e).its_own m is))

        by_no : (o : Option BodyNo) → BodyBelow P o → body_no o ≡ Some b → (x : Body) × (body_at P b ≡ Some x) × (x.method.0 ≡ m)
        by_no None l h = cc
        by_no (Some n) l h =
            let same : n.0 ≡ b = cc in
            let t = there_at P.bodies b (subst (λ z. z < length P.bodies) same l) in
            at_body t.0 t.1

        by : (o : Option Method) → method_at P m ≡ o → body_of o ≡ Some b → (x : Body) × (body_at P b ≡ Some x) × (x.method.0 ≡ m)
        by None e h = cc
        by (Some y) e h = by_no y.body (R.methods m y e).body h

    -- a method's body runs for it
    pub body_method : (m b : ℕ) → body_of (method_at P m) ≡ Some b → method_in P b ≡ method_at P m
    body_method m b is = let t = method_body m b is in ap (method_of_body P) t.1 ∙ ap (method_at P) t.2

    pub starts : (m b : ℕ) → body_of (method_at P m) ≡ Some b → StartsWith P (reg_base P b) (given_bases P m)
    starts m b is =
        let t = method_body m b is in
        let x : Body = t.0 in
        let front : FrontOf (given_bases P m) x.regs = subst (λ z. FrontOf (given_bases P z) x.regs) t.2 (R.bodies b x t.1).front in
        subst (λ o. StartsWith P (base_in o) (given_bases P m)) (sym t.1) (front_starts (given_bases P m) x.regs front)

    pub ctor_static : (m : ℕ) → ctor_of (method_at P m) ≡ true → static_of (method_at P m) ≡ false
    ctor_static m c = let y = ctor_there m c in ap static_of y.1 ∙ ((R.methods m y.0 y.1).ctor y.2).0

    -- register 0 of a constructor is `this`
    pub ctor_this : (b : ℕ) (x : Body) → body_at P b ≡ Some x → ctor_of (method_in P b) ≡ true → (reg_base P b 0 ≡ Ref (record { 0 = class_of (method_in P b) })) × ((n : ℕ) × (regs_of (body_at P b) ≡ suc n))
    ctor_this b x e c =
        let m : ℕ = x.method.0 in
        let its : method_in P b ≡ method_at P m = ap (method_of_body P) e in
        let s : static_of (method_at P m) ≡ false = ctor_static m (ap ctor_of (sym its) ∙ c) in
        let front : FrontOf (Ref (record { 0 = class_of (method_at P m) }) ∷ params_of (method_at P m)) x.regs = subst (λ ts. FrontOf ts x.regs) (given_this P m s) (R.bodies b x e).front in
        let first : reg_base P b 0 ≡ Ref (record { 0 = class_of (method_at P m) }) = ap (λ o. base_in o 0) e ∙ front_first (Ref (record { 0 = class_of (method_at P m) })) (params_of (method_at P m)) x.regs front in
        let some = front_some (Ref (record { 0 = class_of (method_at P m) })) (params_of (method_at P m)) x.regs front in
        (first ∙ ap (λ y. Ref (record { 0 = class_of y })) (sym its), (some.0, ap regs_of e ∙ some.1))

    pub ctor_reg : (m b : ℕ) → body_of (method_at P m) ≡ Some b → ctor_of (method_at P m) ≡ true → reg_base P b 0 ≡ Ref (record { 0 = class_of (method_at P m) })
    ctor_reg m b is c =
        let t = method_body m b is in
        let its = body_method m b is in
        subst (λ y. reg_base P b 0 ≡ Ref (record { 0 = class_of y })) its (ctor_this b t.0 t.1 (ap ctor_of its ∙ c)).0

    pub pairs : (m k : ℕ) → is_pair P m k ≡ true → PairTyped P m k
    pairs m k h =
        let t = pair_there m k h in
        let q : RegularPair P t.0 t.1 = R.pairs m k t.0 t.1 h t.2 t.3 in
        typed t.0 t.1 t.2 t.3 q
      where
        typed : (x y : Method) → method_at P m ≡ Some x → method_at P k ≡ Some y → RegularPair P x y → PairTyped P m k
        typed x y im ik q = record {
          params = ap params_of im ∙ q.params ∙ sym (ap params_of ik);
          result = rw (im, ik) q.result;
          both = λ s. ap static_of im ∙ q.instance ∙ sym (ap static_of ik) ∙ s;
        }

    -- fields stand in classes, which are neither Object nor String

    pub no_object_field : (f : ℕ) → has_field P 0 f ≡ true → ⊥
    no_object_field f h =
        let t = field_there 0 f h in
        let x : Field = t.0 in
        let top : x.owner.0 ≡ 0 = (regular_order P R.classes).object x.owner.0 t.3 in
        let low : 1 < x.owner.0 = (R.fields f x t.1).declared in
        absurd (omega arith)

    -- an object's field is its class's own, or the parent's
    pub own_or_parent : (c f : ℕ) → has_field P c f ≡ true → (owner P f ≡ c) ⊎ ((p : ClassNo) × (parent_of (class_info P c) ≡ Some p) × (has_field P p.0 f ≡ true))
    own_or_parent c f h =
        let t = field_there c f h in
        let x : Field = t.0 in
        let low : 1 < x.owner.0 = (R.fields f x t.1).declared in
        by x t.1 t.2 (own_or_above P R.classes c x.owner.0 (λ e. omega (e, arith)) (R.fields f x t.1).no_interface t.3)
      where
        by : (x : Field) → field_info P f ≡ Some x → x.is_static ≡ false → (c ≡ x.owner.0) ⊎ ((p : ClassNo) × (parent_of (class_info P c) ≡ Some p) × (sub P p.0 x.owner.0 ≡ true)) → (owner P f ≡ c) ⊎ ((p : ClassNo) × (parent_of (class_info P c) ≡ Some p) × (has_field P p.0 f ≡ true))
        by x e s (inl o) = inl (ap owner_of e ∙ sym o)
        by x e s (inr p) = inr (p.0, p.1, has_by p.0.0 f x e s p.2)
