-- Laws of the order of base types.
use Rattle.std.proofs.Common.{◌≡◌, ℕ, zero, suc, Bool, true, false, ◌&&◌, ◌||◌, length, refl, ap, ◌∙◌, subst, eqb}
use Rattle.std.proofs.lemmas.Bool.{eqb-true, eq-eqb}
use Rattle.jn_points.specs.BaseTyping.{Ordered}
use Rattle.jn_points.specs.BaseRows.{is_void}
use Rattle.jn_points.specs.declared.point.BaseType.{BaseType}
use Rattle.jn_points.specs.declared.point.BaseType.TheVariants.{Int, Bool as BoolBase, Void, Null as NullBase, Ref, Array}
use Rattle.jn_points.specs.declared.point.Elem.{Elem}
use Rattle.jn_points.specs.declared.point.Elem.TheVariants.{Int as IntElem, Bool as BoolElem, Ref as RefElem}
use Rattle.jn_points.specs.declared.program.Program.{Program}
use Rattle.jn_points.specs.Lookup.{is_flat, is_ref_base, is_array, elem_base}
use Rattle.jn_points.specs.Members.{same_flag, elem_within, reaches, sub, fits}
use Rattle.jn_transfer.specs.Transfer.{elem_qual}

both : (a b : Bool) → a && b ≡ true → (a ≡ true) × (b ≡ true)
both true b h = (refl, h)
both false b h = cc

pub both_true : (a b : Bool) → a ≡ true → b ≡ true → a && b ≡ true
both_true true b h k = k
both_true false b h k = cc

pub or_right : (a b : Bool) → b ≡ true → a || b ≡ true
or_right true b h = refl
or_right false b h = h

pub or_left : (a b : Bool) → a ≡ true → a || b ≡ true
or_left true b h = refl
or_left false b h = cc

flags_equal : (a b : Bool) → same_flag a b ≡ true → a ≡ b
flags_equal true true h = refl
flags_equal true false h = cc
flags_equal false true h = cc
flags_equal false false h = refl

equal_flags : (a b : Bool) → a ≡ b → same_flag a b ≡ true
equal_flags true true h = refl
equal_flags true false h = cc
equal_flags false true h = cc
equal_flags false false h = refl

module _ (P : Program) where
  pub reaches_self : (n c : ℕ) → reaches P n c c ≡ true
  reaches_self zero c = eq-eqb c c refl
  reaches_self (suc n) c = or_left (eqb c c) _ (eq-eqb c c refl)

  pub sub_self : (c : ℕ) → sub P c c ≡ true
  sub_self c = or_right (eqb c 0) (reaches P (length P.classes) c c) (reaches_self (length P.classes) c)

  elem_self : (e : Elem) → elem_within (sub P) e e ≡ true
  elem_self IntElem = refl
  elem_self BoolElem = refl
  elem_self (RefElem c) = sub_self c.0

  pub fits_self : (t : BaseType) → fits P t t ≡ true
  fits_self Int = refl
  fits_self BoolBase = refl
  fits_self Void = refl
  fits_self NullBase = refl
  fits_self (Ref c) = sub_self c.0
  fits_self (Array e m) = both_true (same_flag m m) (elem_within (sub P) e e) (equal_flags m m refl) (elem_self e)

  -- nothing but void is within void, so what is within a type of values is one
  pub valued_within : (a b : BaseType) → fits P a b ≡ true → is_void b ≡ false → is_void a ≡ false
  valued_within Int b h v = refl
  valued_within BoolBase b h v = refl
  valued_within NullBase b h v = refl
  valued_within (Ref c) b h v = refl
  valued_within (Array e m) b h v = refl
  valued_within Void Void h v = cc
  valued_within Void b h v = cc

  module _ (T : Ordered P) where
    elem_trans : (a b c : Elem) → elem_within (sub P) a b ≡ true → elem_within (sub P) b c ≡ true → elem_within (sub P) a c ≡ true
    elem_trans IntElem IntElem c h k = k
    elem_trans BoolElem BoolElem c h k = k
    elem_trans (RefElem a) (RefElem b) (RefElem c) h k = T.trans a.0 b.0 c.0 h k
    elem_trans a b c h k = cc

    array_trans : (a b c : Elem) (l m n : Bool) → fits P (Array a l) (Array b m) ≡ true → fits P (Array b m) (Array c n) ≡ true → fits P (Array a l) (Array c n) ≡ true
    array_trans a b c l m n h k =
        let x = both (same_flag l m) (elem_within (sub P) a b) h in
        let y = both (same_flag m n) (elem_within (sub P) b c) k in
        both_true (same_flag l n) (elem_within (sub P) a c) (equal_flags l n (flags_equal l m x.0 ∙ flags_equal m n y.0)) (elem_trans a b c x.1 y.1)

    pub fits_trans : (a b c : BaseType) → fits P a b ≡ true → fits P b c ≡ true → fits P a c ≡ true
    fits_trans Int Int c h k = k
    fits_trans BoolBase BoolBase c h k = k
    fits_trans Void Void c h k = k
    fits_trans NullBase NullBase c h k = k
    fits_trans NullBase (Ref b) (Ref c) h k = refl
    fits_trans NullBase (Array e m) (Ref c) h k = refl
    fits_trans NullBase (Array e m) (Array f n) h k = refl
    fits_trans (Ref a) (Ref b) (Ref c) h k = T.trans a.0 b.0 c.0 h k
    fits_trans (Array e m) (Ref b) (Ref c) h k =
        let object : b.0 ≡ 0 = eqb-true b.0 0 h in
        eq-eqb c.0 0 (T.object c.0 (subst (λ x. sub P x c.0 ≡ true) object k))
    fits_trans (Array e m) (Array f n) (Ref c) h k = k
    fits_trans (Array e m) (Array f n) (Array g o) h k = array_trans e f g m n o h k
    fits_trans a b c h k = cc

    pub fits_refs : (a b : BaseType) → fits P a b ≡ true → is_ref_base a ≡ is_ref_base b
    fits_refs Int Int h = refl
    fits_refs BoolBase BoolBase h = refl
    fits_refs Void Void h = refl
    fits_refs NullBase NullBase h = refl
    fits_refs NullBase (Ref c) h = refl
    fits_refs NullBase (Array e m) h = refl
    fits_refs (Ref a) (Ref c) h = refl
    fits_refs (Array e m) (Ref c) h = refl
    fits_refs (Array e m) (Array f n) h = refl
    fits_refs a b h = cc

    -- only String is within String, and no class is within an array
    pub fits_flat : (c : ℕ) (b : BaseType) → fits P (Ref (record { 0 = c })) b ≡ true → is_flat b ≡ true → eqb c 1 ≡ true
    fits_flat c (Ref d) h f =
        let string : d.0 ≡ 1 = eqb-true d.0 1 f in
        eq-eqb c 1 (T.string c (subst (λ x. sub P c x ≡ true) string h))
    fits_flat c b h f = cc

    elems_equal : (e f : Elem) (m n : Bool) → m ≡ n → elem_within (sub P) e f ≡ true → elem_qual (Array e m) ≡ elem_qual (Array f n)
    elems_equal IntElem IntElem m n s h = refl
    elems_equal BoolElem BoolElem m n s h = refl
    elems_equal (RefElem c) (RefElem d) m n s h = ap (λ x. record { null = x; committed = true; free = false }) s
    elems_equal e f m n s h = cc

    pub fits_elems : (a b : BaseType) → fits P a b ≡ true → is_array a ≡ true → is_array b ≡ true → elem_qual a ≡ elem_qual b
    fits_elems (Array e m) (Array f n) h x y =
        let p = both (same_flag m n) (elem_within (sub P) e f) h in
        elems_equal e f m n (flags_equal m n p.0) p.1
    fits_elems a b h x y = cc

    items_within : (e f : Elem) (m n : Bool) → elem_within (sub P) e f ≡ true → fits P (elem_base (Array e m)) (elem_base (Array f n)) ≡ true
    items_within IntElem IntElem m n h = refl
    items_within BoolElem BoolElem m n h = refl
    items_within (RefElem c) (RefElem d) m n h = h
    items_within e f m n h = cc

    pub fits_items : (a b : BaseType) → fits P a b ≡ true → is_array a ≡ true → is_array b ≡ true → fits P (elem_base a) (elem_base b) ≡ true
    fits_items (Array e m) (Array f n) h x y = items_within e f m n (both (same_flag m n) (elem_within (sub P) e f) h).1
    fits_items a b h x y = cc
