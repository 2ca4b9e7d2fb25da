-- The lists of the example have what the laws ask of a program.
use Rattle.std.proofs.Common.{◌≡◌, ◌<◌, ◌+◌, ℕ, zero, suc, Bool, true, false, not, ◌||◌, ◌∙◌, List, [], ◌∷◌, Option, Some, None, refl, sym, ap, subst, eqb, cond, arith}
use Rattle.std.specs.Prelude.{slice_get}
use Rattle.std.proofs.lemmas.Bool.{eqb-true}
use Rattle.jn_base.specs.declared.number.BodyNo.{BodyNo}
use Rattle.jn_base.specs.declared.number.ClassNo.{ClassNo}
use Rattle.jn_base.specs.declared.number.SlotNo.{SlotNo}
use Rattle.jn_points.specs.declared.program.Class.{Class}
use Rattle.jn_points.specs.declared.program.Field.{Field}
use Rattle.jn_points.specs.declared.program.Method.{Method}
use Rattle.jn_points.specs.Lookup.{class_info, class_of as owner_class, field_info, interface_of, method_at}
use Rattle.jn_points.specs.Members.{some_of, is_class, sub, dispatch}
use Rattle.jn_points.specs.Regular.{AllClasses, BodyBelow, Implements, RegularClass, RegularClasses, RegularField, RegularMethod, has_body, has_number}
use Rattle.jn_members_law.specs.Inherited.{AbstractInterfaces, IsInterface, KeepsAccess, RegularMethods}
use Rattle.jn_members_law.specs.InheritedFields.{RegularFields}
use Rattle.jn_members_law.specs.Example.{object_class, string_class, i_class, j_class, a_class, b_class, c_class, d_class, field_in, method_in, example}
use Rattle.jn_members_law.proofs.Unique.{member_named}

-- what holds of each item and its number
abbrev pub Each : {A : Type 0} → (ℕ → A → Type 0) → List A → Type 0
Each Q [] = Unit {0}
Each Q (x ∷ xs) = Q 0 x × Each (λ n. Q (suc n)) xs

pub each_at : {A : Type 0} (Q : ℕ → A → Type 0) (xs : List A) → Each Q xs → (p : ℕ) (x : A) → slice_get xs p ≡ Some x → Q p x
each_at Q [] h p x is = cc
each_at Q (y ∷ xs) h zero x is = let same : y ≡ x = cc in subst (λ z. Q 0 z) same h.0
each_at Q (y ∷ xs) h (suc p) x is = each_at (λ n. Q (suc n)) xs h.1 p x is

abbrev EachSuper : (ℕ → Type 0) → List ClassNo → Type 0
EachSuper Q [] = Unit {0}
EachSuper Q (c ∷ cs) = Q c.0 × EachSuper Q cs

each_super : (Q : ℕ → Type 0) (xs : List ClassNo) → EachSuper Q xs → (s : ClassNo) → some_of (λ t. eqb t.0 s.0) xs ≡ true → Q s.0
each_super Q [] h s u = cc
each_super Q (c ∷ cs) h s u = by (eqb c.0 s.0) refl u (each_super Q cs h.1 s)
  where
    by : (t : Bool) → eqb c.0 s.0 ≡ t → (t || some_of (λ t. eqb t.0 s.0) cs) ≡ true → (some_of (λ t. eqb t.0 s.0) cs ≡ true → Q s.0) → Q s.0
    by true e u rest = subst Q (eqb-true c.0 s.0 e) h.0
    by false e u rest = rest u

never : true ≡ false → ⊥
never h = cc

never_true : false ≡ true → ⊥
never_true h = cc

-- classes

abbrev class_rank : ℕ → ℕ
class_rank zero = 0
class_rank (suc zero) = 1
class_rank (suc (suc zero)) = 0
class_rank (suc (suc (suc zero))) = 1
class_rank (suc (suc (suc (suc zero)))) = 2
class_rank (suc (suc (suc (suc (suc zero))))) = 3
class_rank (suc (suc (suc (suc (suc (suc zero)))))) = 4
class_rank (suc (suc (suc (suc (suc (suc (suc zero))))))) = 2
class_rank (suc (suc (suc (suc (suc (suc (suc (suc c)))))))) = 0

few : (c : ℕ) → class_rank c < 8
few zero = omega arith
few (suc zero) = omega arith
few (suc (suc zero)) = omega arith
few (suc (suc (suc zero))) = omega arith
few (suc (suc (suc (suc zero)))) = omega arith
few (suc (suc (suc (suc (suc zero))))) = omega arith
few (suc (suc (suc (suc (suc (suc zero)))))) = omega arith
few (suc (suc (suc (suc (suc (suc (suc zero))))))) = omega arith
few (suc (suc (suc (suc (suc (suc (suc (suc c)))))))) = omega arith

-- what a class asks of a direct supertype
abbrev Above : ℕ → Class → ℕ → Type 0
Above c x s = (class_rank s < class_rank c) × (is_class x.parent (record { 0 = s }) ≡ false → interface_of (class_info example s) ≡ true) × (s ≡ 1 → ⊥)

-- what a class asks of its parent
abbrev ParentFits : Class → Option ClassNo → Type 0
ParentFits x None = Unit {0}
ParentFits x (Some p) = (some_of (λ t. eqb t.0 p.0) x.supers ≡ true) × (x.interface ≡ false) × (interface_of (class_info example p.0) ≡ false) × ((y : Class) → class_info example p.0 ≡ Some y → y.is_final ≡ false)

no_final : (c : ℕ) (y : Class) → class_info example c ≡ Some y → y.is_final ≡ false
no_final = each_at (λ c y. y.is_final ≡ false) example.classes (refl, (refl, (refl, (refl, (refl, (refl, (refl, (refl, tt))))))))

regular_class : (c : ℕ) (x : Class) → AllClasses example x.supers → EachSuper (Above c x) x.supers → ParentFits x x.parent → RegularClass example class_rank c x
regular_class c x all each fits = record {
  supers = all;
  ranked = λ s h. (each_super (Above c x) x.supers each s h).0;
  parent = λ p h. (of_parent p h).0;
  parent_class = λ p h i. (of_parent p h).2;
  interfaces = λ s h k. (each_super (Above c x) x.supers each s h).1 k;
  above_interface = λ p i h. absurd (never (sym i ∙ (of_parent p h).1));
  no_string = λ s h e. (each_super (Above c x) x.supers each s h).2 e;
  no_final = λ p y h t. (of_parent p h).3 y t;
}
  where
    of_parent : (p : ClassNo) → x.parent ≡ Some p → ParentFits x (Some p)
    of_parent p h = subst (ParentFits x) h fits

class_name : (c : ℕ) (x : Class) → class_info example c ≡ Some x → x.name.0 ≡ c
class_name = each_at (λ c x. x.name.0 ≡ c) example.classes (refl, (refl, (refl, (refl, (refl, (refl, (refl, (refl, tt))))))))

pub example_classes : RegularClasses example
example_classes = record {
  rank = class_rank;
  few = few;
  classes = each_at (λ c x. RegularClass example class_rank c x) example.classes (
    regular_class 0 object_class tt tt tt,
    (
      regular_class 1 string_class (omega arith, tt) (class_above 1 0 string_class (omega arith) refl (λ e. omega (e, arith)), tt) (refl, refl, refl, no_final 0),
      (
        regular_class 2 i_class tt tt tt,
        (
          regular_class 3 j_class (omega arith, tt) (above 3 2 j_class (omega arith) refl (λ e. omega (e, arith)), tt) tt,
          (
            regular_class 4 a_class (omega arith, (omega arith, tt)) (class_above 4 0 a_class (omega arith) refl (λ e. omega (e, arith)), (above 4 2 a_class (omega arith) refl (λ e. omega (e, arith)), tt)) (refl, refl, refl, no_final 0),
            (
              regular_class 5 b_class (omega arith, tt) (class_above 5 4 b_class (omega arith) refl (λ e. omega (e, arith)), tt) (refl, refl, refl, no_final 4),
              (
                regular_class 6 c_class (omega arith, (omega arith, tt)) (class_above 6 5 c_class (omega arith) refl (λ e. omega (e, arith)), (above 6 3 c_class (omega arith) refl (λ e. omega (e, arith)), tt)) (refl, refl, refl, no_final 5),
                (regular_class 7 d_class (omega arith, (omega arith, (omega arith, tt))) (class_above 7 0 d_class (omega arith) refl (λ e. omega (e, arith)), (above 7 2 d_class (omega arith) refl (λ e. omega (e, arith)), (above 7 3 d_class (omega arith) refl (λ e. omega (e, arith)), tt))) (refl, refl, refl, no_final 0), tt),
              ),
            ),
          ),
        ),
      ),
    ),
  );
  object = object_class;
  object_there = refl;
  object_class = refl;
  above_object = refl;
  string = string_class;
  string_there = refl;
  string_class = refl;
  above_string = λ s h. each_super (λ n. n ≡ 0) (record { 0 = 0 } ∷ []) (refl, tt) s h;
  names = λ c d x y is there l e. sym (class_name c x is) ∙ ap (λ n. n.0) e ∙ class_name d y there;
}
  where
    above : (c s : ℕ) (x : Class) → class_rank s < class_rank c → interface_of (class_info example s) ≡ true → (s ≡ 1 → ⊥) → Above c x s
    above c s x l i n = (l, (λ k. i), n)

    class_above : (c s : ℕ) (x : Class) → class_rank s < class_rank c → is_class x.parent (record { 0 = s }) ≡ true → (s ≡ 1 → ⊥) → Above c x s
    class_above c s x l p n = (l, (λ k. absurd (never (sym p ∙ k))), n)

-- fields

field_name : (f : ℕ) (x : Field) → field_info example f ≡ Some x → x.name.0 ≡ 12 + f
field_name = each_at (λ f x. x.name.0 ≡ 12 + f) example.fields (refl, (refl, tt))

one_field : (f g : ℕ) (x y : Field) → field_info example f ≡ Some x → field_info example g ≡ Some y → x.name ≡ y.name → f ≡ g
one_field f g x y is there e =
    let a : x.name.0 ≡ 12 + f = field_name f x is in
    let b : y.name.0 ≡ 12 + g = field_name g y there in
    let c : x.name.0 ≡ y.name.0 = ap (λ n. n.0) e in
    omega (a, b, c, arith)

field_regular : (f name : ℕ) (is_private : Bool) → field_info example f ≡ Some (field_in name is_private) → RegularField example f (field_in name is_private)
field_regular f name is_private is = record {
  owner = omega arith;
  no_interface = refl;
  declared = omega arith;
  base = tt;
  static = λ h. absurd (never_true h);
  slot = refl;
  slot_there = tt;
  slot_committed = λ n info h is w. absurd (no_slot n h);
  monotonic = λ h. absurd (never_true h);
  names = λ g y there s e. one_field f g (field_in name is_private) y is there e;
}
  where
    no_slot : (n : SlotNo) → ◌≡◌ {A = Option SlotNo} None (Some n) → ⊥
    no_slot n h = cc

pub example_fields : RegularFields example
example_fields = each_at (λ f x. RegularField example f x) example.fields (field_regular 0 12 false refl, (field_regular 1 13 true refl, tt))

-- methods

-- the method of a class and a name
abbrev numbered : ℕ → ℕ → ℕ
numbered class name = cond (eqb class 2) 0 (cond (eqb class 3) 1 (cond (eqb class 6) 4 (cond (eqb name 10) 2 3)))

method_number : (m : ℕ) (x : Method) → method_at example m ≡ Some x → m ≡ numbered x.owner.0 x.name.0
method_number = each_at (λ m x. m ≡ numbered x.owner.0 x.name.0) example.methods (refl, (refl, (refl, (refl, (refl, tt)))))

one_method : (m k : ℕ) (x y : Method) → method_at example m ≡ Some x → method_at example k ≡ Some y → x.owner ≡ y.owner → x.name ≡ y.name → m ≡ k
one_method m k x y is there o n = method_number m x is ∙ ap (λ o. numbered o.0 x.name.0) o ∙ ap (λ n. numbered y.owner.0 n.0) n ∙ sym (method_number k y there)

no_static : (k : ℕ) (y : Method) → method_at example k ≡ Some y → y.is_static ≡ true → ⊥
no_static = each_at (λ k y. y.is_static ≡ true → ⊥) example.methods (never_true, (never_true, (never_true, (never_true, (never_true, tt)))))

method_regular : (m class name slot : ℕ) (is_private : Bool) (body : Option BodyNo) → method_at example m ≡ Some (method_in class name slot is_private body) → 1 < class → class < 8 → slot < 5 → BodyBelow example body → (not (has_body body) ≡ true → is_private ≡ false) → RegularMethod example m (method_in class name slot is_private body)
method_regular m class name slot is_private body is low high there under plain = record {
  owner = high;
  bases = (tt, tt);
  body = under;
  params = tt;
  params_there = tt;
  result = refl;
  result_there = tt;
  receiver = refl;
  receiver_there = there;
  names = λ k y at o n l. one_method m k (method_in class name slot is_private body) y is at o n;
  abstract = refl;
  plain = λ h. ap (λ b. b || false || false || false) (plain h);
  ctor = λ h. absurd (never_true h);
  ctor_class = λ h. absurd (never_true h);
  of_object = λ e. absurd (omega (e, low, arith));
  of_string = λ e. omega (e, low, arith);
  main = λ h. absurd (never_true h);
  hides = λ k y at n s p o u. absurd (no_static k y at s);
}

pub example_methods : RegularMethods example
example_methods = each_at (λ m x. RegularMethod example m x) example.methods (method_regular 0 2 10 0 false None refl (omega arith) (omega arith) (omega arith) tt (λ h. refl), (method_regular 1 3 10 1 false None refl (omega arith) (omega arith) (omega arith) tt (λ h. refl), (method_regular 2 4 10 2 false (Some (record { 0 = 0 })) refl (omega arith) (omega arith) (omega arith) (omega arith) (λ h. refl), (method_regular 3 4 11 3 true (Some (record { 0 = 1 })) refl (omega arith) (omega arith) (omega arith) (omega arith) (λ h. absurd (never_true h)), (method_regular 4 6 10 4 false (Some (record { 0 = 2 })) refl (omega arith) (omega arith) (omega arith) (omega arith) (λ h. refl), tt)))))

pub example_interfaces : AbstractInterfaces example
example_interfaces = each_at (λ m x. IsInterface example x.owner.0 true → has_body x.body ≡ false) example.methods (λ i. refl, (λ i. refl, (λ i. absurd (never_true i), (λ i. absurd (never_true i), (λ i. absurd (never_true i), tt)))))

-- the private method is the only one of its name
private_name : (k : ℕ) (y : Method) → method_at example k ≡ Some y → y.is_private ≡ true → y.name.0 ≡ 11
private_name = each_at (λ k y. y.is_private ≡ true → y.name.0 ≡ 11) example.methods (λ h. absurd (never_true h), (λ h. absurd (never_true h), (λ h. absurd (never_true h), (λ h. refl, (λ h. absurd (never_true h), tt)))))

name_private : (m : ℕ) (x : Method) → method_at example m ≡ Some x → x.name.0 ≡ 11 → x.is_private ≡ true
name_private = each_at (λ m x. x.name.0 ≡ 11 → x.is_private ≡ true) example.methods (λ e. absurd (omega (e, arith)), (λ e. absurd (omega (e, arith)), (λ e. absurd (omega (e, arith)), (λ e. refl, (λ e. absurd (omega (e, arith)), tt)))))

pub example_access : KeepsAccess example
example_access c d m k x y u member declared same h = name_private m x (member_named example member.from d m x member.by).0 (sym same.0 ∙ private_name k y declared.there h)

-- selection

abbrev selects : ℕ → ℕ → Method → Bool
selects c m y = y.is_private || not (sub example c y.owner.0) || has_number (dispatch example c m)

abbrev SelectsAt : ℕ → Class → Type 0
SelectsAt c x = x.interface ≡ false → x.is_abstract ≡ false → Each (λ m y. selects c m y ≡ true) example.methods

selects_at : (c : ℕ) (x : Class) → class_info example c ≡ Some x → SelectsAt c x
selects_at = each_at SelectsAt example.classes (λ i a. (refl, (refl, (refl, (refl, (refl, tt))))), (λ i a. (refl, (refl, (refl, (refl, (refl, tt))))), (λ i a. absurd (never i), (λ i a. absurd (never i), (λ i a. (refl, (refl, (refl, (refl, (refl, tt))))), (λ i a. (refl, (refl, (refl, (refl, (refl, tt))))), (λ i a. (refl, (refl, (refl, (refl, (refl, tt))))), (λ i a. absurd (never a), tt))))))))

number_there : (o : Option ℕ) (is_private below : Bool) → (is_private || not below || has_number o) ≡ true → is_private ≡ false → below ≡ true → (k : ℕ) × (o ≡ Some k)
number_there (Some k) is_private below h p b = (k, refl)
number_there None true below h p b = absurd (never p)
number_there None false true h p b = absurd (never_true h)
number_there None false false h p b = absurd (never_true b)

pub example_implements : Implements example
example_implements = record { bodies = λ c m k v u. number_there (dispatch example c m) v.info.is_private (sub example c v.info.owner.0) (each_at (λ m y. selects c m y ≡ true) example.methods (selects_at c k.0 k.1 k.2 k.3) m v.info v.there) v.open_to_all (subst (λ o. sub example c (owner_class o) ≡ true) v.there u) }
