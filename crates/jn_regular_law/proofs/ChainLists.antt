-- Classes, fields and methods of the example with a chain of constructors are regular.
use Rattle.std.proofs.Common.{◌≡◌, ◌<◌, ◌+◌, ℕ, zero, suc, Bool, true, false, ◌||◌, List, [], ◌∷◌, length, Option, Some, refl, sym, ap, ◌∙◌, subst, eqb, arith}
use Rattle.std.specs.Prelude.{slice_get}
use Rattle.std.proofs.lemmas.Bool.{eqb-true, eq-eqb, or_left}
use Rattle.jn_base.specs.declared.number.ClassNo.{ClassNo}
use Rattle.jn_base.specs.declared.number.SlotNo.{SlotNo}
use Rattle.jn_quals.specs.Order.{committed_only}
use Rattle.jn_points.specs.declared.point.BaseType.{BaseType}
use Rattle.jn_points.specs.declared.program.Class.{Class}
use Rattle.jn_points.specs.declared.program.Field.{Field}
use Rattle.jn_points.specs.declared.program.Method.{Method}
use Rattle.jn_points.specs.declared.program.SlotInfo.{SlotInfo}
use Rattle.jn_points.specs.Lookup.{interface_of, class_info, field_info, method_at}
use Rattle.jn_points.specs.Members.{is_named}
use Rattle.jn_points.specs.Shaped.{SlotsMatch}
use Rattle.jn_points.specs.Regular.{AllBases, Implements, RegularClass, RegularClasses, RegularField, RegularMethod, SlotsBelow}
use Rattle.jn_soundness.specs.ExampleParts.{object_class, class_under, main_method}
use Rattle.jn_soundness.specs.ChainExample.{chain_program, ctor_in, ref}
use Rattle.jn_soundness.proofs.Finite.{each_at}

abbrev chain_rank : ℕ → ℕ
chain_rank zero = 0
chain_rank (suc zero) = 1
chain_rank (suc (suc zero)) = 1
chain_rank (suc (suc (suc zero))) = 2
chain_rank (suc (suc (suc (suc c)))) = 0

few : (c : ℕ) → chain_rank c < 4
few zero = omega arith
few (suc zero) = omega arith
few (suc (suc zero)) = omega arith
few (suc (suc (suc zero))) = omega arith
few (suc (suc (suc (suc c)))) = omega arith

-- the one supertype
only : (p : ℕ) (s : ClassNo) → (eqb p s.0 || false) ≡ true → p ≡ s.0
only p s h = by (eqb p s.0) refl h
  where
    by : (t : Bool) → eqb p s.0 ≡ t → (t || false) ≡ true → p ≡ s.0
    by true e h = eqb-true p s.0 e
    by false e h = cc

top_class : RegularClass chain_program chain_rank 0 object_class
top_class = record {
  supers = tt;
  ranked = λ s h. cc;
  parent = λ p h. cc;
  parent_class = λ p h i. cc;
  interfaces = λ s h k. cc;
  above_interface = λ p i h. cc;
  no_string = λ s h e. cc;
  no_final = λ p y h t. cc;
}

class_regular : (c p : ℕ) (is_final : Bool) → p < 4 → chain_rank p < chain_rank c → (p ≡ 1 → ⊥) → interface_of (class_info chain_program p) ≡ false → ((y : Class) → class_info chain_program p ≡ Some y → y.is_final ≡ false) → RegularClass chain_program chain_rank c (class_under c p is_final)
class_regular c p is_final l r z i f = record {
  supers = (l, tt);
  ranked = λ s h. subst (λ n. chain_rank n < chain_rank c) (only p s h) r;
  parent = λ q h. let same : p ≡ q.0 = cc in or_left (eqb p q.0) false (eq-eqb p q.0 same);
  parent_class = λ q h n. let same : p ≡ q.0 = cc in subst (λ c. interface_of (class_info chain_program c) ≡ false) same i;
  interfaces = λ s h k. absurd (let bad : (false || false) ≡ true = subst (λ t. (t || false) ≡ true) k h in cc);
  above_interface = λ q n h. cc;
  no_string = λ s h e. z (only p s h ∙ e);
  no_final = λ q y h t. let same : p ≡ q.0 = cc in f y (subst (λ c. class_info chain_program c ≡ Some y) (sym same) t);
}

not_final : (c : ℕ) (x : Class) → class_info chain_program c ≡ Some x → x.is_final ≡ false → (y : Class) → class_info chain_program c ≡ Some y → y.is_final ≡ false
not_final c x is f y there = let same : x ≡ y = cc in subst (λ y. y.is_final ≡ false) same f

class_name : (c : ℕ) (x : Class) → class_info chain_program c ≡ Some x → x.name.0 ≡ c
class_name = each_at (λ c x. x.name.0 ≡ c) chain_program.classes (refl, (refl, (refl, (refl, tt))))

pub chain_classes : RegularClasses chain_program
chain_classes = record {
  rank = chain_rank;
  few = few;
  classes = each_at (λ c x. RegularClass chain_program chain_rank c x) chain_program.classes (
    top_class,
    (
      class_regular 1 0 true (omega arith) (omega arith) (λ e. omega (e, arith)) refl (not_final 0 object_class refl refl),
      (
        class_regular 2 0 false (omega arith) (omega arith) (λ e. omega (e, arith)) refl (not_final 0 object_class refl refl),
        (class_regular 3 2 false (omega arith) (omega arith) (λ e. omega (e, arith)) refl (not_final 2 (class_under 2 0 false) refl refl), tt),
      ),
    ),
  );
  object = object_class;
  object_there = refl;
  object_class = refl;
  above_object = refl;
  string = class_under 1 0 true;
  string_there = refl;
  string_class = refl;
  above_string = λ s h. sym (only 0 s h);
  names = λ c d x y is there l e. sym (class_name c x is) ∙ ap (λ n. n.0) e ∙ class_name d y there;
}

committed_slot : (k : ℕ) → slice_get chain_program.slots k ≡ Some (record { start = committed_only; inferred = false }) → (n : SlotNo) (info : SlotInfo) → Some (record { 0 = k }) ≡ Some n → slice_get chain_program.slots n.0 ≡ Some info → info.inferred ≡ false → (info.start.committed ≡ true) × (info.start.free ≡ false)
committed_slot k is n info slot there w =
    let number : k ≡ n.0 = cc in
    let at : slice_get chain_program.slots k ≡ Some info = subst (λ n. slice_get chain_program.slots n ≡ Some info) (sym number) there in
    let same : record { start = committed_only; inferred = false } ≡ info = cc in
    subst (λ info. (info.start.committed ≡ true) × (info.start.free ≡ false)) same (refl, refl)

field_name : (f : ℕ) (x : Field) → field_info chain_program f ≡ Some x → x.name.0 ≡ 5 + f
field_name = each_at (λ f x. x.name.0 ≡ 5 + f) chain_program.fields (refl, (refl, tt))

one_field : (f g : ℕ) (x y : Field) → field_info chain_program f ≡ Some x → field_info chain_program g ≡ Some y → x.name ≡ y.name → f ≡ g
one_field f g x y is there e =
    let a : x.name.0 ≡ 5 + f = field_name f x is in
    let b : y.name.0 ≡ 5 + g = field_name g y there in
    let c : x.name.0 ≡ y.name.0 = ap (λ n. n.0) e in
    omega (a, b, c, arith)

pub chain_fields : (f : ℕ) (x : Field) → field_info chain_program f ≡ Some x → RegularField chain_program f x
chain_fields = each_at (λ f x. RegularField chain_program f x) chain_program.fields (
  record {
    owner = omega arith;
    no_interface = refl;
    declared = omega arith;
    base = (omega arith, tt);
    static = λ h. cc;
    slot = refl;
    slot_there = omega arith;
    slot_committed = committed_slot 0 refl;
    monotonic = λ h. cc;
    names = λ g y there s e. one_field 0 g _ y refl there e;
  },
  (
    record {
      owner = omega arith;
      no_interface = refl;
      declared = omega arith;
      base = (omega arith, tt);
      static = λ h. cc;
      slot = refl;
      slot_there = omega arith;
      slot_committed = committed_slot 1 refl;
      monotonic = λ h. cc;
      names = λ g y there s e. one_field 1 g _ y refl there e;
    },
    tt,
  ),
)

-- class and arity tell the methods apart
method_number : (m : ℕ) (x : Method) → method_at chain_program m ≡ Some x → x.owner.0 + x.owner.0 + length x.params ≡ 4 + m
method_number = each_at (λ m x. x.owner.0 + x.owner.0 + length x.params ≡ 4 + m) chain_program.methods (refl, (refl, (refl, (refl, tt))))

one_method : (m k : ℕ) (x y : Method) → method_at chain_program m ≡ Some x → method_at chain_program k ≡ Some y → x.owner ≡ y.owner → length x.params ≡ length y.params → m ≡ k
one_method m k x y is there o l =
    let a : x.owner.0 + x.owner.0 + length x.params ≡ 4 + m = method_number m x is in
    let b : y.owner.0 + y.owner.0 + length y.params ≡ 4 + k = method_number k y there in
    let c : x.owner.0 ≡ y.owner.0 = ap (λ n. n.0) o in
    omega (a, b, c, l, arith)

ctor_regular : (m c b : ℕ) (params : List BaseType) (slots : List (Option SlotNo)) → method_at chain_program m ≡ Some (ctor_in c params slots b) → 1 < c → c < 4 → b < 4 → AllBases chain_program params → SlotsMatch slots params → SlotsBelow 4 slots → interface_of (class_info chain_program c) ≡ false → RegularMethod chain_program m (ctor_in c params slots b)
ctor_regular m c b params slots is low high below bases match there i = record {
  owner = high;
  bases = (tt, bases);
  body = below;
  params = match;
  params_there = there;
  result = refl;
  result_there = tt;
  receiver = refl;
  receiver_there = tt;
  names = λ k y at o n l. one_method m k (ctor_in c params slots b) y is at o l;
  abstract = refl;
  plain = λ h. cc;
  ctor = λ h. (refl, refl);
  ctor_class = λ h. i;
  of_object = λ e. absurd (omega (e, low, arith));
  of_string = λ e. omega (e, low, arith);
  main = λ h. cc;
  hides = λ k y at n s p o u. absurd (never n.0);
}
  where
    never : true ≡ false → ⊥
    never h = cc

hides_none : (k : ℕ) (y : Method) → method_at chain_program k ≡ Some y → is_named y 9 1 ≡ true → eqb 3 y.owner.0 ≡ false → ⊥
hides_none = each_at (λ k y. is_named y 9 1 ≡ true → eqb 3 y.owner.0 ≡ false → ⊥) chain_program.methods ((λ n o. cc), ((λ n o. cc), ((λ n o. cc), ((λ n o. cc), tt))))

main_regular : RegularMethod chain_program 3 (main_method 3 3 3)
main_regular = record {
  owner = omega arith;
  bases = (tt, ((omega arith, tt), tt));
  body = omega arith;
  params = (refl, tt);
  params_there = (omega arith, tt);
  result = refl;
  result_there = tt;
  receiver = refl;
  receiver_there = tt;
  names = λ k y at o n l. one_method 3 k (main_method 3 3 3) y refl at o l;
  abstract = refl;
  plain = λ h. cc;
  ctor = λ h. cc;
  ctor_class = λ h. refl;
  of_object = λ e. absurd (omega (e, arith));
  of_string = λ e. omega (e, arith);
  main = λ h. (refl, refl, refl, refl, refl);
  hides = λ k y at n s p o u. absurd (hides_none k y at n.1 o);
}

pub chain_methods : (m : ℕ) (x : Method) → method_at chain_program m ≡ Some x → RegularMethod chain_program m x
chain_methods = each_at (λ m x. RegularMethod chain_program m x) chain_program.methods (
  ctor_regular 0 2 0 [] [] refl (omega arith) (omega arith) (omega arith) tt tt tt refl,
  (
    ctor_regular 1 2 1 (ref 2 ∷ []) (Some (record { 0 = 2 }) ∷ []) refl (omega arith) (omega arith) (omega arith) ((omega arith, tt), tt) (refl, tt) (omega arith, tt) refl,
    (ctor_regular 2 3 2 [] [] refl (omega arith) (omega arith) (omega arith) tt tt tt refl, (main_regular, tt)),
  ),
)

not_virtual : (m : ℕ) (x : Method) → method_at chain_program m ≡ Some x → x.ctor ≡ false → x.is_static ≡ false → ⊥
not_virtual = each_at (λ m x. x.ctor ≡ false → x.is_static ≡ false → ⊥) chain_program.methods ((λ c s. cc), ((λ c s. cc), ((λ c s. cc), ((λ c s. cc), tt))))

pub chain_implements : Implements chain_program
chain_implements = record { bodies = λ c m k v u. absurd (not_virtual m v.info v.there v.method v.instance) }
