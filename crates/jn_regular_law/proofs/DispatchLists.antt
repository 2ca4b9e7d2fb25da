-- Classes, fields and methods of the example with virtual calls are regular.
use Rattle.std.proofs.Common.{◌≡◌, ◌<◌, ◌+◌, ℕ, zero, suc, Bool, true, false, not, inl, List, [], ◌∷◌, length, Option, Some, None, refl, sym, ap, ◌∙◌, subst, eqb, cond, arith}
use Rattle.std.specs.Prelude.{slice_get}
use Rattle.jn_base.specs.declared.number.BodyNo.{BodyNo}
use Rattle.jn_base.specs.declared.number.ClassNo.{ClassNo}
use Rattle.jn_base.specs.declared.number.SlotNo.{SlotNo}
use Rattle.jn_points.specs.declared.point.BaseType.{BaseType}
use Rattle.jn_points.specs.declared.program.Class.{Class}
use Rattle.jn_points.specs.declared.program.Field.{Field}
use Rattle.jn_points.specs.declared.program.Method.{Method}
use Rattle.jn_points.specs.declared.program.SlotInfo.{SlotInfo}
use Rattle.jn_points.specs.Lookup.{interface_of, class_info, class_of, field_info, method_at}
use Rattle.jn_points.specs.Members.{some_of, is_class, is_named, is_pair, dispatch, sub}
use Rattle.jn_points.specs.Shaped.{SlotsMatch}
use Rattle.jn_points.specs.Regular.{AllBases, AllClasses, BodyBelow, Implements, RegularClass, RegularClasses, RegularField, RegularMethod, RegularPair, SlotsBelow, has_body}
use Rattle.jn_soundness.specs.ExampleParts.{object_class, class_under, main_method}
use Rattle.jn_soundness.specs.ChainExample.{ctor_in, ref}
use Rattle.jn_soundness.proofs.Finite.{each_at}
use Rattle.jn_regular_law.specs.DispatchExample.{dispatch_program, link_class, name_method, named_interface, next_field, seen_field}
use Rattle.jn_regular_law.proofs.Given.{EachSuper, each_super}

abbrev class_rank : ℕ → ℕ
class_rank zero = 0
class_rank (suc zero) = 1
class_rank (suc (suc zero)) = 0
class_rank (suc (suc (suc zero))) = 1
class_rank (suc (suc (suc (suc zero)))) = 2
class_rank (suc (suc (suc (suc (suc c))))) = 0

few : (c : ℕ) → class_rank c < 5
few zero = omega arith
few (suc zero) = omega arith
few (suc (suc zero)) = omega arith
few (suc (suc (suc zero))) = omega arith
few (suc (suc (suc (suc zero)))) = omega arith
few (suc (suc (suc (suc (suc c))))) = omega arith

-- Object, or an interface that names none
alone : (c : ℕ) (x : Class) → x.supers ≡ [] → x.parent ≡ None → RegularClass dispatch_program class_rank c x
alone c x s p = record {
  supers = subst (AllClasses dispatch_program) (sym s) tt;
  ranked = λ t h. absurd (none t h);
  parent = λ q h. absurd (nobody q h);
  parent_class = λ q h i. absurd (nobody q h);
  interfaces = λ t h k. absurd (none t h);
  above_interface = λ q i h. absurd (nobody q h);
  no_string = λ t h e. none t h;
  no_final = λ q y h t. absurd (nobody q h);
}
  where
    none : (t : ClassNo) → some_of (λ y. eqb y.0 t.0) x.supers ≡ true → ⊥
    none t h = let bad : false ≡ true = subst (λ xs. some_of (λ y. eqb y.0 t.0) xs ≡ true) s h in cc

    nobody : (q : ClassNo) → x.parent ≡ Some q → ⊥
    nobody q h = let bad : None ≡ Some q = sym p ∙ h in cc

no_final_in : (c : ℕ) (x : Class) → class_info dispatch_program c ≡ Some x → x.is_final ≡ false → (y : Class) → class_info dispatch_program c ≡ Some y → y.is_final ≡ false
no_final_in c x is f y there = let same : x ≡ y = cc in subst (λ y. y.is_final ≡ false) same f

-- what a class asks of one of its supertypes
record Above (c : ℕ) (x : Class) (s : ℕ) : Type 0 where
  there : s < 5
  ranked : class_rank s < class_rank c
  interface : is_class x.parent (record { 0 = s }) ≡ false → interface_of (class_info dispatch_program s) ≡ true
  no_string : s ≡ 1 → ⊥

-- a class under a parent
below : (c p : ℕ) (x : Class) → x.parent ≡ Some (record { 0 = p }) → x.interface ≡ false → EachSuper (Above c x) x.supers → AllClasses dispatch_program x.supers → some_of (λ t. eqb t.0 p) x.supers ≡ true → interface_of (class_info dispatch_program p) ≡ false → ((y : Class) → class_info dispatch_program p ≡ Some y → y.is_final ≡ false) → RegularClass dispatch_program class_rank c x
below c p x parent i each all there class f = record {
  supers = all;
  ranked = λ s h. (each_super (Above c x) x.supers each s h).ranked;
  parent = λ q h. subst (λ n. some_of (λ t. eqb t.0 n) x.supers ≡ true) (number q h) there;
  parent_class = λ q h n. subst (λ n. interface_of (class_info dispatch_program n) ≡ false) (number q h) class;
  interfaces = λ s h k. (each_super (Above c x) x.supers each s h).interface k;
  above_interface = λ q n h. absurd (let bad : true ≡ false = sym n ∙ i in cc);
  no_string = λ s h e. (each_super (Above c x) x.supers each s h).no_string e;
  no_final = λ q y h t. f y (subst (λ n. class_info dispatch_program n ≡ Some y) (sym (number q h)) t);
}
  where
    number : (q : ClassNo) → x.parent ≡ Some q → p ≡ q.0
    number q h = let same : Some (record { 0 = p }) ≡ Some q = sym parent ∙ h in cc

class_name : (c : ℕ) (x : Class) → class_info dispatch_program c ≡ Some x → x.name.0 ≡ c
class_name = each_at (λ c x. x.name.0 ≡ c) dispatch_program.classes (refl, (refl, (refl, (refl, (refl, tt)))))

pub dispatch_classes : RegularClasses dispatch_program
dispatch_classes = record {
  rank = class_rank;
  few = few;
  classes = each_at (λ c x. RegularClass dispatch_program class_rank c x) dispatch_program.classes (
    alone 0 object_class refl refl,
    (
      below 1 0 (class_under 1 0 true) refl refl (above 1 0 (class_under 1 0 true) (omega arith) (omega arith) (λ k. cc) (λ e. omega (e, arith)), tt) (omega arith, tt) refl refl (no_final_in 0 object_class refl refl),
      (
        alone 2 named_interface refl refl,
        (
          below 3 0 link_class refl refl (above 3 0 link_class (omega arith) (omega arith) (λ k. cc) (λ e. omega (e, arith)), (above 3 2 link_class (omega arith) (omega arith) (λ k. refl) (λ e. omega (e, arith)), tt)) (omega arith, (omega arith, tt)) refl refl (no_final_in 0 object_class refl refl),
          (below 4 3 (class_under 4 3 true) refl refl (above 4 3 (class_under 4 3 true) (omega arith) (omega arith) (λ k. cc) (λ e. omega (e, arith)), tt) (omega arith, tt) refl refl (no_final_in 3 link_class refl refl), tt),
        ),
      ),
    ),
  );
  object = object_class;
  object_there = refl;
  object_class = refl;
  above_object = refl;
  string = class_under 1 0 true;
  string_there = refl;
  string_class = refl;
  above_string = λ s h. each_super (λ n. n ≡ 0) (record { 0 = 0 } ∷ []) (refl, tt) s h;
  names = λ c d x y is there l e. sym (class_name c x is) ∙ ap (λ n. n.0) e ∙ class_name d y there;
}
  where
    above : (c s : ℕ) (x : Class) → s < 5 → class_rank s < class_rank c → (is_class x.parent (record { 0 = s }) ≡ false → interface_of (class_info dispatch_program s) ≡ true) → (s ≡ 1 → ⊥) → Above c x s
    above c s x l r i n = record { there = l; ranked = r; interface = i; no_string = n }

field_name : (f : ℕ) (x : Field) → field_info dispatch_program f ≡ Some x → x.name.0 ≡ 5 + f
field_name = each_at (λ f x. x.name.0 ≡ 5 + f) dispatch_program.fields (refl, (refl, tt))

one_field : (f g : ℕ) (x y : Field) → field_info dispatch_program f ≡ Some x → field_info dispatch_program g ≡ Some y → x.name ≡ y.name → f ≡ g
one_field f g x y is there e =
    let a : x.name.0 ≡ 5 + f = field_name f x is in
    let b : y.name.0 ≡ 5 + g = field_name g y there in
    let c : x.name.0 ≡ y.name.0 = ap (λ n. n.0) e in
    omega (a, b, c, arith)

-- each slot is committed
committed_slot : (n : ℕ) (info : SlotInfo) → slice_get dispatch_program.slots n ≡ Some info → (info.start.committed ≡ true) × (info.start.free ≡ false)
committed_slot = each_at (λ n info. (info.start.committed ≡ true) × (info.start.free ≡ false)) dispatch_program.slots ((refl, refl), ((refl, refl), ((refl, refl), ((refl, refl), ((refl, refl), ((refl, refl), ((refl, refl), ((refl, refl), ((refl, refl), tt)))))))))

pub dispatch_fields : (f : ℕ) (x : Field) → field_info dispatch_program f ≡ Some x → RegularField dispatch_program f x
dispatch_fields = each_at (λ f x. RegularField dispatch_program f x) dispatch_program.fields (
  record {
    owner = omega arith;
    no_interface = refl;
    declared = omega arith;
    base = (omega arith, tt);
    static = λ h. cc;
    slot = refl;
    slot_there = omega arith;
    slot_committed = λ n info h is w. committed_slot n.0 info is;
    monotonic = λ h. cc;
    names = λ g y there s e. one_field 0 g next_field y refl there e;
  },
  (
    record {
      owner = omega arith;
      no_interface = refl;
      declared = omega arith;
      base = tt;
      static = λ h. (refl, λ e. inl refl);
      slot = refl;
      slot_there = tt;
      slot_committed = λ n info h is w. cc;
      monotonic = λ h. cc;
      names = λ g y there s e. one_field 1 g seen_field y refl there e;
    },
    tt,
  ),
)

-- the method of a class, a name and an arity
abbrev numbered : ℕ → ℕ → ℕ → ℕ
numbered class name arity = cond (eqb class 0) 0 (cond (eqb class 2) 1 (cond (eqb class 3) (cond (eqb arity 1) 2 (cond (eqb name 7) 4 3)) (cond (eqb arity 1) 7 (cond (eqb name 7) 6 5))))

method_number : (m : ℕ) (x : Method) → method_at dispatch_program m ≡ Some x → m ≡ numbered x.owner.0 x.name.0 (length x.params)
method_number = each_at (λ m x. m ≡ numbered x.owner.0 x.name.0 (length x.params)) dispatch_program.methods (refl, (refl, (refl, (refl, (refl, (refl, (refl, (refl, tt))))))))

one_method : (m k : ℕ) (x y : Method) → method_at dispatch_program m ≡ Some x → method_at dispatch_program k ≡ Some y → x.owner ≡ y.owner → x.name ≡ y.name → length x.params ≡ length y.params → m ≡ k
one_method m k x y is there o n l =
    let a : m ≡ numbered x.owner.0 x.name.0 (length x.params) = method_number m x is in
    let b : k ≡ numbered y.owner.0 y.name.0 (length y.params) = method_number k y there in
    a ∙ ap (λ o. numbered o.0 x.name.0 (length x.params)) o ∙ ap (λ n. numbered y.owner.0 n.0 (length x.params)) n ∙ ap (λ l. numbered y.owner.0 y.name.0 l) l ∙ sym b

ctor_regular : (m c b : ℕ) (params : List BaseType) (slots : List (Option SlotNo)) → method_at dispatch_program m ≡ Some (ctor_in c params slots b) → (c ≡ 0 → params ≡ []) → (c ≡ 1 → ⊥) → c < 5 → b < 7 → AllBases dispatch_program params → SlotsMatch slots params → SlotsBelow 9 slots → interface_of (class_info dispatch_program c) ≡ false → RegularMethod dispatch_program m (ctor_in c params slots b)
ctor_regular m c b params slots is top string high under bases match there i = record {
  owner = high;
  bases = (tt, bases);
  body = under;
  params = match;
  params_there = there;
  result = refl;
  result_there = tt;
  receiver = refl;
  receiver_there = tt;
  names = λ k y at o n l. one_method m k (ctor_in c params slots b) y is at o n l;
  abstract = refl;
  plain = λ h. cc;
  ctor = λ h. (refl, refl);
  ctor_class = λ h. i;
  of_object = λ e. (refl, top e);
  of_string = string;
  main = λ h. cc;
  hides = λ k y at n s p o u. absurd (never n.0);
}
  where
    never : true ≡ false → ⊥
    never h = cc

name_regular : (m c receiver result : ℕ) (body : Option BodyNo) (is_abstract : Bool) → method_at dispatch_program m ≡ Some (name_method c body is_abstract receiver result) → 1 < c → c < 5 → receiver < 9 → result < 9 → BodyBelow dispatch_program body → is_abstract ≡ not (has_body body) → RegularMethod dispatch_program m (name_method c body is_abstract receiver result)
name_regular m c receiver result body is_abstract is low high r s under a = record {
  owner = high;
  bases = ((omega arith, tt), tt);
  body = under;
  params = tt;
  params_there = tt;
  result = refl;
  result_there = s;
  receiver = refl;
  receiver_there = r;
  names = λ k y at o n l. one_method m k (name_method c body is_abstract receiver result) y is at o n l;
  abstract = a;
  plain = λ h. refl;
  ctor = λ h. cc;
  ctor_class = λ h. cc;
  of_object = λ e. absurd (omega (e, low, arith));
  of_string = λ e. omega (e, low, arith);
  main = λ h. cc;
  hides = λ k y at n s p o u. absurd (never k y at n.1 s);
}
  where
    never : (k : ℕ) (y : Method) → method_at dispatch_program k ≡ Some y → is_named y 7 0 ≡ true → y.is_static ≡ true → ⊥
    never = each_at (λ k y. is_named y 7 0 ≡ true → y.is_static ≡ true → ⊥) dispatch_program.methods (λ n o. cc, (λ n o. cc, (λ n o. cc, (λ n o. cc, (λ n o. cc, (λ n o. cc, (λ n o. cc, (λ n o. cc, tt))))))))

main_regular : RegularMethod dispatch_program 7 (main_method 4 6 8)
main_regular = record {
  owner = omega arith;
  bases = (tt, ((omega arith, tt), tt));
  body = omega arith;
  params = (refl, tt);
  params_there = (omega arith, tt);
  result = refl;
  result_there = tt;
  receiver = refl;
  receiver_there = tt;
  names = λ k y at o n l. one_method 7 k (main_method 4 6 8) y refl at o n l;
  abstract = refl;
  plain = λ h. cc;
  ctor = λ h. cc;
  ctor_class = λ h. refl;
  of_object = λ e. absurd (omega (e, arith));
  of_string = λ e. omega (e, arith);
  main = λ h. (refl, refl, refl, refl, refl);
  hides = λ k y at n s p o u. absurd (never k y at s o);
}
  where
    never : (k : ℕ) (y : Method) → method_at dispatch_program k ≡ Some y → y.is_static ≡ true → eqb 4 y.owner.0 ≡ false → ⊥
    never = each_at (λ k y. y.is_static ≡ true → eqb 4 y.owner.0 ≡ false → ⊥) dispatch_program.methods (λ n o. cc, (λ n o. cc, (λ n o. cc, (λ n o. cc, (λ n o. cc, (λ n o. cc, (λ n o. cc, (λ n o. cc, tt))))))))

pub dispatch_methods : (m : ℕ) (x : Method) → method_at dispatch_program m ≡ Some x → RegularMethod dispatch_program m x
dispatch_methods = each_at (λ m x. RegularMethod dispatch_program m x) dispatch_program.methods (ctor_regular 0 0 0 [] [] refl (λ e. refl) (λ e. omega (e, arith)) (omega arith) (omega arith) tt tt tt refl, (name_regular 1 2 2 5 None true refl (omega arith) (omega arith) (omega arith) (omega arith) tt refl, (ctor_regular 2 3 1 (ref 3 ∷ []) (Some (record { 0 = 1 }) ∷ []) refl (λ e. absurd (omega (e, arith))) (λ e. omega (e, arith)) (omega arith) (omega arith) ((omega arith, tt), tt) (refl, tt) (omega arith, tt) refl, (ctor_regular 3 3 2 [] [] refl (λ e. refl) (λ e. omega (e, arith)) (omega arith) (omega arith) tt tt tt refl, (name_regular 4 3 3 6 (Some (record { 0 = 3 })) false refl (omega arith) (omega arith) (omega arith) (omega arith) (omega arith) refl, (ctor_regular 5 4 4 [] [] refl (λ e. refl) (λ e. omega (e, arith)) (omega arith) (omega arith) tt tt tt refl, (name_regular 6 4 4 7 (Some (record { 0 = 5 })) false refl (omega arith) (omega arith) (omega arith) (omega arith) (omega arith) refl, (main_regular, tt))))))))

-- overriding pairs

abbrev PairAt : ℕ → Method → Type 0
PairAt m x = (k : ℕ) (y : Method) → method_at dispatch_program k ≡ Some y → is_pair dispatch_program m k ≡ true → RegularPair dispatch_program x y

pairs_of_zero : PairAt 0 (ctor_in 0 [] [] 0)
pairs_of_zero = each_at (λ k y. is_pair dispatch_program 0 k ≡ true → RegularPair dispatch_program (ctor_in 0 [] [] 0) y) dispatch_program.methods (λ h. cc, (λ h. cc, (λ h. cc, (λ h. cc, (λ h. cc, (λ h. cc, (λ h. cc, (λ h. cc, tt))))))))

pairs_of_one : PairAt 1 (name_method 2 None true 2 5)
pairs_of_one = each_at (λ k y. is_pair dispatch_program 1 k ≡ true → RegularPair dispatch_program (name_method 2 None true 2 5) y) dispatch_program.methods (λ h. cc, (λ h. cc, (λ h. cc, (λ h. cc, (λ h. cc, (λ h. cc, (λ h. cc, (λ h. cc, tt))))))))

pairs_of_two : PairAt 2 (ctor_in 3 (ref 3 ∷ []) (Some (record { 0 = 1 }) ∷ []) 1)
pairs_of_two = each_at (λ k y. is_pair dispatch_program 2 k ≡ true → RegularPair dispatch_program (ctor_in 3 (ref 3 ∷ []) (Some (record { 0 = 1 }) ∷ []) 1) y) dispatch_program.methods (λ h. cc, (λ h. cc, (λ h. cc, (λ h. cc, (λ h. cc, (λ h. cc, (λ h. cc, (λ h. cc, tt))))))))

pairs_of_three : PairAt 3 (ctor_in 3 [] [] 2)
pairs_of_three = each_at (λ k y. is_pair dispatch_program 3 k ≡ true → RegularPair dispatch_program (ctor_in 3 [] [] 2) y) dispatch_program.methods (λ h. cc, (λ h. cc, (λ h. cc, (λ h. cc, (λ h. cc, (λ h. cc, (λ h. cc, (λ h. cc, tt))))))))

pairs_of_four : PairAt 4 (name_method 3 (Some (record { 0 = 3 })) false 3 6)
pairs_of_four = each_at (λ k y. is_pair dispatch_program 4 k ≡ true → RegularPair dispatch_program (name_method 3 (Some (record { 0 = 3 })) false 3 6) y) dispatch_program.methods (λ h. cc, (λ h. record { params = refl; result = refl; no_final = refl; instance = refl }, (λ h. cc, (λ h. cc, (λ h. cc, (λ h. cc, (λ h. cc, (λ h. cc, tt))))))))

pairs_of_five : PairAt 5 (ctor_in 4 [] [] 4)
pairs_of_five = each_at (λ k y. is_pair dispatch_program 5 k ≡ true → RegularPair dispatch_program (ctor_in 4 [] [] 4) y) dispatch_program.methods (λ h. cc, (λ h. cc, (λ h. cc, (λ h. cc, (λ h. cc, (λ h. cc, (λ h. cc, (λ h. cc, tt))))))))

pairs_of_six : PairAt 6 (name_method 4 (Some (record { 0 = 5 })) false 4 7)
pairs_of_six = each_at (λ k y. is_pair dispatch_program 6 k ≡ true → RegularPair dispatch_program (name_method 4 (Some (record { 0 = 5 })) false 4 7) y) dispatch_program.methods (λ h. cc, (λ h. record { params = refl; result = refl; no_final = refl; instance = refl }, (λ h. cc, (λ h. cc, (λ h. record { params = refl; result = refl; no_final = refl; instance = refl }, (λ h. cc, (λ h. cc, (λ h. cc, tt))))))))

pairs_of_seven : PairAt 7 (main_method 4 6 8)
pairs_of_seven = each_at (λ k y. is_pair dispatch_program 7 k ≡ true → RegularPair dispatch_program (main_method 4 6 8) y) dispatch_program.methods (λ h. cc, (λ h. cc, (λ h. cc, (λ h. cc, (λ h. cc, (λ h. cc, (λ h. cc, (λ h. cc, tt))))))))

pub dispatch_pairs : (m k : ℕ) (x y : Method) → is_pair dispatch_program m k ≡ true → method_at dispatch_program m ≡ Some x → method_at dispatch_program k ≡ Some y → RegularPair dispatch_program x y
dispatch_pairs m k x y h is there = each_at PairAt dispatch_program.methods (pairs_of_zero, (pairs_of_one, (pairs_of_two, (pairs_of_three, (pairs_of_four, (pairs_of_five, (pairs_of_six, (pairs_of_seven, tt)))))))) m x is k y there h

-- selection

abbrev SelectsAt : ℕ → Class → Type 0
SelectsAt c x = x.interface ≡ false → (m : ℕ) (y : Method) → method_at dispatch_program m ≡ Some y → y.ctor ≡ false → y.is_static ≡ false → sub dispatch_program c y.owner.0 ≡ true → (k : ℕ) × (dispatch dispatch_program c m ≡ Some k)

selects_in_object : SelectsAt 0 object_class
selects_in_object = λ i. each_at (λ m y. y.ctor ≡ false → y.is_static ≡ false → sub dispatch_program 0 y.owner.0 ≡ true → (k : ℕ) × (dispatch dispatch_program 0 m ≡ Some k)) dispatch_program.methods (λ c s u. cc, (λ c s u. cc, (λ c s u. cc, (λ c s u. cc, (λ c s u. cc, (λ c s u. cc, (λ c s u. cc, (λ c s u. cc, tt))))))))

selects_in_string : SelectsAt 1 (class_under 1 0 true)
selects_in_string = λ i. each_at (λ m y. y.ctor ≡ false → y.is_static ≡ false → sub dispatch_program 1 y.owner.0 ≡ true → (k : ℕ) × (dispatch dispatch_program 1 m ≡ Some k)) dispatch_program.methods (λ c s u. cc, (λ c s u. cc, (λ c s u. cc, (λ c s u. cc, (λ c s u. cc, (λ c s u. cc, (λ c s u. cc, (λ c s u. cc, tt))))))))

selects_in_interface : SelectsAt 2 named_interface
selects_in_interface = λ i. cc

selects_in_link : SelectsAt 3 link_class
selects_in_link = λ i. each_at (λ m y. y.ctor ≡ false → y.is_static ≡ false → sub dispatch_program 3 y.owner.0 ≡ true → (k : ℕ) × (dispatch dispatch_program 3 m ≡ Some k)) dispatch_program.methods (λ c s u. cc, (λ c s u. (4, refl), (λ c s u. cc, (λ c s u. cc, (λ c s u. (4, refl), (λ c s u. cc, (λ c s u. cc, (λ c s u. cc, tt))))))))

selects_in_leaf : SelectsAt 4 (class_under 4 3 true)
selects_in_leaf = λ i. each_at (λ m y. y.ctor ≡ false → y.is_static ≡ false → sub dispatch_program 4 y.owner.0 ≡ true → (k : ℕ) × (dispatch dispatch_program 4 m ≡ Some k)) dispatch_program.methods (λ c s u. cc, (λ c s u. (6, refl), (λ c s u. cc, (λ c s u. cc, (λ c s u. (6, refl), (λ c s u. cc, (λ c s u. (6, refl), (λ c s u. cc, tt))))))))

selects_at : (c : ℕ) (x : Class) → class_info dispatch_program c ≡ Some x → SelectsAt c x
selects_at = each_at SelectsAt dispatch_program.classes (selects_in_object, (selects_in_string, (selects_in_interface, (selects_in_link, (selects_in_leaf, tt)))))

pub dispatch_implements : Implements dispatch_program
dispatch_implements = record { bodies = λ c m k v u. selects_at c k.0 k.1 k.2 m v.info v.there v.method v.instance (subst (λ o. sub dispatch_program c (class_of o) ≡ true) v.there u) }
