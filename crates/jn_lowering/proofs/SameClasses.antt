-- Look-ups, subtypes and pairs depend on neither a program's bodies nor its slots.
use Rattle.std.proofs.Common.{◌≡◌, ℕ, zero, suc, true, not, ◌&&◌, ◌||◌, List, [], ◌∷◌, ◌++◌, length, Option, Some, None, refl, sym, ap, ◌∙◌, eqb}
use Rattle.std.proofs.Math.Path.{fun_ext}
use Rattle.std.specs.Prelude.{flat_map}
use Rattle.jn_base.specs.declared.number.ClassNo.{ClassNo}
use Rattle.jn_points.specs.declared.point.BaseType.{BaseType}
use Rattle.jn_points.specs.declared.program.Body.{Body}
use Rattle.jn_points.specs.declared.program.Class.{Class}
use Rattle.jn_points.specs.declared.program.Method.{Method}
use Rattle.jn_points.specs.declared.program.Program.{Program}
use Rattle.jn_points.specs.declared.program.SlotInfo.{SlotInfo}
use Rattle.jn_points.specs.Lookup.{class_info, class_of, interface_of, method_at, parent_of, supers_of}
use Rattle.jn_points.specs.Members.{below, class_pair, class_pairs, declared_method, dispatch, first_some, fits, interface_pairs, interfaces, is_named, is_number, is_pair, method_of, pairs_of, reaches, selected_for, some_of, sub, type_within, walk_by, walk_parent, with_body}
use Rattle.jn_points.specs.Regular.{AllBases, AllClasses, Implements, RegularClass, RegularClasses, RegularPair}

-- the same program with other bodies and slots
module _ (P : Program) (bodies : List Body) (slots : List SlotInfo) where
  abbrev pub other : Program
  other = record { classes = P.classes; fields = P.fields; methods = P.methods; bodies = bodies; slots = slots }

  reaches_same : (n c d : ℕ) → reaches other n c d ≡ reaches P n c d
  reaches_same zero c d = refl
  reaches_same (suc n) c d = ap (λ f. eqb c d || some_of f (supers_of (class_info P c))) (fun_ext (λ (s : ClassNo). reaches_same n s.0 d))

  pub sub_same : (c d : ℕ) → sub other c d ≡ sub P c d
  sub_same c d = ap (λ b. eqb d 0 || b) (reaches_same (length P.classes) c d)

  sub_is : sub other ≡ sub P
  sub_is = fun_ext (λ c. fun_ext (λ d. sub_same c d))

  pub fits_same : (a b : BaseType) → fits other a b ≡ fits P a b
  fits_same a b = ap (λ f. type_within f a b) sub_is

  parent_same : (f g : ℕ → List ℕ) → f ≡ g → (o : Option ClassNo) → walk_parent other f o ≡ walk_parent P g o
  parent_same f g e None = refl
  parent_same f g e (Some c) = ap (λ h. h c.0) e

  walk_by_same : (n c : ℕ) → walk_by other n c ≡ walk_by P n c
  walk_by_same zero c = refl
  walk_by_same (suc n) c =
      let e : walk_by other n ≡ walk_by P n = fun_ext (λ d. walk_by_same n d) in
      ap (λ xs. c ∷ xs ++ flat_map (λ (s : ClassNo). walk_by other n s.0) (interfaces P c)) (parent_same (walk_by other n) (walk_by P n) e (parent_of (class_info P c)))
      ∙ ap (λ f. c ∷ walk_parent P (walk_by P n) (parent_of (class_info P c)) ++ flat_map (λ (s : ClassNo). f s.0) (interfaces P c)) e

  method_of_same : (c name arity : ℕ) → method_of other c name arity ≡ method_of P c name arity
  method_of_same c name arity = ap (λ cs. first_some (declared_method P c name arity) cs) (walk_by_same (length P.classes) c)

  with_body_same : (o : Option ℕ) → with_body other o ≡ with_body P o
  with_body_same None = refl
  with_body_same (Some k) = refl

  dispatch_same : (c m : ℕ) → dispatch other c m ≡ dispatch P c m
  dispatch_same c m = by (method_at P m)
    where
      by : (o : Option Method) → selected_for other c o ≡ selected_for P c o
      by None = refl
      by (Some x) = with_body_same (method_of other c x.name.0 (length x.params)) ∙ ap (with_body P) (method_of_same c x.name.0 (length x.params))

  class_pair_same : (m : ℕ) (over under : Method) (c : ℕ) → class_pair other m over under c ≡ class_pair P m over under c
  class_pair_same m over under c = ap (λ o. not (interface_of (class_info P c)) && is_number o m && sub other c under.owner.0) (method_of_same c over.name.0 (length over.params)) ∙ ap (λ b. not (interface_of (class_info P c)) && is_number (method_of P c over.name.0 (length over.params)) m && b) (sub_same c under.owner.0)

  class_pairs_same : (m k : ℕ) (over under : Method) → class_pairs other m k over under ≡ class_pairs P m k over under
  class_pairs_same m k over under = ap (λ f. not (eqb m k) && not under.is_private && not under.is_static && some_of f (below (length P.classes))) (fun_ext (λ c. class_pair_same m over under c))

  interface_pairs_same : (over under : Method) → interface_pairs other over under ≡ interface_pairs P over under
  interface_pairs_same over under = ap (λ b. interface_of (class_info P over.owner.0) && interface_of (class_info P under.owner.0) && not (eqb over.owner.0 under.owner.0) && b) (sub_same over.owner.0 under.owner.0)

  is_pair_same : (m k : ℕ) → is_pair other m k ≡ is_pair P m k
  is_pair_same m k = by (method_at P m) (method_at P k)
    where
      by : (o u : Option Method) → pairs_of other m k o u ≡ pairs_of P m k o u
      by None u = refl
      by (Some x) None = refl
      by (Some x) (Some y) = ap (λ b. not x.ctor && is_named y x.name.0 (length x.params) && (b || interface_pairs other x y)) (class_pairs_same m k x y) ∙ ap (λ b. not x.ctor && is_named y x.name.0 (length x.params) && (class_pairs P m k x y || b)) (interface_pairs_same x y)

  classes_same : (xs : List ClassNo) → AllClasses P xs → AllClasses other xs
  classes_same [] h = tt
  classes_same (c ∷ cs) h = (h.0, classes_same cs h.1)

  pub bases_same : (ts : List BaseType) → AllBases P ts → AllBases other ts
  bases_same [] h = tt
  bases_same (t ∷ ts) h = (h.0, bases_same ts h.1)

  class_regular : (rank : ℕ → ℕ) (c : ℕ) (x : Class) → RegularClass P rank c x → RegularClass other rank c x
  class_regular rank c x r = record { supers = classes_same x.supers r.supers; ranked = r.ranked; parent = r.parent; parent_class = r.parent_class; interfaces = r.interfaces; above_interface = r.above_interface; no_string = r.no_string; no_final = r.no_final }

  pub classes_regular : RegularClasses P → RegularClasses other
  classes_regular r = record { rank = r.rank; few = r.few; classes = λ c x e. class_regular r.rank c x (r.classes c x e); object = r.object; object_there = r.object_there; object_class = r.object_class; above_object = r.above_object; string = r.string; string_there = r.string_there; string_class = r.string_class; above_string = r.above_string; names = r.names }

  pub pair_regular : (x y : Method) → RegularPair P x y → RegularPair other x y
  pair_regular x y r = record { params = r.params; result = fits_same x.result y.result ∙ r.result; no_final = r.no_final; instance = r.instance }

  pub pairs_back : (m k : ℕ) → is_pair other m k ≡ true → is_pair P m k ≡ true
  pairs_back m k h = sym (is_pair_same m k) ∙ h

  pub implements_regular : Implements P → Implements other
  implements_regular r = record { bodies = λ c m i v s. (let k = r.bodies c m i (record { info = v.info; there = v.there; method = v.method; instance = v.instance; open_to_all = v.open_to_all }) (sym (sub_same c (class_of (method_at P m))) ∙ s) in (k.0, dispatch_same c m ∙ k.1)) }
