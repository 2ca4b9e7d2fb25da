-- Class tables of heads that differ in places and in what is written are alike.
use Rattle.std.proofs.Common.{◌≡◌, ℕ, suc, ◌+◌, Bool, true, false, cond, not, ◌&&◌, List, [], ◌∷◌, ◌++◌, length, Option, Some, None, refl, sym, ap, ◌∙◌, length-append}
use Rattle.std.specs.Prelude.{eqb, map, option_map}
use Rattle.std.proofs.lemmas.List.{map-append}
use Rattle.jn_base.specs.declared.number.NameNo.{NameNo}
use Rattle.jn_base.specs.declared.number.ClassNo.{ClassNo}
use Rattle.jn_base.specs.declared.number.SlotNo.{SlotNo}
use Rattle.jn_points.specs.declared.point.BaseType.{BaseType}
use Rattle.jn_points.specs.declared.point.BaseType.TheVariants.{Ref, Array}
use Rattle.jn_points.specs.declared.point.Elem.TheVariants.{Ref as RefElem}
use Rattle.jn_points.specs.declared.program.Method.{Method}
use Rattle.jn_points.specs.declared.program.SlotInfo.{SlotInfo}
use Rattle.jn_points.specs.Lookup.{is_ref_base}
use Rattle.jn_trees.specs.declared.expression.Identifier.{Identifier}
use Rattle.jn_trees.specs.declared.expression.Base.{Base}
use Rattle.jn_trees.specs.declared.expression.Base.TheVariants.{Class as ClassUse, Int as IntUse, Boolean as BooleanUse}
use Rattle.jn_heads.specs.declared.head.TypeHead.{TypeHead}
use Rattle.jn_heads.specs.declared.head.FieldHead.{FieldHead}
use Rattle.jn_heads.specs.declared.head.ParamHead.{ParamHead}
use Rattle.jn_heads.specs.declared.head.MethodHead.{MethodHead}
use Rattle.jn_heads.specs.declared.head.ClassHead.{ClassHead}
use Rattle.jn_heads.specs.Heads.{all_heads, object_head, string_head, number}
use Rattle.jn_heads.specs.Types.{class_or_object, class_of_name, plain_base, array_base, base_of, result_base, param_bases, is_position, has_receiver, receiver_slots, field_slots, value_slots, result_slots, params_slots, method_slots, fields_slots, methods_slots, class_slots, slots_of_all}
use Rattle.jn_classtable.specs.Table.{slot_at, body_at, count, bodies_of, with_class, named_classes, is_words, parent_list, no_result, parent_class, class_under, declared_class, classes, field_of, fields_of, fields_from, param_slots, result_slot, is_main, method_of, methods_of, methods_from, table}
use Rattle.jn_known.specs.Known.{main_name}
use Rattle.jn_places_law.specs.Bare.{no_span, Alike, bare, bare_class, bare_field, bare_method, bare_slot}
use Rattle.jn_places_law.proofs.Lookups.{first_at-map}
use Rattle.jn_heads_law.specs.Plain.{plain_name, plain_use, plain_type, plain_field, plain_param, plain_method, plain_head}

-- ---- lists

same_slots : (xs ys : List SlotInfo) → length xs ≡ length ys → map bare_slot xs ≡ map bare_slot ys
same_slots [] [] e = refl
same_slots [] (y ∷ ys) e = cc
same_slots (x ∷ xs) [] e = cc
same_slots (x ∷ xs) (y ∷ ys) e = ap (λ t. bare_slot x ∷ t) (same_slots xs ys cc)

one_long : {A : Type 0} (b c : Bool) (x y : A) → b ≡ c → length (cond b (x ∷ []) []) ≡ length (cond c (y ∷ []) [])
one_long true true x y e = refl
one_long false false x y e = refl
one_long true false x y e = cc
one_long false true x y e = cc

both_long : {A : Type 0} (a b c d : List A) → length a ≡ length c → length b ≡ length d → length (a ++ b) ≡ length (c ++ d)
both_long a b c d e f = length-append a b ∙ ap (λ n. n + length b) e ∙ ap (λ n. length c + n) f ∙ sym (length-append c d)

module _ (hs : List ClassHead) where
  abbrev gs : List ClassHead
  gs = map plain_head hs

  -- ---- types

  pub number_is : (n : NameNo) → number gs n ≡ number hs n
  number_is n = first_at-map plain_head (λ (h : ClassHead). eqb h.name.name.0 n.0) 0 (all_heads hs)

  name_is : (n : Identifier) → class_of_name gs (plain_name n) ≡ class_of_name hs n
  name_is n = ap class_or_object (number_is n.name)

  plain_is : (b : Base) → plain_base gs (plain_use b) ≡ plain_base hs b
  plain_is (ClassUse n) = ap Ref (name_is n)
  plain_is (IntUse s) = refl
  plain_is (BooleanUse s) = refl

  array_is : (b : Base) (nullable : Bool) → array_base gs (plain_use b) nullable ≡ array_base hs b nullable
  array_is (ClassUse n) nullable = ap (λ c. Array (RefElem c) nullable) (name_is n)
  array_is (IntUse s) nullable = refl
  array_is (BooleanUse s) nullable = refl

  base_is : (t : TypeHead) → base_of gs (plain_type t) ≡ base_of hs t
  base_is t = ap (λ x. cond t.array x (plain_base gs (plain_use t.base))) (array_is t.base t.elements.nullable) ∙ ap (λ x. cond t.array (array_base hs t.base t.elements.nullable) x) (plain_is t.base)

  pub position_is : (t : TypeHead) → is_position gs (plain_type t) ≡ is_position hs t
  position_is t = ap is_ref_base (base_is t)

  result_is : (t : Option TypeHead) → result_base gs (option_map plain_type t) ≡ result_base hs t
  result_is None = refl
  result_is (Some t) = base_is t

  params_is : (ps : List ParamHead) → param_bases gs (map plain_param ps) ≡ param_bases hs ps
  params_is [] = refl
  params_is (p ∷ ps) = ap (λ x. x ∷ param_bases gs (map plain_param ps)) (base_is p.kind) ∙ ap (λ x. base_of hs p.kind ∷ x) (params_is ps)

  -- ---- how many slots there are

  field_long : (f : FieldHead) → length (field_slots gs (plain_field f)) ≡ length (field_slots hs f)
  field_long f = one_long (is_position gs (plain_type f.kind)) (is_position hs f.kind) _ _ (position_is f.kind)

  value_long : (b : Bool) (t : TypeHead) → length (value_slots gs b (plain_type t)) ≡ length (value_slots hs b t)
  value_long b t = one_long (is_position gs (plain_type t)) (is_position hs t) _ _ (position_is t)

  receiver_long : (m : MethodHead) → length (receiver_slots (plain_method m)) ≡ length (receiver_slots m)
  receiver_long m = one_long (has_receiver m) (has_receiver m) _ _ refl

  results_long : (b : Bool) (t : Option TypeHead) → length (result_slots gs b (option_map plain_type t)) ≡ length (result_slots hs b t)
  results_long b None = refl
  results_long b (Some t) = value_long b t

  params_long : (b : Bool) (ps : List ParamHead) → length (params_slots gs b (map plain_param ps)) ≡ length (params_slots hs b ps)
  params_long b [] = refl
  params_long b (p ∷ ps) = both_long (value_slots gs b (plain_type p.kind)) (params_slots gs b (map plain_param ps)) (value_slots hs b p.kind) (params_slots hs b ps) (value_long b p.kind) (params_long b ps)

  method_long : (m : MethodHead) → length (method_slots gs (plain_method m)) ≡ length (method_slots hs m)
  method_long m =
      both_long (receiver_slots (plain_method m)) (params_slots gs m.is_private (map plain_param m.params) ++ result_slots gs m.is_private (option_map plain_type m.result)) (receiver_slots m) (params_slots hs m.is_private m.params ++ result_slots hs m.is_private m.result) (receiver_long m)
      (both_long (params_slots gs m.is_private (map plain_param m.params)) (result_slots gs m.is_private (option_map plain_type m.result)) (params_slots hs m.is_private m.params) (result_slots hs m.is_private m.result) (params_long m.is_private m.params) (results_long m.is_private m.result))

  fields_long : (fs : List FieldHead) → length (fields_slots gs (map plain_field fs)) ≡ length (fields_slots hs fs)
  fields_long [] = refl
  fields_long (f ∷ fs) = both_long (field_slots gs (plain_field f)) (fields_slots gs (map plain_field fs)) (field_slots hs f) (fields_slots hs fs) (field_long f) (fields_long fs)

  methods_long : (ms : List MethodHead) → length (methods_slots gs (map plain_method ms)) ≡ length (methods_slots hs ms)
  methods_long [] = refl
  methods_long (m ∷ ms) = both_long (method_slots gs (plain_method m)) (methods_slots gs (map plain_method ms)) (method_slots hs m) (methods_slots hs ms) (method_long m) (methods_long ms)

  pub class_long : (h : ClassHead) → length (class_slots gs (plain_head h)) ≡ length (class_slots hs h)
  class_long h = both_long (fields_slots gs (map plain_field h.fields)) (methods_slots gs (map plain_method h.methods)) (fields_slots hs h.fields) (methods_slots hs h.methods) (fields_long h.fields) (methods_long h.methods)

  pub all_long : (xs : List ClassHead) → length (slots_of_all gs (map plain_head xs)) ≡ length (slots_of_all hs xs)
  all_long [] = refl
  all_long (x ∷ xs) = both_long (class_slots gs (plain_head x)) (slots_of_all gs (map plain_head xs)) (class_slots hs x) (slots_of_all hs xs) (class_long x) (all_long xs)

  -- ---- fields

  field_is : (c s : ℕ) (f : FieldHead) → bare_field (field_of gs c s (plain_field f)) ≡ bare_field (field_of hs c s f)
  field_is c s f =
      ap (λ b. record { name = f.name.name; span = no_span; owner = record { 0 = c }; base = b; is_static = f.is_static; is_final = f.is_final; is_private = f.is_private; is_monotonic = is_position gs (plain_type f.kind) && f.kind.notes.monotonic; first = f.first; slot = slot_at (is_position gs (plain_type f.kind)) s }) (base_is f.kind)
      ∙ ap (λ b. record { name = f.name.name; span = no_span; owner = record { 0 = c }; base = base_of hs f.kind; is_static = f.is_static; is_final = f.is_final; is_private = f.is_private; is_monotonic = b && f.kind.notes.monotonic; first = f.first; slot = slot_at b s }) (position_is f.kind)

  fields_is : (c s : ℕ) (fs : List FieldHead) → map bare_field (fields_of gs c s (map plain_field fs)) ≡ map bare_field (fields_of hs c s fs)
  fields_is c s [] = refl
  fields_is c s (f ∷ fs) =
      ap (λ x. x ∷ map bare_field (fields_of gs c (s + length (field_slots gs (plain_field f))) (map plain_field fs))) (field_is c s f)
      ∙ ap (λ n. bare_field (field_of hs c s f) ∷ map bare_field (fields_of gs c (s + n) (map plain_field fs))) (field_long f)
      ∙ ap (λ x. bare_field (field_of hs c s f) ∷ x) (fields_is c (s + length (field_slots hs f)) fs)

  fields_from_is : (c s : ℕ) (xs : List ClassHead) → map bare_field (fields_from gs c s (map plain_head xs)) ≡ map bare_field (fields_from hs c s xs)
  fields_from_is c s [] = refl
  fields_from_is c s (x ∷ xs) =
      map-append bare_field (fields_of gs c s (map plain_field x.fields)) (fields_from gs (suc c) (s + length (class_slots gs (plain_head x))) (map plain_head xs))
      ∙ ap (λ y. y ++ map bare_field (fields_from gs (suc c) (s + length (class_slots gs (plain_head x))) (map plain_head xs))) (fields_is c s x.fields)
      ∙ ap (λ n. map bare_field (fields_of hs c s x.fields) ++ map bare_field (fields_from gs (suc c) (s + n) (map plain_head xs))) (class_long x)
      ∙ ap (λ y. map bare_field (fields_of hs c s x.fields) ++ y) (fields_from_is (suc c) (s + length (class_slots hs x)) xs)
      ∙ sym (map-append bare_field (fields_of hs c s x.fields) (fields_from hs (suc c) (s + length (class_slots hs x)) xs))

  -- ---- methods

  param_slots_is : (b : Bool) (s : ℕ) (ps : List ParamHead) → param_slots gs b s (map plain_param ps) ≡ param_slots hs b s ps
  param_slots_is b s [] = refl
  param_slots_is b s (p ∷ ps) =
      ap (λ x. slot_at x s ∷ param_slots gs b (s + length (value_slots gs b (plain_type p.kind))) (map plain_param ps)) (position_is p.kind)
      ∙ ap (λ n. slot_at (is_position hs p.kind) s ∷ param_slots gs b (s + n) (map plain_param ps)) (value_long b p.kind)
      ∙ ap (λ x. slot_at (is_position hs p.kind) s ∷ x) (param_slots_is b (s + length (value_slots hs b p.kind)) ps)

  result_slot_is : (s : ℕ) (t : Option TypeHead) → result_slot gs s (option_map plain_type t) ≡ result_slot hs s t
  result_slot_is s None = refl
  result_slot_is s (Some t) = ap (λ x. slot_at x s) (position_is t)

  no_result_is : (t : Option TypeHead) → no_result (option_map plain_type t) ≡ no_result t
  no_result_is None = refl
  no_result_is (Some t) = refl

  main_is : (m : MethodHead) → is_main gs (plain_method m) ≡ is_main hs m
  main_is m =
      ap (λ x. m.is_public && m.is_static && not m.ctor && x && eqb m.name.name.0 main_name && is_words (param_bases gs (map plain_param m.params))) (no_result_is m.result)
      ∙ ap (λ x. m.is_public && m.is_static && not m.ctor && no_result m.result && eqb m.name.name.0 main_name && is_words x) (params_is m.params)

  abbrev made : MethodHead → ℕ → ℕ → ℕ → List BaseType → BaseType → Bool → List (Option SlotNo) → Option SlotNo → Method
  made m c s b params result main slots at_result = record { name = m.name.name; span = no_span; owner = record { 0 = c }; params = params; param_spans = []; result = result; ctor = m.ctor; is_static = m.is_static; is_private = m.is_private; is_abstract = m.is_abstract; is_final = m.is_final; is_main = main; body = body_at m.has_body b; receiver = slot_at (has_receiver m) s; param_slots = slots; result_slot = at_result }

  method_is : (c s b : ℕ) (m : MethodHead) → bare_method (method_of gs c s b (plain_method m)) ≡ bare_method (method_of hs c s b m)
  method_is c s b m =
      let t : ℕ = s + length (receiver_slots m) in
      let new : List ParamHead = map plain_param m.params in
      let res : Option TypeHead = option_map plain_type m.result in
      ap (λ n. made m c s b (param_bases gs new) (result_base gs res) (is_main gs (plain_method m)) (param_slots gs m.is_private (s + n) new) (result_slot gs ((s + n) + length (params_slots gs m.is_private new)) res)) (receiver_long m)
      ∙ ap (λ x. made m c s b x (result_base gs res) (is_main gs (plain_method m)) (param_slots gs m.is_private t new) (result_slot gs (t + length (params_slots gs m.is_private new)) res)) (params_is m.params)
      ∙ ap (λ x. made m c s b (param_bases hs m.params) x (is_main gs (plain_method m)) (param_slots gs m.is_private t new) (result_slot gs (t + length (params_slots gs m.is_private new)) res)) (result_is m.result)
      ∙ ap (λ x. made m c s b (param_bases hs m.params) (result_base hs m.result) x (param_slots gs m.is_private t new) (result_slot gs (t + length (params_slots gs m.is_private new)) res)) (main_is m)
      ∙ ap (λ x. made m c s b (param_bases hs m.params) (result_base hs m.result) (is_main hs m) x (result_slot gs (t + length (params_slots gs m.is_private new)) res)) (param_slots_is m.is_private t m.params)
      ∙ ap (λ n. made m c s b (param_bases hs m.params) (result_base hs m.result) (is_main hs m) (param_slots hs m.is_private t m.params) (result_slot gs (t + n) res)) (params_long m.is_private m.params)
      ∙ ap (λ x. made m c s b (param_bases hs m.params) (result_base hs m.result) (is_main hs m) (param_slots hs m.is_private t m.params) x) (result_slot_is (t + length (params_slots hs m.is_private m.params)) m.result)

  methods_is : (c s b : ℕ) (ms : List MethodHead) → map bare_method (methods_of gs c s b (map plain_method ms)) ≡ map bare_method (methods_of hs c s b ms)
  methods_is c s b [] = refl
  methods_is c s b (m ∷ ms) =
      ap (λ x. x ∷ map bare_method (methods_of gs c (s + length (method_slots gs (plain_method m))) (b + count m.has_body) (map plain_method ms))) (method_is c s b m)
      ∙ ap (λ n. bare_method (method_of hs c s b m) ∷ map bare_method (methods_of gs c (s + n) (b + count m.has_body) (map plain_method ms))) (method_long m)
      ∙ ap (λ x. bare_method (method_of hs c s b m) ∷ x) (methods_is c (s + length (method_slots hs m)) (b + count m.has_body) ms)

  bodies_is : (ms : List MethodHead) → bodies_of (map plain_method ms) ≡ bodies_of ms
  bodies_is [] = refl
  bodies_is (m ∷ ms) = ap (λ n. count m.has_body + n) (bodies_is ms)

  methods_from_is : (c s b : ℕ) (xs : List ClassHead) → map bare_method (methods_from gs c s b (map plain_head xs)) ≡ map bare_method (methods_from hs c s b xs)
  methods_from_is c s b [] = refl
  methods_from_is c s b (x ∷ xs) =
      let new : List MethodHead = map plain_method x.methods in
      let rest : ℕ → ℕ → List Method = λ n k. methods_from gs (suc c) (s + n) (b + k) (map plain_head xs) in
      map-append bare_method (methods_of gs c (s + length (fields_slots gs (map plain_field x.fields))) b new) (rest (length (class_slots gs (plain_head x))) (bodies_of new))
      ∙ ap (λ n. map bare_method (methods_of gs c (s + n) b new) ++ map bare_method (rest (length (class_slots gs (plain_head x))) (bodies_of new))) (fields_long x.fields)
      ∙ ap (λ y. y ++ map bare_method (rest (length (class_slots gs (plain_head x))) (bodies_of new))) (methods_is c (s + length (fields_slots hs x.fields)) b x.methods)
      ∙ ap (λ n. map bare_method (methods_of hs c (s + length (fields_slots hs x.fields)) b x.methods) ++ map bare_method (rest n (bodies_of new))) (class_long x)
      ∙ ap (λ k. map bare_method (methods_of hs c (s + length (fields_slots hs x.fields)) b x.methods) ++ map bare_method (rest (length (class_slots hs x)) k)) (bodies_is x.methods)
      ∙ ap (λ y. map bare_method (methods_of hs c (s + length (fields_slots hs x.fields)) b x.methods) ++ y) (methods_from_is (suc c) (s + length (class_slots hs x)) (b + bodies_of x.methods) xs)
      ∙ sym (map-append bare_method (methods_of hs c (s + length (fields_slots hs x.fields)) b x.methods) (methods_from hs (suc c) (s + length (class_slots hs x)) (b + bodies_of x.methods) xs))

  -- ---- classes

  with_same : (x y : Option ℕ) (xs ys : List ClassNo) → x ≡ y → xs ≡ ys → with_class x xs ≡ with_class y ys
  with_same x y xs ys e f = ap (λ z. with_class z xs) e ∙ ap (with_class y) f

  named_is : (ns : List Identifier) → named_classes (λ n. number gs n.name) (map plain_name ns) ≡ named_classes (λ n. number hs n.name) ns
  named_is [] = refl
  named_is (n ∷ ns) = with_same (number gs n.name) (number hs n.name) (named_classes (λ x. number gs x.name) (map plain_name ns)) (named_classes (λ x. number hs x.name) ns) (number_is n.name) (named_is ns)

  parent_is : (interface : Bool) (p : Option Identifier) → parent_class gs interface (option_map plain_name p) ≡ parent_class hs interface p
  parent_is true p = refl
  parent_is false None = refl
  parent_is false (Some n) = ap Some (name_is n)

  under_is : (p q : Option ClassNo) (h : ClassHead) → p ≡ q → bare_class (class_under gs p (plain_head h)) ≡ bare_class (class_under hs q h)
  under_is p q h e =
      ap (λ x. record { name = h.name.name; span = no_span; interface = h.interface; is_abstract = h.is_abstract; is_final = h.is_final; parent = x; supers = parent_list x ++ named_classes (λ n. number gs n.name) (map plain_name h.interfaces) }) e
      ∙ ap (λ x. record { name = h.name.name; span = no_span; interface = h.interface; is_abstract = h.is_abstract; is_final = h.is_final; parent = q; supers = parent_list q ++ x }) (named_is h.interfaces)

  declared_is : (xs : List ClassHead) → map bare_class (map (declared_class gs) (map plain_head xs)) ≡ map bare_class (map (declared_class hs) xs)
  declared_is [] = refl
  declared_is (x ∷ xs) =
      ap (λ y. y ∷ map bare_class (map (declared_class gs) (map plain_head xs))) (under_is (parent_class gs x.interface (option_map plain_name x.parent)) (parent_class hs x.interface x.parent) x (parent_is x.interface x.parent))
      ∙ ap (λ y. bare_class (declared_class hs x) ∷ y) (declared_is xs)

  classes_is : map bare_class (classes gs) ≡ map bare_class (classes hs)
  classes_is = ap (λ y. y ∷ map bare_class (map (declared_class gs) (map plain_head (string_head ∷ hs)))) (under_is None None object_head refl) ∙ ap (λ y. bare_class (class_under hs None object_head) ∷ y) (declared_is (string_head ∷ hs))

  -- ---- the table

  pub table_is : bare (table gs) ≡ bare (table hs)
  table_is =
      ap (λ x. record { classes = x; fields = map bare_field (fields_from gs 0 0 (map plain_head (all_heads hs))); methods = map bare_method (methods_from gs 0 0 0 (map plain_head (all_heads hs))); bodies = []; slots = map bare_slot (slots_of_all gs (map plain_head (all_heads hs))) }) classes_is
      ∙ ap (λ x. record { classes = map bare_class (classes hs); fields = x; methods = map bare_method (methods_from gs 0 0 0 (map plain_head (all_heads hs))); bodies = []; slots = map bare_slot (slots_of_all gs (map plain_head (all_heads hs))) }) (fields_from_is 0 0 (all_heads hs))
      ∙ ap (λ x. record { classes = map bare_class (classes hs); fields = map bare_field (fields_from hs 0 0 (all_heads hs)); methods = x; bodies = []; slots = map bare_slot (slots_of_all gs (map plain_head (all_heads hs))) }) (methods_from_is 0 0 0 (all_heads hs))
      ∙ ap (λ x. record { classes = map bare_class (classes hs); fields = map bare_field (fields_from hs 0 0 (all_heads hs)); methods = map bare_method (methods_from hs 0 0 0 (all_heads hs)); bodies = []; slots = x }) (same_slots (slots_of_all gs (map plain_head (all_heads hs))) (slots_of_all hs (all_heads hs)) (all_long (all_heads hs)))

-- tables of heads that are the same but for places and what is written
pub tables_alike : (hs gs : List ClassHead) → map plain_head hs ≡ map plain_head gs → Alike (table hs) (table gs)
tables_alike hs gs e = sym (table_is hs) ∙ ap (λ x. bare (table x)) e ∙ table_is gs
