-- Rows T1 to T10 have the same codes where heads differ in places and in what is written alone.
use Rattle.std.proofs.Common.{◌≡◌, ℕ, suc, ◌+◌, Bool, true, false, not, ◌&&◌, List, [], ◌∷◌, ◌++◌, length, Option, Some, None, refl, sym, ap, ◌∙◌}
use Rattle.std.specs.Prelude.{ltb, map, flat_map, option_map, slice_index_or}
use Rattle.std.proofs.Math.Path.{fun_ext}
use Rattle.std.proofs.lemmas.List.{length-map}
use Rattle.jn_base.specs.declared.code.Code.TheVariants.{T1, T8, T10}
use Rattle.jn_base.specs.declared.place.Row.{Row}
use Rattle.jn_points.specs.declared.program.Method.{Method}
use Rattle.jn_points.specs.declared.program.Program.{Program}
use Rattle.jn_points.specs.Lookup.{class_info, interface_of}
use Rattle.jn_points.specs.Members.{some_of, same_flag, constructor_of}
use Rattle.jn_points.specs.Regular.{has_number}
use Rattle.jn_trees.specs.declared.expression.Identifier.{Identifier}
use Rattle.jn_trees.specs.declared.expression.Base.{Base}
use Rattle.jn_trees.specs.declared.expression.Base.TheVariants.{Class as ClassUse, Int as IntUse, Boolean as BooleanUse}
use Rattle.jn_heads.specs.declared.head.TypeHead.{TypeHead}
use Rattle.jn_heads.specs.declared.head.FieldHead.{FieldHead}
use Rattle.jn_heads.specs.declared.head.ParamHead.{ParamHead}
use Rattle.jn_heads.specs.declared.head.MethodHead.{MethodHead}
use Rattle.jn_heads.specs.declared.head.ClassHead.{ClassHead}
use Rattle.jn_heads.specs.Heads.{all_heads, number}
use Rattle.jn_heads.specs.Types.{class_slots}
use Rattle.jn_classtable.specs.Table.{bodies_of, count, table}
use Rattle.jn_declaration_rules.specs.Rows.{rows_at, earlier, unless, no_rows, reach}
use Rattle.jn_classtable.specs.Rows.{found_number, called_with, called_of, called_from, limit_rows, same_param_name, param_place, param_rows, unless_found, second_classes, second_fields, second_params, t1_rows, name_rows, base_rows, result_rows, signature_rows, is_kind, kind_rows, parent_rows, head_rows, t2_rows, t3_rows, t4_rows, t5_rows, lacking_classes, bad_abstracts, t6_rows, t7_rows, called, t8_rows, t9_rows, t10_rows, basic_rows, t_rows}
use Rattle.jn_places_law.specs.Bare.{bare, Alike, bare_method, codes_of}
use Rattle.jn_places_law.proofs.Lookups.{interface_is}
use Rattle.jn_places_law.proofs.Meanings.{constructor_is}
use Rattle.jn_heads_law.specs.Plain.{plain_name, plain_use, plain_type, plain_field, plain_param, plain_method, plain_head}
use Rattle.jn_heads_law.proofs.Tables.{number_is, class_long, table_is}
use Rattle.jn_heads_law.proofs.ClassRows.{one_row, rows_bare, earlier_bare, no_rows_same, codes_append, table_rows, field_rows, circle_rows, method_rows, override_rows, lacking_rows, abstract_rows, hiding_rows, final_rows, table_bare, field_bare, circle_bare, method_bare, override_bare, lacking_bare, abstract_bare, hiding_bare, final_rows_bare}

three : (a b c d e f : List Row) → codes_of a ≡ codes_of d → codes_of b ≡ codes_of e → codes_of c ≡ codes_of f → codes_of (a ++ b ++ c) ≡ codes_of (d ++ e ++ f)
three a b c d e f h k g = codes_append (a ++ b) c (d ++ e) f (codes_append a b d e h k) g

four : (a b c d e f g h : List Row) → codes_of a ≡ codes_of e → codes_of b ≡ codes_of f → codes_of c ≡ codes_of g → codes_of d ≡ codes_of h → codes_of (a ++ b ++ c ++ d) ≡ codes_of (e ++ f ++ g ++ h)
four a b c d e f g h i j k l = codes_append (a ++ b ++ c) d (e ++ f ++ g) h (three a b c e f g i j k) l

flat_codes : {A B : Type 0} (f : A → B) (r : A → List Row) (q : B → List Row) (xs : List A) → ((x : A) → codes_of (r x) ≡ codes_of (q (f x))) → codes_of (flat_map r xs) ≡ codes_of (flat_map q (map f xs))
flat_codes f r q [] h = refl
flat_codes f r q (x ∷ xs) h = codes_append (r x) (flat_map r xs) (q (f x)) (flat_map q (map f xs)) (h x) (flat_codes f r q xs h)

found_codes : (b d : Bool) (n m : Identifier) → b ≡ d → codes_of (unless_found b n) ≡ codes_of (unless_found d m)
found_codes true true n m e = refl
found_codes false false n m e = refl
found_codes true false n m e = cc
found_codes false true n m e = cc

unless_codes : (b d : Bool) (xs ys : List Row) → b ≡ d → codes_of xs ≡ codes_of ys → codes_of (unless b xs) ≡ codes_of (unless d ys)
unless_codes true true xs ys e h = refl
unless_codes false false xs ys e h = h
unless_codes true false xs ys e h = cc
unless_codes false true xs ys e h = cc

param_codes : (m : MethodHead) → codes_of (param_rows m) ≡ codes_of (param_rows (plain_method m))
param_codes m = rows_bare plain_param T1 param_place param_place (earlier same_param_name m.params) (earlier same_param_name (map plain_param m.params)) 0 m.params (λ i x. earlier_bare plain_param same_param_name same_param_name m.params i x (λ a b. refl))

limit_codes : (limit : ℕ) (size other : ClassHead → ℕ) (n : ℕ) (xs : List ClassHead) → ((h : ClassHead) → size h ≡ other (plain_head h)) → codes_of (limit_rows limit size n xs) ≡ codes_of (limit_rows limit other n (map plain_head xs))
limit_codes limit size other n [] h = refl
limit_codes limit size other n (x ∷ xs) h =
    one_row (not (ltb limit n) && ltb limit (n + size x)) (not (ltb limit n) && ltb limit (n + other (plain_head x))) (record { span = x.name.span; code = T10 }) (record { span = (plain_head x).name.span; code = T10 }) (limit_rows limit size (n + size x) xs) (limit_rows limit other (n + other (plain_head x)) (map plain_head xs))
    (ap (λ k. not (ltb limit n) && ltb limit (n + k)) (h x)) refl
    (limit_codes limit size other (n + size x) xs h ∙ ap (λ k. codes_of (limit_rows limit other (n + k) (map plain_head xs))) (h x))

bodies_plain : (ms : List MethodHead) → bodies_of ms ≡ bodies_of (map plain_method ms)
bodies_plain [] = refl
bodies_plain (m ∷ ms) = ap (λ n. count m.has_body + n) (bodies_plain ms)

abbrev loops : (ℕ → List ℕ) → List Method → List Row
loops next ms = rows_at T8 (λ (x : Method). x.span) (λ m x. some_of (λ s. reach next (length ms) s m) (next m)) 0 ms

loops_bare : (next : ℕ → List ℕ) (ms : List Method) → codes_of (loops next ms) ≡ codes_of (loops next (map bare_method ms))
loops_bare next ms = rows_bare bare_method T8 (λ (x : Method). x.span) (λ (x : Method). x.span) (λ m x. some_of (λ s. reach next (length ms) s m) (next m)) (λ m x. some_of (λ s. reach next (length (map bare_method ms)) s m) (next m)) 0 ms (λ m x. ap (λ n. some_of (λ s. reach next n s m) (next m)) (sym (length-map ms bare_method)))

module _ (P Q : Program) (h : Alike P Q) where
  with_same : (c : ℕ) (k : Option ℕ) → called_with P c k ≡ called_with Q c k
  with_same c None = refl
  with_same c (Some arity) = ap found_number (sym (constructor_is P c arity) ∙ ap (λ z. constructor_of z c arity) h ∙ constructor_is Q c arity)

  of_same : (c : ℕ) (ms : List MethodHead) → called_of P c ms ≡ called_of Q c (map plain_method ms)
  of_same c [] = refl
  of_same c (m ∷ ms) = ap (λ z. z ∷ called_of P c ms) (with_same c m.calls) ∙ ap (λ z. called_with Q c m.calls ∷ z) (of_same c ms)

  from_same : (c : ℕ) (xs : List ClassHead) → called_from P c xs ≡ called_from Q c (map plain_head xs)
  from_same c [] = refl
  from_same c (x ∷ xs) = ap (λ z. z ++ called_from P (suc c) xs) (of_same c x.methods) ∙ ap (λ z. called_of Q c (map plain_method x.methods) ++ z) (from_same (suc c) xs)

  interface_same : (c : ℕ) → interface_of (class_info P c) ≡ interface_of (class_info Q c)
  interface_same c = sym (interface_is P c) ∙ ap (λ z. interface_of (class_info z c)) h ∙ interface_is Q c

module _ (hs : List ClassHead) where
  abbrev ps : List ClassHead
  ps = map plain_head hs

  same : Alike (table hs) (table ps)
  same = sym (table_is hs)

  by_table : (rows : Program → List Row) → ((R : Program) → codes_of (rows R) ≡ codes_of (rows (bare R))) → codes_of (rows (table hs)) ≡ codes_of (rows (table ps))
  by_table rows f = f (table hs) ∙ ap (λ z. codes_of (rows z)) same ∙ sym (f (table ps))

  name_codes : (n : Identifier) → codes_of (name_rows hs n) ≡ codes_of (name_rows ps (plain_name n))
  name_codes n = found_codes (has_number (number hs n.name)) (has_number (number ps n.name)) n (plain_name n) (ap has_number (sym (number_is hs n.name)))

  base_codes : (b : Base) → codes_of (base_rows hs b) ≡ codes_of (base_rows ps (plain_use b))
  base_codes (ClassUse n) = name_codes n
  base_codes (IntUse s) = refl
  base_codes (BooleanUse s) = refl

  result_codes : (t : Option TypeHead) → codes_of (result_rows hs t) ≡ codes_of (result_rows ps (option_map plain_type t))
  result_codes None = refl
  result_codes (Some t) = base_codes t.base

  signature_codes : (m : MethodHead) → codes_of (signature_rows hs m) ≡ codes_of (signature_rows ps (plain_method m))
  signature_codes m =
      codes_append (result_rows hs m.result) (flat_map (λ (p : ParamHead). base_rows hs p.kind.base) m.params) (result_rows ps (option_map plain_type m.result)) (flat_map (λ (p : ParamHead). base_rows ps p.kind.base) (map plain_param m.params))
      (result_codes m.result) (flat_codes plain_param (λ (p : ParamHead). base_rows hs p.kind.base) (λ (p : ParamHead). base_rows ps p.kind.base) m.params (λ p. base_codes p.kind.base))

  kind_same : (i : Bool) (k : Option ℕ) → is_kind hs i k ≡ is_kind ps i k
  kind_same i None = refl
  kind_same i (Some c) = ap (same_flag i) (interface_same (table hs) (table ps) same c)

  kind_codes : (i : Bool) (n : Identifier) → codes_of (kind_rows hs i n) ≡ codes_of (kind_rows ps i (plain_name n))
  kind_codes i n = found_codes (is_kind hs i (number hs n.name)) (is_kind ps i (number ps n.name)) n (plain_name n) (kind_same i (number hs n.name) ∙ ap (is_kind ps i) (sym (number_is hs n.name)))

  parent_codes : (p : Option Identifier) → codes_of (parent_rows hs p) ≡ codes_of (parent_rows ps (option_map plain_name p))
  parent_codes None = refl
  parent_codes (Some n) = kind_codes false n

  head_codes : (x : ClassHead) → codes_of (head_rows hs x) ≡ codes_of (head_rows ps (plain_head x))
  head_codes x =
      let fa : List Row = flat_map (λ (f : FieldHead). base_rows hs f.kind.base) x.fields in
      let fb : List Row = flat_map (λ (f : FieldHead). base_rows ps f.kind.base) (map plain_field x.fields) in
      let ma : List Row = flat_map (signature_rows hs) x.methods in
      let mb : List Row = flat_map (signature_rows ps) (map plain_method x.methods) in
      let ia : List Row = flat_map (kind_rows hs true) x.interfaces in
      let ib : List Row = flat_map (kind_rows ps true) (map plain_name x.interfaces) in
      four (parent_rows hs x.parent) ia fa ma (parent_rows ps (option_map plain_name x.parent)) ib fb mb (parent_codes x.parent)
      (flat_codes plain_name (kind_rows hs true) (kind_rows ps true) x.interfaces (kind_codes true))
      (flat_codes plain_field (λ (f : FieldHead). base_rows hs f.kind.base) (λ (f : FieldHead). base_rows ps f.kind.base) x.fields (λ f. base_codes f.kind.base))
      (flat_codes plain_method (signature_rows hs) (signature_rows ps) x.methods signature_codes)

  t1_codes : codes_of (t1_rows hs) ≡ codes_of (t1_rows ps)
  t1_codes =
      three (second_classes hs) (second_fields hs) (second_params hs) (second_classes ps) (second_fields ps) (second_params ps) (by_table table_rows table_bare) (by_table field_rows field_bare)
      (flat_codes plain_head (λ (x : ClassHead). flat_map param_rows x.methods) (λ (x : ClassHead). flat_map param_rows x.methods) hs (λ x. flat_codes plain_method param_rows param_rows x.methods param_codes))

  basic_codes : codes_of (basic_rows hs) ≡ codes_of (basic_rows ps)
  basic_codes = three (t1_rows hs) (t2_rows hs) (t4_rows hs) (t1_rows ps) (t2_rows ps) (t4_rows ps) t1_codes (flat_codes plain_head (head_rows hs) (head_rows ps) hs head_codes) (by_table method_rows method_bare)

  t3_codes : codes_of (t3_rows hs) ≡ codes_of (t3_rows ps)
  t3_codes = by_table circle_rows circle_bare

  called_same : called hs ≡ called ps
  called_same = fun_ext (λ m. ap (λ z. slice_index_or z m []) (from_same (table hs) (table ps) same 0 (all_heads hs)))

  t8_codes : codes_of (t8_rows hs) ≡ codes_of (t8_rows ps)
  t8_codes =
      loops_bare (called hs) (table hs).methods
      ∙ ap (λ (z : Program). codes_of (loops (called hs) z.methods)) same
      ∙ ap (λ (z : ℕ → List ℕ). codes_of (loops z (bare (table ps)).methods)) called_same
      ∙ sym (loops_bare (called ps) (table ps).methods)

  t10_codes : codes_of (t10_rows hs) ≡ codes_of (t10_rows ps)
  t10_codes =
      three (limit_rows 4096 (λ h. 1) 0 hs) (limit_rows 65535 (λ h. bodies_of h.methods) 0 (all_heads hs)) (limit_rows 65536 (λ h. length (class_slots hs h)) 0 (all_heads hs))
      (limit_rows 4096 (λ h. 1) 0 ps) (limit_rows 65535 (λ h. bodies_of h.methods) 0 (all_heads ps)) (limit_rows 65536 (λ h. length (class_slots ps h)) 0 (all_heads ps))
      (limit_codes 4096 (λ h. 1) (λ h. 1) 0 hs (λ h. refl))
      (limit_codes 65535 (λ h. bodies_of h.methods) (λ h. bodies_of h.methods) 0 (all_heads hs) (λ h. bodies_plain h.methods))
      (limit_codes 65536 (λ h. length (class_slots hs h)) (λ h. length (class_slots ps h)) 0 (all_heads hs) (λ h. sym (class_long hs h)))

  late_codes : codes_of (t5_rows hs ++ t6_rows hs ++ t7_rows hs ++ t8_rows hs) ≡ codes_of (t5_rows ps ++ t6_rows ps ++ t7_rows ps ++ t8_rows ps)
  late_codes =
      four (t5_rows hs) (t6_rows hs) (t7_rows hs) (t8_rows hs) (t5_rows ps) (t6_rows ps) (t7_rows ps) (t8_rows ps) (by_table override_rows override_bare)
      (codes_append (lacking_classes hs) (bad_abstracts hs) (lacking_classes ps) (bad_abstracts ps) (by_table lacking_rows lacking_bare) (by_table abstract_rows abstract_bare))
      (by_table hiding_rows hiding_bare) t8_codes

  plain_codes : codes_of (t_rows hs) ≡ codes_of (t_rows ps)
  plain_codes =
      let na : Bool = not (no_rows (t3_rows hs)) in
      let nb : Bool = not (no_rows (t3_rows ps)) in
      let ma : Bool = not (no_rows (basic_rows hs) && no_rows (t3_rows hs)) in
      let mb : Bool = not (no_rows (basic_rows ps) && no_rows (t3_rows ps)) in
      let la : List Row = t5_rows hs ++ t6_rows hs ++ t7_rows hs ++ t8_rows hs in
      let lb : List Row = t5_rows ps ++ t6_rows ps ++ t7_rows ps ++ t8_rows ps in
      codes_append (basic_rows hs ++ t3_rows hs ++ t10_rows hs ++ unless na (t9_rows hs)) (unless ma la) (basic_rows ps ++ t3_rows ps ++ t10_rows ps ++ unless nb (t9_rows ps)) (unless mb lb)
      (four (basic_rows hs) (t3_rows hs) (t10_rows hs) (unless na (t9_rows hs)) (basic_rows ps) (t3_rows ps) (t10_rows ps) (unless nb (t9_rows ps)) basic_codes t3_codes t10_codes
      (unless_codes na nb (t9_rows hs) (t9_rows ps) (ap not (no_rows_same (t3_rows hs) (t3_rows ps) t3_codes)) (by_table final_rows final_rows_bare)))
      (unless_codes ma mb la lb (ap (λ b. not (b && no_rows (t3_rows hs))) (no_rows_same (basic_rows hs) (basic_rows ps) basic_codes) ∙ ap (λ b. not (no_rows (basic_rows ps) && b)) (no_rows_same (t3_rows hs) (t3_rows ps) t3_codes)) late_codes)

-- heads that are the same but for places and what is written
pub head_rows_alike : (hs gs : List ClassHead) → map plain_head hs ≡ map plain_head gs → codes_of (t_rows hs) ≡ codes_of (t_rows gs)
head_rows_alike hs gs e = plain_codes hs ∙ ap (λ x. codes_of (t_rows x)) e ∙ sym (plain_codes gs)
