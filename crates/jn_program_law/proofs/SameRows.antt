-- The rows of base typing don't read slots: a program with other slots has the same.
use Rattle.std.proofs.Common.{◌≡◌, ◌⊎◌, ◌↔◌, inl, inr, Bool, ℕ, List, [], ◌∷◌, ◌++◌, cond, not, ◌&&◌, Option, Some, None, refl, sym, ap, ◌∙◌, subst}
use Rattle.std.proofs.Math.Path.{fun_ext}
use Rattle.std.specs.List.{Contains}
use Rattle.jn_base.specs.declared.place.Row.{Row}
use Rattle.jn_base.specs.declared.code.Code.TheVariants.{J7, J10}
use Rattle.jn_base.specs.declared.infer.Infer.{Infer}
use Rattle.jn_places.specs.Placed.{PlacedFile}
use Rattle.jn_points.specs.declared.point.BaseType.{BaseType}
use Rattle.jn_points.specs.declared.point.BaseType.TheVariants.{Int, Bool as BoolBase, Ref}
use Rattle.jn_points.specs.declared.point.Operand.{Operand}
use Rattle.jn_points.specs.declared.point.Operator.{Operator}
use Rattle.jn_points.specs.declared.point.Operator.TheVariants.{Equal, NotEqual}
use Rattle.jn_points.specs.declared.point.PointKind.{PointKind}
use Rattle.jn_points.specs.declared.point.PointKind.TheVariants.{Const, Move, Unary, Binary, Concat, SameRef, FieldRead, FieldWrite, StaticRead, StaticWrite, ElemRead, ElemWrite, ArrayLen, NewArray, ArrayOf, New, CtorCall, Call, StrOp, Print, Cast, TestInst, TestNull, Branch, Goto, Return}
use Rattle.jn_points.specs.declared.program.SlotInfo.{SlotInfo}
use Rattle.jn_points.specs.declared.program.Program.{Program}
use Rattle.jn_points.specs.Lookup.{class_of, elem_base, field_base, method_at, owner, params_of, reg_base}
use Rattle.jn_points.specs.Paths.{Avoids, Lacks, Path, Reached, Step}
use Rattle.jn_points.specs.BaseRows.{Want, Within, Primitive, Same, Reference, Elements, Joinable, Printable, Valued, is_void, other_nullity, returned, string_base, suits, operand_rows, all_rows, argument_rows, optional_rows, binary_rows, type_rows, result_rows, IsUnassigned, TypeRow, UnassignedRow, ResultRow, IsBaseRow, NoBaseRows}
use Rattle.jn_heads.specs.Inferred.{slots_by}
use Rattle.jn_program_law.specs.FileProgram.{inferring, program_of_files}
use Rattle.jn_lowering.proofs.SameClasses.{fits_same}
use Rattle.jn_program_law.proofs.SameSlots.{other}

both : (xs ys us vs : List Row) → xs ≡ ys → us ≡ vs → xs ++ us ≡ ys ++ vs
both xs ys us vs x y = ap (λ r. r ++ us) x ∙ ap (λ r. ys ++ r) y

module _ (P : Program) (slots : List SlotInfo) where
  abbrev Q : Program
  Q = other P slots

  suits_same : (w : Want) (t : BaseType) → suits Q w t ≡ suits P w t
  suits_same (Within base) t = ap (λ b. not (is_void t) && b) (fits_same P P.bodies slots t base)
  suits_same Primitive t = refl
  suits_same (Same base) t = refl
  suits_same Reference t = refl
  suits_same Elements t = refl
  suits_same Joinable t = refl
  suits_same Printable t = refl
  suits_same Valued t = refl

  suits_is : suits Q ≡ suits P
  suits_is = fun_ext (λ w. fun_ext (λ t. suits_same w t))

  one : (b : ℕ) (w : Want) (a : Operand) → operand_rows Q b w a ≡ operand_rows P b w a
  one b w a =
      let t = reg_base P b a.reg.0 in
      ap (λ (f : Want → BaseType → Bool). cond (f w t) [] (record { span = a.span; code = cond (not (f w t) && f w (other_nullity t)) J10 J7 } ∷ [])) suits_is

  two : (b : ℕ) (w : Want) (a : Operand) (v : Want) (c : Operand) → operand_rows Q b w a ++ operand_rows Q b v c ≡ operand_rows P b w a ++ operand_rows P b v c
  two b w a v c = both (operand_rows Q b w a) (operand_rows P b w a) (operand_rows Q b v c) (operand_rows P b v c) (one b w a) (one b v c)

  all_same : (b : ℕ) (w : Want) (xs : List Operand) → all_rows Q b w xs ≡ all_rows P b w xs
  all_same b w [] = refl
  all_same b w (a ∷ xs) = both (operand_rows Q b w a) (operand_rows P b w a) (all_rows Q b w xs) (all_rows P b w xs) (one b w a) (all_same b w xs)

  arguments_same : (b : ℕ) (ts : List BaseType) (xs : List Operand) → argument_rows Q b ts xs ≡ argument_rows P b ts xs
  arguments_same b [] [] = refl
  arguments_same b (t ∷ ts) [] = refl
  arguments_same b [] (a ∷ xs) = refl
  arguments_same b (t ∷ ts) (a ∷ xs) = both (operand_rows Q b (Within t) a) (operand_rows P b (Within t) a) (argument_rows Q b ts xs) (argument_rows P b ts xs) (one b (Within t) a) (arguments_same b ts xs)

  optional_same : (b : ℕ) (w : Want) (o : Option Operand) → optional_rows Q b w o ≡ optional_rows P b w o
  optional_same b w None = refl
  optional_same b w (Some a) = one b w a

  binary_same : (b : ℕ) (op : Operator) (l r : Operand) → binary_rows Q b op l r ≡ binary_rows P b op l r
  binary_same b Equal l r = two b Primitive l (Same (reg_base P b l.reg.0)) r
  binary_same b NotEqual l r = two b Primitive l (Same (reg_base P b l.reg.0)) r
  binary_same b op l r = two b (Within Int) l (Within Int) r

  abbrev object_of : ℕ → Want
  object_of f = Within (Ref (record { 0 = owner P f }))

  optional_arguments : (b : ℕ) (w : Want) (o : Option Operand) (ts : List BaseType) (xs : List Operand) → optional_rows Q b w o ++ argument_rows Q b ts xs ≡ optional_rows P b w o ++ argument_rows P b ts xs
  optional_arguments b w o ts xs = both (optional_rows Q b w o) (optional_rows P b w o) (argument_rows Q b ts xs) (argument_rows P b ts xs) (optional_same b w o) (arguments_same b ts xs)

  one_optional : (b : ℕ) (w : Want) (a : Operand) (v : Want) (o : Option Operand) → operand_rows Q b w a ++ optional_rows Q b v o ≡ operand_rows P b w a ++ optional_rows P b v o
  one_optional b w a v o = both (operand_rows Q b w a) (operand_rows P b w a) (optional_rows Q b v o) (optional_rows P b v o) (one b w a) (optional_same b v o)

  three : (b : ℕ) (w : Want) (a : Operand) (v : Want) (c : Operand) (u : Want) (d : Operand) → operand_rows Q b w a ++ operand_rows Q b v c ++ operand_rows Q b u d ≡ operand_rows P b w a ++ operand_rows P b v c ++ operand_rows P b u d
  three b w a v c u d = both (operand_rows Q b w a ++ operand_rows Q b v c) (operand_rows P b w a ++ operand_rows P b v c) (operand_rows Q b u d) (operand_rows P b u d) (two b w a v c) (one b u d)

  types_same : (b : ℕ) (k : PointKind) → type_rows Q b k ≡ type_rows P b k
  types_same b (Const dst value) = refl
  types_same b (Move dst from bound) = one b (Within (reg_base P b dst.0)) from
  types_same b (Unary dst negate of) = one b (Within Int) of
  types_same b (Binary dst op l r) = binary_same b op l r
  types_same b (Concat dst l r) = two b Joinable l Joinable r
  types_same b (SameRef dst equal l r) = two b Reference l Reference r
  types_same b (FieldRead dst object field) = one b (object_of field.0) object
  types_same b (FieldWrite object field value) = two b (object_of field.0) object (Within (field_base P field.0)) value
  types_same b (StaticRead dst field) = refl
  types_same b (StaticWrite field value) = one b (Within (field_base P field.0)) value
  types_same b (ElemRead dst array index) = two b Elements array (Within Int) index
  types_same b (ElemWrite array index value) = three b Elements array (Within Int) index (Within (elem_base (reg_base P b array.reg.0))) value
  types_same b (ArrayLen dst array) = one b Elements array
  types_same b (NewArray dst base count) = one b (Within Int) count
  types_same b (ArrayOf dst base values) = all_same b (Within (elem_base base)) values
  types_same b (New dst ctor args) = arguments_same b (params_of (method_at P ctor.0)) args
  types_same b (CtorCall ctor args own) = arguments_same b (params_of (method_at P ctor.0)) args
  types_same b (Call dst method receiver direct args) = optional_arguments b (Within (Ref (record { 0 = class_of (method_at P method.0) }))) receiver (params_of (method_at P method.0)) args
  types_same b (StrOp dst op of more) = one_optional b (Within string_base) of Reference more
  types_same b (Print of) = one b Printable of
  types_same b (Cast dst of class) = one b Reference of
  types_same b (TestInst of class origin at_yes at_no) = one b Reference of
  types_same b (TestNull of origin at_null at_value) = one b Reference of
  types_same b (Branch of at_yes at_no) = one b (Within BoolBase) of
  types_same b (Goto to) = refl
  types_same b (Return value) = optional_same b (returned P b) value

  results_same : (b : ℕ) (k : PointKind) → result_rows Q b k ≡ result_rows P b k
  results_same b (Const dst value) = refl
  results_same b (Move dst from bound) = refl
  results_same b (Unary dst negate of) = refl
  results_same b (Binary dst op l r) = refl
  results_same b (Concat dst l r) = refl
  results_same b (SameRef dst equal l r) = refl
  results_same b (FieldRead dst object field) = refl
  results_same b (FieldWrite object field value) = refl
  results_same b (StaticRead dst field) = refl
  results_same b (StaticWrite field value) = refl
  results_same b (ElemRead dst array index) = refl
  results_same b (ElemWrite array index value) = refl
  results_same b (ArrayLen dst array) = refl
  results_same b (NewArray dst base count) = refl
  results_same b (ArrayOf dst base values) = refl
  results_same b (New dst ctor args) = refl
  results_same b (CtorCall ctor args own) = refl
  results_same b (Call dst method receiver direct args) = refl
  results_same b (StrOp dst op of more) = refl
  results_same b (Print of) = refl
  results_same b (Cast dst of class) = refl
  results_same b (TestInst of class origin at_yes at_no) = refl
  results_same b (TestNull of origin at_null at_value) = refl
  results_same b (Branch of at_yes at_no) = refl
  results_same b (Goto to) = refl
  results_same b (Return None) = refl
  results_same b (Return (Some value)) = refl

  -- paths
  path_on : (b : ℕ) (qs : List ℕ) (p : ℕ) → Path P b qs p → Path Q b qs p
  path_on b [] p h = h
  path_on b (q ∷ qs) p h = (record { pt = h.0.pt; there = h.0.there; leads = h.0.leads }, path_on b qs q h.1)

  avoids_on : (b r : ℕ) (qs : List ℕ) → Avoids P b r qs → Avoids Q b r qs
  avoids_on b r [] h = tt
  avoids_on b r (q ∷ qs) h = (h.0, avoids_on b r qs h.1)

  reached_on : (b p : ℕ) → Reached P b p → Reached Q b p
  reached_on b p h = record { past = h.past; path = path_on b h.past p h.path }

  lacks_on : (b r p : ℕ) → Lacks P b r p → Lacks Q b r p
  lacks_on b r p h = record { past = h.past; path = path_on b h.past p h.path; avoids = avoids_on b r h.past h.avoids }

  pub row_on : (row : Row) → IsBaseRow P row → IsBaseRow Q row
  row_on row (inl h) = inl (record { b = h.b; p = h.p; pt = h.pt; there = h.there; broken = subst (λ rs. Contains rs row) (sym (types_same h.b h.pt.kind)) h.broken })
  row_on row (inr (inl h)) = inr (inl (record { b = h.b; p = h.p; pt = h.pt; operand = h.operand; there = h.there; read = h.read; unassigned = record { valued = h.unassigned.valued; local = h.unassigned.local; lacks = lacks_on h.b h.operand.reg.0 h.p h.unassigned.lacks }; is = h.is }))
  row_on row (inr (inr h)) = inr (inr (record { b = h.b; p = h.p; pt = h.pt; there = h.there; reached = reached_on h.b h.p h.reached; broken = subst (λ rs. Contains rs row) (sym (results_same h.b h.pt.kind)) h.broken }))

pub rows_by : (infer : Infer) (files : List PlacedFile) (row : Row) → IsBaseRow (inferring infer files) row ↔ IsBaseRow (program_of_files files) row
rows_by infer files row = (row_on (inferring infer files) (program_of_files files).slots row, row_on (program_of_files files) (slots_by infer files) row)

pub typed_by : (infer : Infer) (files : List PlacedFile) → NoBaseRows (inferring infer files) ↔ NoBaseRows (program_of_files files)
typed_by infer files = (λ none row h. none row ((rows_by infer files row).1 h), λ none row h. none row ((rows_by infer files row).0 h))
