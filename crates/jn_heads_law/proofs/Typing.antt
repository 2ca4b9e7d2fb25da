-- Rows J7 to J10 of a body in programs that declare the same but for places.
use Rattle.std.proofs.Common.{◌≡◌, inl, inr, ℕ, ◌≤◌, Bool, true, false, cond, not, ◌&&◌, List, [], ◌∷◌, ◌++◌, length, Option, Some, None, refl, sym, ◌∙◌, subst, arith}
use Rattle.std.specs.Prelude.{option_map, slice_get}
use Rattle.std.specs.List.{Contains}
use Rattle.jn_base.specs.declared.code.Code.TheVariants.{J7, J9, J10}
use Rattle.jn_base.specs.declared.place.Row.{Row}
use Rattle.jn_points.specs.declared.point.BaseType.{BaseType}
use Rattle.jn_points.specs.declared.point.BaseType.TheVariants.{Int, Bool as BoolBase, Ref}
use Rattle.jn_points.specs.declared.point.Operand.{Operand}
use Rattle.jn_points.specs.declared.point.Operator.{Operator}
use Rattle.jn_points.specs.declared.point.Operator.TheVariants.{Equal, NotEqual}
use Rattle.jn_points.specs.declared.point.PointKind.{PointKind}
use Rattle.jn_points.specs.declared.point.PointKind.TheVariants.{Const, Move, Unary, Binary, Concat, SameRef, FieldRead, FieldWrite, StaticRead, StaticWrite, ElemRead, ElemWrite, ArrayLen, NewArray, ArrayOf, New, CtorCall, Call, StrOp, Print, Cast, TestInst, TestNull, Branch, Goto, Return}
use Rattle.jn_points.specs.declared.program.Body.{Body}
use Rattle.jn_points.specs.declared.program.Method.{Method}
use Rattle.jn_points.specs.declared.program.Program.{Program}
use Rattle.jn_points.specs.Lookup.{base_in, class_of, elem_base, field_base, field_base_of, method_at, method_in, method_of_body, owner, owner_of, params_of, point_at, points_of, body_at, reg_base, result_base_of}
use Rattle.jn_points.specs.Members.{type_within}
use Rattle.jn_points.specs.Paths.{Avoids, Lacks, Path, Reached}
use Rattle.jn_points.specs.BaseRows.{Want, Within, Primitive, Same as SameAs, Reference, Elements, Joinable, Printable, Valued, IsUnassigned, NoBaseRows, all_rows, argument_rows, binary_rows, given, given_count, is_void, name_of, operand_rows, optional_rows, other_nullity, result_rows, returned, rows_with, string_base, suits, type_rows}
use Rattle.jn_basecheck.specs.Rows.{BodyRow}
use Rattle.jn_places_law.specs.Bare.{bare_method}
use Rattle.jn_places_law.proofs.Lookups.{class_bare, owner_bare}
use Rattle.jn_heads_law.specs.Heads.{HeadsAlike}
use Rattle.jn_heads_law.proofs.Heads.{field_same, method_same, sub_same}
use Rattle.jn_places_law.proofs.Meanings.{result_bare}
use Rattle.jn_places_law.proofs.Bodies.{params_bare}
use Rattle.jn_places_law.proofs.Forms.{base_is}

given_bare : (m : Option Method) → given_count (option_map bare_method m) ≡ given_count m
given_bare None = refl
given_bare (Some m) = refl

-- where one list has an item, another as long has one, too
held : {A : Type 0} (xs ys : List A) (x : A) → length xs ≡ length ys → Contains xs x → (y : A) × Contains ys y
held [] ys x e c = let inside = c.1 in absurd (omega (arith, inside))
held (x0 ∷ xs) [] x e c = absurd (omega (arith, e))
held (x0 ∷ xs) (y ∷ ys) x e c = (y, (0, omega arith, refl))

-- rows at a choice are as many, where those of each side are
as_many : (at_yes at_no : List Row) (q : Bool) → length at_yes ≡ length at_no → length (cond q [] at_yes) ≡ length (cond q [] at_no)
as_many at_yes at_no true e = refl
as_many at_yes at_no false e = e

module _ (P Q : Program) (h : HeadsAlike P Q) (b : ℕ) (same : body_at P b ≡ body_at Q b) where
  -- ---- what stands where

  reg_same : (r : ℕ) → reg_base P b r ≡ reg_base Q b r
  reg_same r = λ i. base_in (same i) r

  there_same : (p : ℕ) → point_at P b p ≡ point_at Q b p
  there_same p = λ i. slice_get (points_of (same i)) p

  owner_same : (f : ℕ) → owner P f ≡ owner Q f
  owner_same f = field_same P Q h owner_of owner_bare f

  base_same : (f : ℕ) → field_base P f ≡ field_base Q f
  base_same f = field_same P Q h field_base_of base_is f

  class_same : (m : ℕ) → class_of (method_at P m) ≡ class_of (method_at Q m)
  class_same m = method_same P Q h class_of class_bare m

  params_same : (m : ℕ) → params_of (method_at P m) ≡ params_of (method_at Q m)
  params_same m = method_same P Q h params_of params_bare m

  in_same : {B : Type 0} (f : Option Method → B) → ((m : Option Method) → f (option_map bare_method m) ≡ f m) → f (method_in P b) ≡ f (method_in Q b)
  in_same f p = go (body_at P b) ∙ (λ i. f (method_of_body Q (same i)))
    where
      go : (o : Option Body) → f (method_of_body P o) ≡ f (method_of_body Q o)
      go None = refl
      go (Some x) = method_same P Q h f p x.method.0

  result_same : result_base_of (method_in P b) ≡ result_base_of (method_in Q b)
  result_same = in_same result_base_of result_bare

  given_same : given P b ≡ given Q b
  given_same = in_same given_count given_bare

  -- ---- rows at operands

  suits_same : (w : Want) (t : BaseType) → suits P w t ≡ suits Q w t
  suits_same (Within base) t = λ i. not (is_void t) && type_within (λ c d. sub_same P Q h c d i) t base
  suits_same Primitive t = refl
  suits_same (SameAs base) t = refl
  suits_same Reference t = refl
  suits_same Elements t = refl
  suits_same Joinable t = refl
  suits_same Printable t = refl
  suits_same Valued t = refl

  one_same : (w : Want) (a : Operand) → operand_rows P b w a ≡ operand_rows Q b w a
  one_same w a = λ i.
      cond (suits_same w (reg_same a.reg.0 i) i) []
      (record { span = a.span; code = cond (not (suits_same w (reg_same a.reg.0 i) i) && suits_same w (other_nullity (reg_same a.reg.0 i)) i) J10 J7 } ∷ [])

  all_same : (w : Want) (xs : List Operand) → all_rows P b w xs ≡ all_rows Q b w xs
  all_same w [] = refl
  all_same w (a ∷ xs) = λ i. one_same w a i ++ all_same w xs i

  arguments_same : (ts : List BaseType) (xs : List Operand) → argument_rows P b ts xs ≡ argument_rows Q b ts xs
  arguments_same ts [] = refl
  arguments_same [] (a ∷ xs) = refl
  arguments_same (t ∷ ts) (a ∷ xs) = λ i. one_same (Within t) a i ++ arguments_same ts xs i

  optional_same : (w : Want) (o : Option Operand) → optional_rows P b w o ≡ optional_rows Q b w o
  optional_same w None = refl
  optional_same w (Some a) = one_same w a

  binary_same : (op : Operator) (l r : Operand) → binary_rows P b op l r ≡ binary_rows Q b op l r
  binary_same Equal l r = λ i. one_same Primitive l i ++ one_same (SameAs (reg_same l.reg.0 i)) r i
  binary_same NotEqual l r = λ i. one_same Primitive l i ++ one_same (SameAs (reg_same l.reg.0 i)) r i
  binary_same op l r = λ i. one_same (Within Int) l i ++ one_same (Within Int) r i

  returned_same : returned P b ≡ returned Q b
  returned_same = λ i. cond (is_void (result_same i)) Valued (Within (result_same i))

  object_same : (f : ℕ) → ◌≡◌ {A = Want} (Within (Ref (record { 0 = owner P f }))) (Within (Ref (record { 0 = owner Q f })))
  object_same f = λ i. Within (Ref (record { 0 = owner_same f i }))

  receiver_same : (m : ℕ) → ◌≡◌ {A = Want} (Within (Ref (record { 0 = class_of (method_at P m) }))) (Within (Ref (record { 0 = class_of (method_at Q m) })))
  receiver_same m = λ i. Within (Ref (record { 0 = class_same m i }))

  types_same : (k : PointKind) → type_rows P b k ≡ type_rows Q b k
  types_same (Const dst value) = refl
  types_same (Move dst from bound) = λ i. one_same (Within (reg_same dst.0 i)) from i
  types_same (Unary dst negate of) = one_same (Within Int) of
  types_same (Binary dst op l r) = binary_same op l r
  types_same (Concat dst l r) = λ i. one_same Joinable l i ++ one_same Joinable r i
  types_same (SameRef dst equal l r) = λ i. one_same Reference l i ++ one_same Reference r i
  types_same (FieldRead dst object field) = λ i. one_same (object_same field.0 i) object i
  types_same (FieldWrite object field value) = λ i. one_same (object_same field.0 i) object i ++ one_same (Within (base_same field.0 i)) value i
  types_same (StaticRead dst field) = refl
  types_same (StaticWrite field value) = λ i. one_same (Within (base_same field.0 i)) value i
  types_same (ElemRead dst array index) = λ i. one_same Elements array i ++ one_same (Within Int) index i
  types_same (ElemWrite array index value) = λ i. one_same Elements array i ++ one_same (Within Int) index i ++ one_same (Within (elem_base (reg_same array.reg.0 i))) value i
  types_same (ArrayLen dst array) = one_same Elements array
  types_same (NewArray dst base count) = one_same (Within Int) count
  types_same (ArrayOf dst base values) = all_same (Within (elem_base base)) values
  types_same (New dst ctor args) = λ i. arguments_same (params_same ctor.0 i) args i
  types_same (CtorCall ctor args own) = λ i. arguments_same (params_same ctor.0 i) args i
  types_same (Call dst method receiver direct args) = λ i. optional_same (receiver_same method.0 i) receiver i ++ arguments_same (params_same method.0 i) args i
  types_same (StrOp dst op of other) = λ i. one_same (Within string_base) of i ++ optional_same Reference other i
  types_same (Print of) = one_same Printable of
  types_same (Cast dst of class) = one_same Reference of
  types_same (TestInst of class origin at_yes at_no) = one_same Reference of
  types_same (TestNull of origin at_null at_value) = one_same Reference of
  types_same (Branch of at_yes at_no) = one_same (Within BoolBase) of
  types_same (Goto to) = refl
  types_same (Return value) = λ i. optional_same (returned_same i) value i

  -- ---- rows at returns

  named_same : length (rows_with P J9 (name_of P (method_in P b))) ≡ length (rows_with Q J9 (name_of Q (method_in Q b)))
  named_same = across (method_in P b) ∙ in_same (λ m. length (rows_with Q J9 (name_of Q m))) bare_names
    where
      across : (m : Option Method) → length (rows_with P J9 (name_of P m)) ≡ length (rows_with Q J9 (name_of Q m))
      across None = refl
      across (Some m) = refl

      bare_names : (m : Option Method) → length (rows_with Q J9 (name_of Q (option_map bare_method m))) ≡ length (rows_with Q J9 (name_of Q m))
      bare_names None = refl
      bare_names (Some m) = refl

  results_same : (k : PointKind) → length (result_rows P b k) ≡ length (result_rows Q b k)
  results_same (Const dst value) = refl
  results_same (Move dst from bound) = refl
  results_same (Unary dst negate of) = refl
  results_same (Binary dst op l r) = refl
  results_same (Concat dst l r) = refl
  results_same (SameRef dst equal l r) = refl
  results_same (FieldRead dst object field) = refl
  results_same (FieldWrite object field value) = refl
  results_same (StaticRead dst field) = refl
  results_same (StaticWrite field value) = refl
  results_same (ElemRead dst array index) = refl
  results_same (ElemWrite array index value) = refl
  results_same (ArrayLen dst array) = refl
  results_same (NewArray dst base count) = refl
  results_same (ArrayOf dst base values) = refl
  results_same (New dst ctor args) = refl
  results_same (CtorCall ctor args own) = refl
  results_same (Call dst method receiver direct args) = refl
  results_same (StrOp dst op of other) = refl
  results_same (Print of) = refl
  results_same (Cast dst of class) = refl
  results_same (TestInst of class origin at_yes at_no) = refl
  results_same (TestNull of origin at_null at_value) = refl
  results_same (Branch of at_yes at_no) = refl
  results_same (Goto to) = refl
  results_same (Return None) = (λ i. length (cond (is_void (result_same i)) [] (rows_with P J9 (name_of P (method_in P b))))) ∙ as_many (rows_with P J9 (name_of P (method_in P b))) (rows_with Q J9 (name_of Q (method_in Q b))) (is_void (result_base_of (method_in Q b))) named_same
  results_same (Return (Some value)) = λ i. length {A = Row} (cond (is_void (result_same i)) (record { span = value.span; code = J9 } ∷ []) [])

  -- ---- paths

  path_same : (qs : List ℕ) (p : ℕ) → Path P b qs p → Path Q b qs p
  path_same [] p e = e
  path_same (q ∷ qs) p e = (record { pt = e.0.pt; there = sym (there_same q) ∙ e.0.there; leads = e.0.leads }, path_same qs q e.1)

  avoids_same : (r : ℕ) (qs : List ℕ) → Avoids P b r qs → Avoids Q b r qs
  avoids_same r [] e = tt
  avoids_same r (q ∷ qs) e = ((λ pt there. e.0 pt (there_same q ∙ there)), avoids_same r qs e.1)

  reached_same : (p : ℕ) → Reached P b p → Reached Q b p
  reached_same p e = record { past = e.past; path = path_same e.past p e.path }

  lacks_same : (r p : ℕ) → Lacks P b r p → Lacks Q b r p
  lacks_same r p e = record { past = e.past; path = path_same e.past p e.path; avoids = avoids_same r e.past e.avoids }

  unassigned_same : (p : ℕ) (a : Operand) → IsUnassigned P b p a → IsUnassigned Q b p a
  unassigned_same p a e = record { valued = (λ i. is_void (sym (reg_same a.reg.0) i)) ∙ e.valued; local = subst (λ n. n ≤ a.reg.0) given_same e.local; lacks = lacks_same a.reg.0 p e.lacks }

  -- a body has no row where the other program has none
  pub no_rows : (row : Row) → NoBaseRows Q → BodyRow P b row → ⊥
  no_rows row none (inl (k, lt, e)) = none row (inl (record { b = b; p = k; pt = e.pt; there = sym (there_same k) ∙ e.there; broken = subst (λ rows. Contains rows row) (types_same e.pt.kind) e.broken }))
  no_rows row none (inr (inl (k, lt, e))) = none row (inr (inl (record { b = b; p = k; pt = e.pt; operand = e.operand; there = sym (there_same k) ∙ e.there; read = e.read; unassigned = unassigned_same k e.operand e.unassigned; is = e.is })))
  no_rows row none (inr (inr (k, lt, e))) =
      let other = held (result_rows P b e.pt.kind) (result_rows Q b e.pt.kind) row (results_same e.pt.kind) e.broken in
      none other.0 (inr (inr (record { b = b; p = k; pt = e.pt; there = sym (there_same k) ∙ e.there; reached = reached_same k e.reached; broken = other.1 })))
