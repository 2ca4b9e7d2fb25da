-- The rows and the type of each form that has a list of expressions or more than one step, of those of its parts.
use Rattle.std.proofs.Common.{◌≡◌, ℕ, length, append-nil, suc, zero, Bool, true, false, cond, not, ◌&&◌, ◌||◌, eqb, List, [], ◌++◌, Option, Some, None, Box, Vec, Global, refl, sym, ap, ◌∙◌, subst}
use Rattle.jn_base.specs.declared.code.Code.TheVariants.{J1, J5}
use Rattle.jn_base.specs.declared.place.Row.{Row}
use Rattle.jn_base.specs.declared.place.Span.{Span}
use Rattle.jn_trees.specs.declared.expression.Annotation.{Annotation}
use Rattle.jn_trees.specs.declared.expression.ElementType.{ElementType}
use Rattle.jn_trees.specs.declared.expression.BinaryOperator.{BinaryOperator}
use Rattle.jn_trees.specs.declared.expression.Identifier.{Identifier}
use Rattle.jn_trees.specs.declared.expression.Expr.{Expr}
use Rattle.jn_trees.specs.declared.expression.Expr.TheVariants.{Field, Call, OwnCall, SuperCall, Binary, New, ArrayOf}
use Rattle.jn_points.specs.declared.point.BaseType.{BaseType}
use Rattle.jn_points.specs.declared.point.BaseType.TheVariants.{Int, Bool as BoolBase, Void, Null, Ref, Array}
use Rattle.jn_points.specs.declared.point.StrOperation.TheVariants.{Length, IsEmpty, Equals}
use Rattle.jn_points.specs.declared.program.Program.{Program}
use Rattle.jn_points.specs.Members.{method_of}
use Rattle.jn_known.specs.Known.{equals_name, is_empty_name, is_object_member, length_name}
use Rattle.jn_places.specs.Placed.{PlacedTree, PlacedCall}
use Rattle.jn_places.specs.PlacedView.{placed_view, placed_views}
use Rattle.jn_lowering.specs.Annotations.{row, unless, when}
use Rattle.jn_lowering.specs.Bases.{access_type, array_type, binary_type, callee_type, operator_of, ref, result_type}
use Rattle.jn_lowering.specs.Expressions.{is_null}
use Rattle.jn_lowering.specs.ExpressionRows as spec
use Rattle.jn_lowering.specs.Scopes.{Access, access_by, Callee, Println, OfText, ClassMethod, ObjectMethod, NoMethod, Meaning, LocalMeant, FieldMeant, ClassMeant, SystemMeant, NothingMeant, callee, callee_by, callee_of, class_callee, class_named, count, object_callee, or_zero, super_method, text_callee}
use Rattle.jn_scopes.specs.declared.context.Context.{Context}
use Rattle.jn_scopes.specs.Views.{meaning_of, scope_in, type_in}
use Rattle.jn_scopes.proofs.Seen.{seen_call, seen_own_call, seen_super_call, seen_new, seen_array_of}
use Rattle.jn_lower_rows.specs.declared.receivers.Before as receivers
use Rattle.jn_lower_rows.specs.declared.setting.Setting.{Setting}
use Rattle.jn_lower_rows.specs.Views.{all_in, assigned_in, rows_in, setting_of}
use Rattle.jn_lower_rows.specs.Before.{IsBefore, access_in, accessed_rows, argument_rows, base_before, before_in, field_behind, is_clean, method_behind, prints_in, rows_before}
use Rattle.jn_lower_rows.proofs.Adding.{counted, three, two, unless_both, unless_clean}
use Rattle.jn_lower_rows.proofs.Behind.{field_parts, method_parts, same_access, same_callee}

-- a callee that isn't `println`
abbrev IsMember : Callee → Type 0
IsMember Println = ⊥
IsMember k = Unit {0}

class_member : (o : Option ℕ) → IsMember (class_callee o)
class_member None = tt
class_member (Some m) = tt

object_member : (o : Option ℕ) → IsMember (object_callee o)
object_member None = tt
object_member (Some m) = tt

text_member : (n arity : ℕ) → IsMember (text_callee n arity)
text_member n zero = by (eqb n length_name) (eqb n is_empty_name)
  where
    by : (a b : Bool) → IsMember (cond a (OfText Length) (cond b (OfText IsEmpty) NoMethod))
    by true b = tt
    by false true = tt
    by false false = tt
text_member n (suc zero) = by (eqb n equals_name)
  where
    by : (a : Bool) → IsMember (cond a (OfText Equals) NoMethod)
    by true = tt
    by false = tt
text_member n (suc (suc more)) = tt

value_member : (P : Program) (base : BaseType) (n arity : ℕ) → IsMember (callee_of P base n arity)
value_member P (Ref k) n arity = by (eqb k.0 1)
  where
    by : (b : Bool) → IsMember (cond b (text_callee n arity) (object_callee (method_of P k.0 n arity)))
    by true = text_member n arity
    by false = object_member (method_of P k.0 n arity)
value_member P Int n arity = tt
value_member P BoolBase n arity = tt
value_member P Void n arity = tt
value_member P Null n arity = tt
value_member P (Array e nullable) n arity = tt

by_member : (P : Program) (m : Meaning) (base : BaseType) (n arity : ℕ) → IsMember (callee_by P m base n arity)
by_member P (ClassMeant k) base n arity = class_member (method_of P k n arity)
by_member P SystemMeant base n arity = tt
by_member P (LocalMeant l) base n arity = value_member P base n arity
by_member P (FieldMeant f) base n arity = value_member P base n arity
by_member P NothingMeant base n arity = value_member P base n arity

member_rows : (P : Program) (c : ℕ) (k : Callee) (m : Meaning) (base : BaseType) (rows args : List Row) (n arity : ℕ) (span : Span) → IsMember k → spec.dotted_call_rows P c k m base rows args n arity span ≡ spec.call_rows P c m base rows args n arity span
member_rows P c Println m base rows args n arity span h = absurd h
member_rows P c (OfText op) m base rows args n arity span h = refl
member_rows P c (ClassMethod x) m base rows args n arity span h = refl
member_rows P c (ObjectMethod x) m base rows args n arity span h = refl
member_rows P c NoMethod m base rows args n arity span h = refl

module _ (c : Context) (at : Setting) where
  abbrev P : Program
  P = c.program.now

  -- what is looked at has the type and adds the rows of the tree
  abbrev pub Looks : PlacedTree → BaseType → List Row → List Row → Type 0
  Looks e base old new = (base ≡ type_in c e) × (new ≡ old ++ rows_in c at e)

  abbrev member : ℕ → Span → List Row → List Row
  member n span rows = cond (is_object_member n) (row J5 span) rows

  pub own_looks : (e : Expr) (n : Identifier) (v : Vec Expr Global) (s : Span) (es : List Expr) (k : ℕ) (base : BaseType) (old r1 r2 : List Row) → e ≡ OwnCall n v s → es ≡ v.items → k ≡ count (placed_views es) →
      base ≡ result_type P (method_of P c.class.0 n.name.0 k) → r1 ≡ old ++ all_in c at (placed_views es) → r2 ≡ r1 ++ member n.name.0 n.span (spec.own_method_rows P (setting_of at) (method_of P c.class.0 n.name.0 k) n.span) → Looks (placed_view e) base old r2
  own_looks e n v s es k base old r1 r2 is b ke t f g = subst (λ x. Looks x base old r2) (sym (seen_own_call e n v s es is b)) (
    t ∙ ap (λ k. result_type P (method_of P c.class.0 n.name.0 k)) ke,
    two old (all_in c at (placed_views es)) (member n.name.0 n.span (spec.own_method_rows P (setting_of at) (method_of P c.class.0 n.name.0 (count (placed_views es))) n.span)) r1 r2 f (g ∙ ap (λ k. r1 ++ member n.name.0 n.span (spec.own_method_rows P (setting_of at) (method_of P c.class.0 n.name.0 k) n.span)) ke),
  )

  pub super_looks : (e : Expr) (n : Identifier) (v : Vec Expr Global) (s : Span) (es : List Expr) (k : ℕ) (base : BaseType) (old r1 r2 r3 : List Row) → e ≡ SuperCall n v s → es ≡ v.items → k ≡ count (placed_views es) →
      base ≡ result_type P (super_method P c.class.0 n.name.0 k) → r1 ≡ old ++ when (not at.this_stands) (row J1 s) → r2 ≡ r1 ++ all_in c at (placed_views es) →
      r3 ≡ r2 ++ member n.name.0 n.span (when at.this_stands (spec.super_method_rows P c.class.0 (super_method P c.class.0 n.name.0 k) n.span)) → Looks (placed_view e) base old r3
  super_looks e n v s es k base old r1 r2 r3 is b ke t f g h = subst (λ x. Looks x base old r3) (sym (seen_super_call e n v s es is b)) (
    t ∙ ap (λ k. result_type P (super_method P c.class.0 n.name.0 k)) ke,
    three old (when (not at.this_stands) (row J1 s)) (all_in c at (placed_views es)) (member n.name.0 n.span (when at.this_stands (spec.super_method_rows P c.class.0 (super_method P c.class.0 n.name.0 (count (placed_views es))) n.span))) r1 r2 r3 f g
        (h ∙ ap (λ k. r2 ++ member n.name.0 n.span (when at.this_stands (spec.super_method_rows P c.class.0 (super_method P c.class.0 n.name.0 k) n.span))) ke),
  )

  pub new_looks : (e : Expr) (n : Identifier) (v : Vec Expr Global) (s : Span) (es : List Expr) (k : ℕ) (base : BaseType) (old r1 r2 : List Row) → e ≡ New n v s → es ≡ v.items → k ≡ count (placed_views es) →
      base ≡ ref (or_zero (class_named P n.name.0)) → r1 ≡ old ++ all_in c at (placed_views es) → r2 ≡ r1 ++ spec.new_rows P c.class.0 (class_named P n.name.0) k n.span → Looks (placed_view e) base old r2
  new_looks e n v s es k base old r1 r2 is b ke t f g = subst (λ x. Looks x base old r2) (sym (seen_new e n v s es is b))
      (t, two old (all_in c at (placed_views es)) (spec.new_rows P c.class.0 (class_named P n.name.0) (count (placed_views es)) n.span) r1 r2 f (g ∙ ap (λ k. r1 ++ spec.new_rows P c.class.0 (class_named P n.name.0) k n.span) ke))

  pub argument_looks : (e : Expr) (p : Box Expr Global) (n : Identifier) (v : Vec Expr Global) (s : Span) (es : List Expr) (old new : List Row) → e ≡ Call p n v s → es ≡ v.items → new ≡ old ++ all_in c at (placed_views es) → new ≡ old ++ argument_rows c at (placed_view e)
  argument_looks e p n v s es old new is b h = h ∙ sym (ap (λ x. old ++ argument_rows c at x) (seen_call e p n v s es is b))

  pub array_looks : (e : Expr) (w : Box ElementType Global) (v : Vec Expr Global) (s : Span) (es : List Expr) (notes : List Annotation) (base : BaseType) (old r1 r2 : List Row) → e ≡ ArrayOf w v s → es ≡ v.items → notes ≡ w.value.annotations.items →
      base ≡ array_type P w.value.base notes → r1 ≡ old ++ spec.array_rows P w.value.base notes → r2 ≡ r1 ++ all_in c at (placed_views es) → Looks (placed_view e) base old r2
  array_looks e w v s es notes base old r1 r2 is q ne t f g = subst (λ x. Looks x base old r2) (sym (seen_array_of e w v s es is q))
      (t ∙ ap (array_type P w.value.base) ne, two old (spec.array_rows P w.value.base w.value.annotations.items) (all_in c at (placed_views es)) r1 r2 (f ∙ ap (λ a. old ++ spec.array_rows P w.value.base a) ne) g)

  -- calls with a dot

  abbrev tree_type : PlacedTree → Identifier → ℕ → BaseType
  tree_type e n k = callee_type P (callee P c.class.0 (scope_in c) e (type_in c e) n.name.0 k)

  abbrev tree_rows : PlacedTree → Identifier → ℕ → List Row → List Row
  tree_rows e n k args = spec.dotted_call_rows P c.class.0 (callee P c.class.0 (scope_in c) e (type_in c e) n.name.0 k) (before_in c e) (type_in c e) (rows_in c at e) args n.name.0 k n.span

  abbrev prints : PlacedTree → Identifier → ℕ → Bool
  prints e n k = prints_in c e n k

  abbrev named : Bool → PlacedTree → Identifier → ℕ → Callee
  named b e n k = cond b Println (callee_by P (before_in c e) (type_in c e) n.name.0 k)

  seen_dotted : (e t : Expr) (p : Box Expr Global) (n : Identifier) (v : Vec Expr Global) (s : Span) (es : List Expr) → e ≡ Call p n v s → t ≡ p.value → es ≡ v.items → placed_view e ≡ PlacedCall (placed_view t) n (placed_views es) s
  seen_dotted e t p n v s es is te b = seen_call e p n v s es is b ∙ ap (λ x. PlacedCall (placed_view x) n (placed_views es) s) (sym te)

  pub print_looks : (e t : Expr) (p : Box Expr Global) (n : Identifier) (v : Vec Expr Global) (s : Span) (es : List Expr) (k : ℕ) (old r1 : List Row) → e ≡ Call p n v s → t ≡ p.value → es ≡ v.items → k ≡ count (placed_views es) →
      prints (placed_view t) n k ≡ true → r1 ≡ old ++ all_in c at (placed_views es) → Looks (placed_view e) Void old r1
  print_looks e t p n v s es k old r1 is te b ke q f = subst (λ x. Looks x Void old r1) (sym (seen_dotted e t p n v s es is te b)) (
    subst (λ k. Void ≡ tree_type (placed_view t) n k) ke (ap (λ b. callee_type P (named b (placed_view t) n k)) (sym q)),
    f ∙ ap (λ x. old ++ x) (subst (λ k. all_in c at (placed_views es) ≡ tree_rows (placed_view t) n k (all_in c at (placed_views es))) ke
        (ap (λ b. spec.dotted_call_rows P c.class.0 (named b (placed_view t) n k) (before_in c (placed_view t)) (type_in c (placed_view t)) (rows_in c at (placed_view t)) (all_in c at (placed_views es)) n.name.0 k n.span) (sym q))),
  )

  pub call_looks : (e t : Expr) (p : Box Expr Global) (n : Identifier) (v : Vec Expr Global) (s : Span) (es : List Expr) (k : ℕ) (m : Meaning) (base : BaseType) (clean : Bool) (given : BaseType) (old r1 r2 r3 : List Row) → e ≡ Call p n v s → t ≡ p.value → es ≡ v.items → k ≡ count (placed_views es) →
      prints (placed_view t) n k ≡ false → m ≡ before_in c (placed_view t) → base ≡ base_before (before_in c (placed_view t)) (type_in c (placed_view t)) → clean ≡ is_clean (rows_before (before_in c (placed_view t)) (rows_in c at (placed_view t))) →
      r1 ≡ old ++ rows_before (before_in c (placed_view t)) (rows_in c at (placed_view t)) → r2 ≡ r1 ++ all_in c at (placed_views es) → r3 ≡ r2 ++ method_behind P c.class.0 m base clean n.name.0 k n.span →
      given ≡ callee_type P (callee_by P m base n.name.0 k) → Looks (placed_view e) given old r3
  call_looks e t p n v s es k m base clean given old r1 r2 r3 is te b ke q me be ce f g h ty = subst (λ x. Looks x given old r3) (sym (seen_dotted e t p n v s es is te b)) (
    ty ∙ ap (λ m. callee_type P (callee_by P m base n.name.0 k)) me ∙ ap (λ b. callee_type P (callee_by P B b n.name.0 k)) be ∙ ap (callee_type P) (same_callee P B T n.name.0 k) ∙ ap (λ b. callee_type P (named b x n k)) (sym q) ∙ ap (λ k. tree_type x n k) ke,
    three old (rows_before B R) A (method_behind P c.class.0 m base clean n.name.0 k n.span) r1 r2 r3 f g h ∙ ap (λ y. old ++ y) rows,
  )
    where
      x : PlacedTree
      x = placed_view t

      B : Meaning
      B = before_in c (placed_view t)

      T : BaseType
      T = type_in c (placed_view t)

      R : List Row
      R = rows_in c at (placed_view t)

      A : List Row
      A = all_in c at (placed_views es)

      behind : method_behind P c.class.0 m base clean n.name.0 k n.span ≡ method_behind P c.class.0 B (base_before B T) (is_clean (rows_before B R)) n.name.0 k n.span
      behind = ap (λ m. method_behind P c.class.0 m base clean n.name.0 k n.span) me ∙ ap (λ b. method_behind P c.class.0 B b clean n.name.0 k n.span) be ∙ ap (λ d. method_behind P c.class.0 B (base_before B T) d n.name.0 k n.span) ce

      whole : spec.call_rows P c.class.0 B T R A n.name.0 k n.span ≡ tree_rows x n k A
      whole = sym (member_rows P c.class.0 (callee_by P B T n.name.0 k) B T R A n.name.0 k n.span (by_member P B T n.name.0 k)) ∙ ap (λ b. spec.dotted_call_rows P c.class.0 (named b x n k) B T R A n.name.0 k n.span) (sym q)

      rows : rows_before B R ++ (A ++ method_behind P c.class.0 m base clean n.name.0 k n.span) ≡ tree_rows x n (count (placed_views es)) A
      rows = ap (λ y. rows_before B R ++ (A ++ y)) behind ∙ sym (method_parts P c.class.0 B T R A n.name.0 k n.span) ∙ whole ∙ ap (λ k. tree_rows x n k A) ke

  -- a call with a dot, whether it prints or not
  pub dotted_looks : (e t : Expr) (p : Box Expr Global) (n : Identifier) (v : Vec Expr Global) (s : Span) (es : List Expr) (k : ℕ) (b : receivers.Before) (given : BaseType) (old r1 r2 r3 : List Row) → e ≡ Call p n v s → t ≡ p.value → es ≡ v.items → k ≡ count (placed_views es) →
      IsBefore c at (prints (placed_view t) n (count (placed_views es))) (placed_view t) b old r1 → r2 ≡ r1 ++ argument_rows c at (placed_view e) → r3 ≡ r2 ++ cond b.prints [] (method_behind P c.class.0 (meaning_of c.faults.now b.meaning) b.base b.clean n.name.0 k n.span) →
      given ≡ cond b.prints Void (callee_type P (callee_by P (meaning_of c.faults.now b.meaning) b.base n.name.0 k)) → Looks (placed_view e) given old r3
  dotted_looks e t p n v s es k b given old r1 r2 r3 is te be ke h given_rows f ty = by (prints (placed_view t) n (count (placed_views es))) refl h
    where
      g : r2 ≡ r1 ++ all_in c at (placed_views es)
      g = given_rows ∙ ap (λ x. r1 ++ argument_rows c at x) (seen_dotted e t p n v s es is te be)

      by : (q : Bool) → prints (placed_view t) n (count (placed_views es)) ≡ q → IsBefore c at q (placed_view t) b old r1 → Looks (placed_view e) given old r3
      by true q h =
          let none : r3 ≡ r2 = f ∙ ap (λ z. r2 ++ cond z [] (method_behind P c.class.0 (meaning_of c.faults.now b.meaning) b.base b.clean n.name.0 k n.span)) h.is_print ∙ append-nil r2 in
          let start : r1 ≡ old = h.adds ∙ append-nil old in
          let void : given ≡ Void = ty ∙ ap (λ z. cond z Void (callee_type P (callee_by P (meaning_of c.faults.now b.meaning) b.base n.name.0 k))) h.is_print in
          subst (λ z. Looks (placed_view e) z old r3) (sym void) (print_looks e t p n v s es (count (placed_views es)) old r3 is te be refl q (none ∙ g ∙ ap (λ z. z ++ all_in c at (placed_views es)) start))
      by false q h = call_looks e t p n v s es k (meaning_of c.faults.now b.meaning) b.base b.clean given old r1 r2 r3 is te be ke (ap (prints (placed_view t) n) ke ∙ q) h.means h.has_base h.has_none h.adds g
          (f ∙ ap (λ z. r2 ++ cond z [] (method_behind P c.class.0 (meaning_of c.faults.now b.meaning) b.base b.clean n.name.0 k n.span)) h.is_print)
          (ty ∙ ap (λ z. cond z Void (callee_type P (callee_by P (meaning_of c.faults.now b.meaning) b.base n.name.0 k))) h.is_print)

  -- a field after a dot

  pub field_found : (t : Expr) (n : Identifier) (b : receivers.Before) (a : Access) (clean : Bool) (old r1 r2 : List Row) → IsBefore c at false (placed_view t) b old r1 → r2 ≡ r1 ++ field_behind P c.class.0 (meaning_of c.faults.now b.meaning) b.base b.clean n.name.0 n.span →
      a ≡ access_by P (meaning_of c.faults.now b.meaning) b.base n.name.0 → clean ≡ eqb (length r2) (length old) → (a ≡ access_in c (placed_view t) n) × (clean ≡ is_clean (accessed_rows c at (placed_view t) n)) × (r2 ≡ old ++ accessed_rows c at (placed_view t) n)
  field_found t n b a clean old r1 r2 h f ae ce = (ae ∙ ap (λ m. access_by P m b.base n.name.0) h.means ∙ ap (λ z. access_by P B z n.name.0) h.has_base ∙ same_access P B T n.name.0, ce ∙ counted old (accessed_rows c at (placed_view t) n) r2 whole, whole)
    where
      B : Meaning
      B = before_in c (placed_view t)

      T : BaseType
      T = type_in c (placed_view t)

      R : List Row
      R = rows_in c at (placed_view t)

      behind : field_behind P c.class.0 (meaning_of c.faults.now b.meaning) b.base b.clean n.name.0 n.span ≡ field_behind P c.class.0 B (base_before B T) (is_clean (rows_before B R)) n.name.0 n.span
      behind = ap (λ m. field_behind P c.class.0 m b.base b.clean n.name.0 n.span) h.means ∙ ap (λ z. field_behind P c.class.0 B z b.clean n.name.0 n.span) h.has_base ∙ ap (λ d. field_behind P c.class.0 B (base_before B T) d n.name.0 n.span) h.has_none

      whole : r2 ≡ old ++ accessed_rows c at (placed_view t) n
      whole = two old (rows_before B R) (field_behind P c.class.0 B (base_before B T) (is_clean (rows_before B R)) n.name.0 n.span) r1 r2 h.adds (f ∙ ap (λ z. r1 ++ z) behind) ∙ ap (λ z. old ++ z) (sym (field_parts P c.class.0 B T R n.name.0 n.span))

  pub assigned_field : (e t : Expr) (p : Box Expr Global) (n : Identifier) (s : Span) (a : Access) (clean : Bool) (given : BaseType) (old r1 r2 : List Row) → e ≡ Field p n s → t ≡ p.value → a ≡ access_in c (placed_view t) n → clean ≡ is_clean (accessed_rows c at (placed_view t) n) → r1 ≡ old ++ accessed_rows c at (placed_view t) n →
      r2 ≡ r1 ++ cond clean (spec.assigned_access_rows P c.class.0 (setting_of at) a (spec.is_this (placed_view t)) s) [] → given ≡ access_type P a → (given ≡ type_in c (placed_view e)) × (r2 ≡ old ++ assigned_in c at (placed_view e))
  assigned_field e t p n s a clean given old r1 r2 is te ae ce f g ty = subst (λ e. (given ≡ type_in c (placed_view e)) × (r2 ≡ old ++ assigned_in c at (placed_view e))) (sym is)
      (subst (λ x. (given ≡ access_type P (access_in c (placed_view x) n)) × (r2 ≡ old ++ (accessed_rows c at (placed_view x) n ++ unless (accessed_rows c at (placed_view x) n) (spec.assigned_access_rows P c.class.0 (setting_of at) (access_in c (placed_view x) n) (spec.is_this (placed_view x)) s)))) te (
        ty ∙ ap (access_type P) ae,
        two old W (cond clean (spec.assigned_access_rows P c.class.0 (setting_of at) a (spec.is_this (placed_view t)) s) []) r1 r2 f g
            ∙ ap (λ z. old ++ (W ++ z)) (ap (λ z. cond z (spec.assigned_access_rows P c.class.0 (setting_of at) a (spec.is_this (placed_view t)) s) []) ce ∙ ap (λ z. cond (is_clean W) (spec.assigned_access_rows P c.class.0 (setting_of at) z (spec.is_this (placed_view t)) s) []) ae ∙ sym (unless_clean W (spec.assigned_access_rows P c.class.0 (setting_of at) (access_in c (placed_view t) n) (spec.is_this (placed_view t)) s))),
      ))
    where
      W : List Row
      W = accessed_rows c at (placed_view t) n

  -- an operator between two sides

  pub binary_looks : (e l r : Expr) (p : Box Expr Global) (o : BinaryOperator) (q : Box Expr Global) (s : Span) (null d1 d2 : Bool) (b1 b2 given : BaseType) (old r1 r2 r3 : List Row) → e ≡ Binary p o q s → l ≡ p.value → r ≡ q.value → null ≡ (is_null (placed_view l) || is_null (placed_view r)) →
      b1 ≡ type_in c (placed_view l) → d1 ≡ is_clean (rows_in c at (placed_view l)) → r1 ≡ old ++ rows_in c at (placed_view l) → b2 ≡ type_in c (placed_view r) → d2 ≡ is_clean (rows_in c at (placed_view r)) → r2 ≡ r1 ++ rows_in c at (placed_view r) →
      r3 ≡ r2 ++ cond (d1 && d2) (spec.equality_rows P o null b1 b2 s) [] → given ≡ binary_type (operator_of o) b1 b2 → Looks (placed_view e) given old r3
  binary_looks e l r p o q s null d1 d2 b1 b2 given old r1 r2 r3 is le re ne t1 c1 f t2 c2 g h ty = subst (λ e. Looks (placed_view e) given old r3) (sym is)
      (subst (λ x. (given ≡ binary_type (operator_of o) (type_in c (placed_view x)) (type_in c (placed_view q.value))) × (r3 ≡ old ++ (rows_in c at (placed_view x) ++ (rows_in c at (placed_view q.value) ++ unless (rows_in c at (placed_view x) ++ rows_in c at (placed_view q.value)) (spec.equality_rows P o (is_null (placed_view x) || is_null (placed_view q.value)) (type_in c (placed_view x)) (type_in c (placed_view q.value)) s))))) le
      (subst (λ y. (given ≡ binary_type (operator_of o) (type_in c (placed_view l)) (type_in c (placed_view y))) × (r3 ≡ old ++ (rows_in c at (placed_view l) ++ (rows_in c at (placed_view y) ++ unless (rows_in c at (placed_view l) ++ rows_in c at (placed_view y)) (spec.equality_rows P o (is_null (placed_view l) || is_null (placed_view y)) (type_in c (placed_view l)) (type_in c (placed_view y)) s))))) re (
        ty ∙ ap (λ b. binary_type (operator_of o) b b2) t1 ∙ ap (λ b. binary_type (operator_of o) (type_in c (placed_view l)) b) t2,
        three old A B (cond (d1 && d2) (spec.equality_rows P o null b1 b2 s) []) r1 r2 r3 f g h ∙ ap (λ z. old ++ (A ++ (B ++ z))) last,
      )))
    where
      A : List Row
      A = rows_in c at (placed_view l)

      B : List Row
      B = rows_in c at (placed_view r)

      last : cond (d1 && d2) (spec.equality_rows P o null b1 b2 s) [] ≡ unless (A ++ B) (spec.equality_rows P o (is_null (placed_view l) || is_null (placed_view r)) (type_in c (placed_view l)) (type_in c (placed_view r)) s)
      last = ap (λ z. cond (z && d2) (spec.equality_rows P o null b1 b2 s) []) c1 ∙ ap (λ z. cond (is_clean A && z) (spec.equality_rows P o null b1 b2 s) []) c2
          ∙ ap (λ z. cond (is_clean A && is_clean B) (spec.equality_rows P o z b1 b2 s) []) ne ∙ ap (λ z. cond (is_clean A && is_clean B) (spec.equality_rows P o (is_null (placed_view l) || is_null (placed_view r)) z b2 s) []) t1
          ∙ ap (λ z. cond (is_clean A && is_clean B) (spec.equality_rows P o (is_null (placed_view l) || is_null (placed_view r)) (type_in c (placed_view l)) z s) []) t2
          ∙ sym (unless_both A B (spec.equality_rows P o (is_null (placed_view l) || is_null (placed_view r)) (type_in c (placed_view l)) (type_in c (placed_view r)) s))
