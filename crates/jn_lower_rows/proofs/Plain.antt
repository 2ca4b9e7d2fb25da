-- Types and rows don't depend on registers and bounds of locals.
use Rattle.std.proofs.Common.{◌≡◌, ℕ, Bool, true, false, cond, not, ◌&&◌, ◌||◌, eqb, List, [], ◌∷◌, ◌++◌, Option, Some, None, refl, ap, ◌∙◌}
use Rattle.jn_base.specs.declared.code.Code.TheVariants.{J1, J5}
use Rattle.jn_base.specs.declared.place.Row.{Row}
use Rattle.jn_base.specs.declared.place.Span.{Span}
use Rattle.jn_points.specs.declared.point.BaseType.{BaseType}
use Rattle.jn_points.specs.declared.program.Program.{Program}
use Rattle.jn_points.specs.Lookup.{elem_base}
use Rattle.jn_points.specs.Members.{field_of, method_of}
use Rattle.jn_known.specs.Known.{is_object_member, out_name, println_name, system_name}
use Rattle.jn_places.specs.Placed.{PlacedTree, PlacedTrees, NoPlacedTrees, MorePlacedTrees, PlacedLiteral, PlacedName, PlacedThis, PlacedParen, PlacedField, PlacedCall, PlacedOwnCall, PlacedSuperCall, PlacedIndex, PlacedNew, PlacedNewArray, PlacedArrayOf, PlacedPostfix, PlacedPrefix, PlacedUnary, PlacedCast, PlacedBinary, PlacedInstanceOf, PlacedConditional, PlacedAssign}
use Rattle.jn_lowering.specs.Annotations.{known_class, row, unless, when}
use Rattle.jn_lowering.specs.Bases.{access_type, assign_type, binary_type, callee_type, is_local, is_local_meaning, meaning_type, operator_of, type_of, wider}
use Rattle.jn_lowering.specs.Expressions.{is_null}
use Rattle.jn_lowering.specs.ExpressionRows as spec
use Rattle.jn_lowering.specs.Scopes.{Callee, Println, OfText, ClassMethod, ObjectMethod, NoMethod, Local, Scope, Meaning, LocalMeant, FieldMeant, ClassMeant, SystemMeant, NothingMeant, access, access_by, before_dot, callee, callee_by, class_named, class_or_system, count, field_or_class, is_output, is_system, local_in, local_or_field, meaning, super_method}
use Rattle.jn_lower_rows.specs.Standing.{plain, plain_local}

abbrev pub plain_option : Option Local → Option Local
plain_option None = None
plain_option (Some l) = Some (plain_local l)

pub plain_in : (s : Scope) (n : ℕ) → local_in (plain s) n ≡ plain_option (local_in s n)
plain_in [] n = refl
plain_in (l ∷ ls) n = by (eqb l.name n) (plain_in ls n)
  where
    by : (b : Bool) → local_in (plain ls) n ≡ plain_option (local_in ls n) → cond b (Some (plain_local l)) (local_in (plain ls) n) ≡ plain_option (cond b (Some l) (local_in ls n))
    by true h = refl
    by false h = h

abbrev pub plain_meaning : Meaning → Meaning
plain_meaning (LocalMeant l) = LocalMeant (plain_local l)
plain_meaning m = m

module _ (P : Program) where
  class_plain : (o : Option ℕ) (n : ℕ) → class_or_system P o n ≡ plain_meaning (class_or_system P o n)
  class_plain (Some k) n = refl
  class_plain None n = by (eqb n system_name)
    where
      by : (b : Bool) → cond b SystemMeant NothingMeant ≡ plain_meaning (cond b SystemMeant NothingMeant)
      by true = refl
      by false = refl

  field_plain : (o : Option ℕ) (n : ℕ) → field_or_class P o n ≡ plain_meaning (field_or_class P o n)
  field_plain (Some f) n = refl
  field_plain None n = class_plain (class_named P n) n

  plain_meant : (c : ℕ) (s : Scope) (n : ℕ) → meaning P c (plain s) n ≡ plain_meaning (meaning P c s n)
  plain_meant c s n = ap (λ o. local_or_field P c o n) (plain_in s n) ∙ by (local_in s n)
    where
      by : (o : Option Local) → local_or_field P c (plain_option o) n ≡ plain_meaning (local_or_field P c o n)
      by (Some l) = refl
      by None = field_plain (field_of P c n) n

  type_plain : (m : Meaning) → meaning_type P (plain_meaning m) ≡ meaning_type P m
  type_plain (LocalMeant l) = refl
  type_plain (FieldMeant f) = refl
  type_plain (ClassMeant k) = refl
  type_plain SystemMeant = refl
  type_plain NothingMeant = refl

  access_plain : (m : Meaning) (base : BaseType) (n : ℕ) → access_by P (plain_meaning m) base n ≡ access_by P m base n
  access_plain (LocalMeant l) base n = refl
  access_plain (FieldMeant f) base n = refl
  access_plain (ClassMeant k) base n = refl
  access_plain SystemMeant base n = refl
  access_plain NothingMeant base n = refl

  callee_plain : (m : Meaning) (base : BaseType) (n k : ℕ) → callee_by P (plain_meaning m) base n k ≡ callee_by P m base n k
  callee_plain (LocalMeant l) base n k = refl
  callee_plain (FieldMeant f) base n k = refl
  callee_plain (ClassMeant x) base n k = refl
  callee_plain SystemMeant base n k = refl
  callee_plain NothingMeant base n k = refl

  system_plain : (m : Meaning) → is_system (plain_meaning m) ≡ is_system m
  system_plain (LocalMeant l) = refl
  system_plain (FieldMeant f) = refl
  system_plain (ClassMeant k) = refl
  system_plain SystemMeant = refl
  system_plain NothingMeant = refl

  local_plain : (m : Meaning) → is_local_meaning (plain_meaning m) ≡ is_local_meaning m
  local_plain (LocalMeant l) = refl
  local_plain (FieldMeant f) = refl
  local_plain (ClassMeant k) = refl
  local_plain SystemMeant = refl
  local_plain NothingMeant = refl

  module _ (c : ℕ) where
    field_rows_plain : (m : Meaning) (base : BaseType) (rows : List Row) (n : ℕ) (span : Span) → spec.access_rows P c (plain_meaning m) base rows n span ≡ spec.access_rows P c m base rows n span
    field_rows_plain (LocalMeant l) base rows n span = refl
    field_rows_plain (FieldMeant f) base rows n span = refl
    field_rows_plain (ClassMeant k) base rows n span = refl
    field_rows_plain SystemMeant base rows n span = refl
    field_rows_plain NothingMeant base rows n span = refl

    call_rows_plain : (m : Meaning) (base : BaseType) (rows args : List Row) (n k : ℕ) (span : Span) → spec.call_rows P c (plain_meaning m) base rows args n k span ≡ spec.call_rows P c m base rows args n k span
    call_rows_plain (LocalMeant l) base rows args n k span = refl
    call_rows_plain (FieldMeant f) base rows args n k span = refl
    call_rows_plain (ClassMeant x) base rows args n k span = refl
    call_rows_plain SystemMeant base rows args n k span = refl
    call_rows_plain NothingMeant base rows args n k span = refl

    dotted_plain : (x : Callee) (m : Meaning) (base : BaseType) (rows args : List Row) (n k : ℕ) (span : Span) → spec.dotted_call_rows P c x (plain_meaning m) base rows args n k span ≡ spec.dotted_call_rows P c x m base rows args n k span
    dotted_plain Println m base rows args n k span = refl
    dotted_plain (OfText op) m base rows args n k span = call_rows_plain m base rows args n k span
    dotted_plain (ClassMethod x) m base rows args n k span = call_rows_plain m base rows args n k span
    dotted_plain (ObjectMethod x) m base rows args n k span = call_rows_plain m base rows args n k span
    dotted_plain NoMethod m base rows args n k span = call_rows_plain m base rows args n k span

    module _ (s : Scope) where
      before : (e : PlacedTree) → before_dot P c (plain s) e ≡ plain_meaning (before_dot P c s e)
      before (PlacedName n) = plain_meant c s n.name.0
      before e = refl

      output : (e : PlacedTree) → is_output P c (plain s) e ≡ is_output P c s e
      output (PlacedField (PlacedName n) field span) = ap (λ m. is_system m && eqb field.name.0 out_name) (plain_meant c s n.name.0) ∙ ap (λ b. b && eqb field.name.0 out_name) (system_plain (meaning P c s n.name.0))
      output e = refl

      accessed : (e : PlacedTree) (base : BaseType) (n : ℕ) → access P c (plain s) e base n ≡ access P c s e base n
      accessed e base n = ap (λ m. access_by P m base n) (before e) ∙ access_plain (before_dot P c s e) base n

      called : (e : PlacedTree) (base : BaseType) (n k : ℕ) → callee P c (plain s) e base n k ≡ callee P c s e base n k
      called e base n k =
          ap (λ b. cond (b && eqb n println_name && eqb k 1) Println (callee_by P (before_dot P c (plain s) e) base n k)) (output e)
          ∙ ap (λ x. cond (is_output P c s e && eqb n println_name && eqb k 1) Println x) (ap (λ m. callee_by P m base n k) (before e) ∙ callee_plain (before_dot P c s e) base n k)

      named : (e : PlacedTree) → is_local P c (plain s) e ≡ is_local P c s e
      named (PlacedName n) = ap is_local_meaning (plain_meant c s n.name.0) ∙ local_plain (meaning P c s n.name.0)
      named e = refl

      pub plain_type : (e : PlacedTree) → type_of P c (plain s) e ≡ type_of P c s e
      plain_type (PlacedLiteral l span) = refl
      plain_type (PlacedName n) = ap (meaning_type P) (plain_meant c s n.name.0) ∙ type_plain (meaning P c s n.name.0)
      plain_type (PlacedThis span) = refl
      plain_type (PlacedParen e span) = plain_type e
      plain_type (PlacedField e n span) = ap (λ t. access_type P (access P c (plain s) e t n.name.0)) (plain_type e) ∙ ap (access_type P) (accessed e (type_of P c s e) n.name.0)
      plain_type (PlacedCall e n es span) = ap (λ t. callee_type P (callee P c (plain s) e t n.name.0 (count es))) (plain_type e) ∙ ap (callee_type P) (called e (type_of P c s e) n.name.0 (count es))
      plain_type (PlacedOwnCall n es span) = refl
      plain_type (PlacedSuperCall n es span) = refl
      plain_type (PlacedIndex a i span) = ap elem_base (plain_type a)
      plain_type (PlacedNew n es span) = refl
      plain_type (PlacedNewArray annotations base size span) = refl
      plain_type (PlacedArrayOf annotations base es span) = refl
      plain_type (PlacedPostfix e step span) = plain_type e
      plain_type (PlacedPrefix step e span) = refl
      plain_type (PlacedUnary o e span) = refl
      plain_type (PlacedCast n e span) = refl
      plain_type (PlacedBinary a o b span) = ap (λ t. binary_type (operator_of o) t (type_of P c (plain s) b)) (plain_type a) ∙ ap (binary_type (operator_of o) (type_of P c s a)) (plain_type b)
      plain_type (PlacedInstanceOf e n span) = refl
      plain_type (PlacedConditional q a b span) = ap (λ t. wider P t (type_of P c (plain s) b)) (plain_type a) ∙ ap (wider P (type_of P c s a)) (plain_type b)
      plain_type (PlacedAssign target o e span) =
          ap (λ l. assign_type P c o l (type_of P c (plain s) target) (type_of P c (plain s) e)) (named target)
          ∙ ap (λ t. assign_type P c o (is_local P c s target) t (type_of P c (plain s) e)) (plain_type target)
          ∙ ap (assign_type P c o (is_local P c s target) (type_of P c s target)) (plain_type e)

      module _ (at : spec.Setting) where
        name_plain : (m : Meaning) (span : Span) → spec.name_rows P c at (plain_meaning m) span ≡ spec.name_rows P c at m span
        name_plain (LocalMeant l) span = refl
        name_plain (FieldMeant f) span = refl
        name_plain (ClassMeant k) span = refl
        name_plain SystemMeant span = refl
        name_plain NothingMeant span = refl

        assigned_plain : (m : Meaning) (span : Span) → spec.assigned_name_rows P c at (plain_meaning m) span ≡ spec.assigned_name_rows P c at m span
        assigned_plain (LocalMeant l) span = refl
        assigned_plain (FieldMeant f) span = refl
        assigned_plain (ClassMeant k) span = refl
        assigned_plain SystemMeant span = refl
        assigned_plain NothingMeant span = refl

        abbrev R : Scope → PlacedTree → List Row
        R u e = spec.rows_of P c at u e

        abbrev A : Scope → PlacedTree → List Row
        A u e = spec.assigned_rows P c at u e

        abbrev T : Scope → PlacedTree → BaseType
        T u e = type_of P c u e

        field_same : (e : PlacedTree) (n : ℕ) (span : Span) → R (plain s) e ≡ R s e → spec.access_rows P c (before_dot P c (plain s) e) (T (plain s) e) (R (plain s) e) n span ≡ spec.access_rows P c (before_dot P c s e) (T s e) (R s e) n span
        field_same e n span r =
            ap (λ m. spec.access_rows P c m (T (plain s) e) (R (plain s) e) n span) (before e)
            ∙ field_rows_plain (before_dot P c s e) (T (plain s) e) (R (plain s) e) n span
            ∙ ap (λ t. spec.access_rows P c (before_dot P c s e) t (R (plain s) e) n span) (plain_type e)
            ∙ ap (λ x. spec.access_rows P c (before_dot P c s e) (T s e) x n span) r

        index_same : (a i : PlacedTree) (span : Span) → R (plain s) a ≡ R s a → R (plain s) i ≡ R s i → spec.index_rows P c at (T (plain s) a) (R (plain s) a) (R (plain s) i) span ≡ spec.index_rows P c at (T s a) (R s a) (R s i) span
        index_same a i span ra ri =
            ap (λ t. spec.index_rows P c at t (R (plain s) a) (R (plain s) i) span) (plain_type a)
            ∙ ap (λ x. spec.index_rows P c at (T s a) x (R (plain s) i) span) ra
            ∙ ap (λ x. spec.index_rows P c at (T s a) (R s a) x span) ri

        pair_same : (xs ys xs' ys' : List Row) → xs ≡ xs' → ys ≡ ys' → xs ++ ys ≡ xs' ++ ys'
        pair_same xs ys xs' ys' e f = ap (λ x. x ++ ys) e ∙ ap (λ y. xs' ++ y) f

        binary_same : (a b : PlacedTree) (rows : BaseType → BaseType → List Row) → R (plain s) a ≡ R s a → R (plain s) b ≡ R s b →
            R (plain s) a ++ (R (plain s) b ++ unless (R (plain s) a ++ R (plain s) b) (rows (T (plain s) a) (T (plain s) b))) ≡ R s a ++ (R s b ++ unless (R s a ++ R s b) (rows (T s a) (T s b)))
        binary_same a b rows ra rb =
            ap (λ x. x ++ (R (plain s) b ++ unless (x ++ R (plain s) b) (rows (T (plain s) a) (T (plain s) b)))) ra
            ∙ ap (λ x. R s a ++ (x ++ unless (R s a ++ x) (rows (T (plain s) a) (T (plain s) b)))) rb
            ∙ ap (λ t. R s a ++ (R s b ++ unless (R s a ++ R s b) (rows t (T (plain s) b)))) (plain_type a)
            ∙ ap (λ t. R s a ++ (R s b ++ unless (R s a ++ R s b) (rows (T s a) t))) (plain_type b)

        call_same : (e : PlacedTree) (args : List Row) (n k : ℕ) (span : Span) → R (plain s) e ≡ R s e →
            spec.dotted_call_rows P c (callee P c (plain s) e (T (plain s) e) n k) (before_dot P c (plain s) e) (T (plain s) e) (R (plain s) e) args n k span
            ≡ spec.dotted_call_rows P c (callee P c s e (T s e) n k) (before_dot P c s e) (T s e) (R s e) args n k span
        call_same e args n k span r =
            ap (λ m. spec.dotted_call_rows P c (callee P c (plain s) e (T (plain s) e) n k) m (T (plain s) e) (R (plain s) e) args n k span) (before e)
            ∙ dotted_plain (callee P c (plain s) e (T (plain s) e) n k) (before_dot P c s e) (T (plain s) e) (R (plain s) e) args n k span
            ∙ ap (λ t. spec.dotted_call_rows P c (callee P c (plain s) e t n k) (before_dot P c s e) t (R (plain s) e) args n k span) (plain_type e)
            ∙ ap (λ x. spec.dotted_call_rows P c x (before_dot P c s e) (T s e) (R (plain s) e) args n k span) (called e (T s e) n k)
            ∙ ap (λ x. spec.dotted_call_rows P c (callee P c s e (T s e) n k) (before_dot P c s e) (T s e) x args n k span) r

        mutual
          pub plain_rows : (e : PlacedTree) → R (plain s) e ≡ R s e
          plain_rows (PlacedLiteral l span) = refl
          plain_rows (PlacedName n) = ap (λ m. spec.name_rows P c at m n.span) (plain_meant c s n.name.0) ∙ name_plain (meaning P c s n.name.0) n.span
          plain_rows (PlacedThis span) = refl
          plain_rows (PlacedParen e span) = plain_rows e
          plain_rows (PlacedField e n span) = field_same e n.name.0 n.span (plain_rows e)
          plain_rows (PlacedCall e n es span) =
              ap (λ x. spec.dotted_call_rows P c (callee P c (plain s) e (T (plain s) e) n.name.0 (count es)) (before_dot P c (plain s) e) (T (plain s) e) (R (plain s) e) x n.name.0 (count es) n.span) (plain_all es)
              ∙ call_same e (spec.rows_of_all P c at s es) n.name.0 (count es) n.span (plain_rows e)
          plain_rows (PlacedOwnCall n es span) = ap (λ x. x ++ cond (is_object_member n.name.0) (row J5 n.span) (spec.own_method_rows P at (method_of P c n.name.0 (count es)) n.span)) (plain_all es)
          plain_rows (PlacedSuperCall n es span) = ap (λ x. when (not at.this_stands) (row J1 span) ++ (x ++ cond (is_object_member n.name.0) (row J5 n.span) (when at.this_stands (spec.super_method_rows P c (super_method P c n.name.0 (count es)) n.span)))) (plain_all es)
          plain_rows (PlacedIndex a i span) = index_same a i (spec.inner_span a) (plain_rows a) (plain_rows i)
          plain_rows (PlacedNew n es span) = ap (λ x. x ++ spec.new_rows P c (class_named P n.name.0) (count es) n.span) (plain_all es)
          plain_rows (PlacedNewArray annotations base size span) = ap (λ x. spec.array_rows P base annotations ++ x) (plain_rows size)
          plain_rows (PlacedArrayOf annotations base es span) = ap (λ x. spec.array_rows P base annotations ++ x) (plain_all es)
          plain_rows (PlacedPostfix e step span) = plain_assigned e
          plain_rows (PlacedPrefix step e span) = plain_assigned e
          plain_rows (PlacedUnary o e span) = plain_rows e
          plain_rows (PlacedCast n e span) = ap (λ x. known_class P (class_named P n.name.0) n.span ++ x) (plain_rows e)
          plain_rows (PlacedBinary a o b span) = binary_same a b (λ x y. spec.equality_rows P o (is_null a || is_null b) x y span) (plain_rows a) (plain_rows b)
          plain_rows (PlacedInstanceOf e n span) = ap (λ x. known_class P (class_named P n.name.0) n.span ++ x) (plain_rows e)
          plain_rows (PlacedConditional q a b span) = pair_same (R (plain s) q) (R (plain s) a ++ R (plain s) b) (R s q) (R s a ++ R s b) (plain_rows q) (pair_same (R (plain s) a) (R (plain s) b) (R s a) (R s b) (plain_rows a) (plain_rows b))
          plain_rows (PlacedAssign target o e span) = pair_same (A (plain s) target) (R (plain s) e) (A s target) (R s e) (plain_assigned target) (plain_rows e)

          pub plain_assigned : (e : PlacedTree) → A (plain s) e ≡ A s e
          plain_assigned (PlacedName n) = ap (λ m. spec.assigned_name_rows P c at m n.span) (plain_meant c s n.name.0) ∙ assigned_plain (meaning P c s n.name.0) n.span
          plain_assigned (PlacedField e n span) =
              let whole : spec.access_rows P c (before_dot P c (plain s) e) (T (plain s) e) (R (plain s) e) n.name.0 n.span ≡ spec.access_rows P c (before_dot P c s e) (T s e) (R s e) n.name.0 n.span = field_same e n.name.0 n.span (plain_rows e) in
              ap (λ x. x ++ unless x (spec.assigned_access_rows P c at (access P c (plain s) e (T (plain s) e) n.name.0) (spec.is_this e) span)) whole
              ∙ ap (λ t. spec.access_rows P c (before_dot P c s e) (T s e) (R s e) n.name.0 n.span ++ unless (spec.access_rows P c (before_dot P c s e) (T s e) (R s e) n.name.0 n.span) (spec.assigned_access_rows P c at (access P c (plain s) e t n.name.0) (spec.is_this e) span)) (plain_type e)
              ∙ ap (λ a. spec.access_rows P c (before_dot P c s e) (T s e) (R s e) n.name.0 n.span ++ unless (spec.access_rows P c (before_dot P c s e) (T s e) (R s e) n.name.0 n.span) (spec.assigned_access_rows P c at a (spec.is_this e) span)) (accessed e (T s e) n.name.0)
          plain_assigned (PlacedIndex a i span) = index_same a i (spec.inner_span a) (plain_rows a) (plain_rows i)
          plain_assigned e = refl

          pub plain_all : (es : PlacedTrees) → spec.rows_of_all P c at (plain s) es ≡ spec.rows_of_all P c at s es
          plain_all NoPlacedTrees = refl
          plain_all (MorePlacedTrees e es) = pair_same (R (plain s) e) (spec.rows_of_all P c at (plain s) es) (R s e) (spec.rows_of_all P c at s es) (plain_rows e) (plain_all es)
