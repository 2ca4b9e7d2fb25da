-- Members after a dot: the rows of what stands before it, those of the arguments, and those of the member.
use Rattle.std.proofs.Common.{◌≡◌, ℕ, cond, not, ◌&&◌, eqb, List, [], ◌++◌, refl, ap}
use Rattle.jn_base.specs.declared.code.Code.TheVariants.{J5}
use Rattle.jn_base.specs.declared.place.Row.{Row}
use Rattle.jn_base.specs.declared.place.Span.{Span}
use Rattle.jn_points.specs.declared.point.BaseType.{BaseType}
use Rattle.jn_points.specs.declared.program.Program.{Program}
use Rattle.jn_known.specs.Known.{equals_name, is_object_member}
use Rattle.jn_lowering.specs.Annotations.{row, unless}
use Rattle.jn_lowering.specs.ExpressionRows.{access_rows, call_rows, value_field_rows, value_method_rows}
use Rattle.jn_lowering.specs.Scopes.{Meaning, LocalMeant, FieldMeant, ClassMeant, SystemMeant, NothingMeant, access_by, callee_by}
use Rattle.jn_lower_rows.specs.Before.{base_before, field_behind, is_clean, method_behind, rows_before}
use Rattle.jn_lower_rows.proofs.Adding.{unless_clean}

module _ (P : Program) where
  pub same_access : (m : Meaning) (base : BaseType) (n : ℕ) → access_by P m (base_before m base) n ≡ access_by P m base n
  same_access (LocalMeant l) base n = refl
  same_access (FieldMeant f) base n = refl
  same_access (ClassMeant k) base n = refl
  same_access SystemMeant base n = refl
  same_access NothingMeant base n = refl

  pub same_callee : (m : Meaning) (base : BaseType) (n arity : ℕ) → callee_by P m (base_before m base) n arity ≡ callee_by P m base n arity
  same_callee (LocalMeant l) base n arity = refl
  same_callee (FieldMeant f) base n arity = refl
  same_callee (ClassMeant k) base n arity = refl
  same_callee SystemMeant base n arity = refl
  same_callee NothingMeant base n arity = refl

  module _ (c : ℕ) where
    pub field_parts : (m : Meaning) (base : BaseType) (rows : List Row) (n : ℕ) (span : Span) →
        access_rows P c m base rows n span ≡ rows_before m rows ++ field_behind P c m (base_before m base) (is_clean (rows_before m rows)) n span
    field_parts (LocalMeant l) base rows n span = ap (λ x. rows ++ x) (unless_clean rows (value_field_rows P c base n span))
    field_parts (FieldMeant f) base rows n span = ap (λ x. rows ++ x) (unless_clean rows (value_field_rows P c base n span))
    field_parts (ClassMeant k) base rows n span = refl
    field_parts SystemMeant base rows n span = refl
    field_parts NothingMeant base rows n span = ap (λ x. rows ++ x) (unless_clean rows (value_field_rows P c base n span))

    value_parts : (base : BaseType) (rows args : List Row) (n arity : ℕ) (span : Span) →
        rows ++ (args ++ cond (is_object_member n && not (eqb n equals_name)) (row J5 span) (unless rows (value_method_rows P c base n arity span)))
        ≡ rows ++ (args ++ cond (is_object_member n && not (eqb n equals_name)) (row J5 span) (cond (is_clean rows) (value_method_rows P c base n arity span) []))
    value_parts base rows args n arity span = ap (λ x. rows ++ (args ++ cond (is_object_member n && not (eqb n equals_name)) (row J5 span) x)) (unless_clean rows (value_method_rows P c base n arity span))

    pub method_parts : (m : Meaning) (base : BaseType) (rows args : List Row) (n arity : ℕ) (span : Span) →
        call_rows P c m base rows args n arity span ≡ rows_before m rows ++ (args ++ method_behind P c m (base_before m base) (is_clean (rows_before m rows)) n arity span)
    method_parts (LocalMeant l) base rows args n arity span = value_parts base rows args n arity span
    method_parts (FieldMeant f) base rows args n arity span = value_parts base rows args n arity span
    method_parts (ClassMeant k) base rows args n arity span = refl
    method_parts SystemMeant base rows args n arity span = refl
    method_parts NothingMeant base rows args n arity span = value_parts base rows args n arity span
