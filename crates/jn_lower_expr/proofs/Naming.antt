-- Members that are found, by their numbers.
use Rattle.std.proofs.Common.{◌≡◌, ℕ, zero, suc, Bool, true, false, Option, Some, None, refl, sym, ap, ◌∙◌}
use Rattle.std.specs.Prelude.{MatchOption, ◌&&◌, cond, eqb}
use Rattle.std.proofs.lemmas.Option.{none-some}
use Rattle.jn_base.specs.declared.number.FieldNo.{FieldNo}
use Rattle.jn_base.specs.declared.number.MethodNo.{MethodNo}
use Rattle.jn_points.specs.declared.point.BaseType.{BaseType}
use Rattle.jn_points.specs.declared.point.BaseType.TheVariants.{Ref}
use Rattle.jn_points.specs.declared.program.Program.{Program}
use Rattle.jn_points.specs.Members.{method_of}
use Rattle.jn_known.specs.Known.{println_name}
use Rattle.jn_places.specs.Placed.{PlacedTree}
use Rattle.jn_lowering.specs.Scopes.{Scope, Println, before_dot, callee, is_output, Callee, ClassMethod, Meaning, ClassMeant, SystemMeant, callee_by, callee_of, class_callee, object_callee, text_callee}
use Rattle.jn_lower_expr.specs.Lowering.{by_value, class_method, field_number, number_of}

pub numbered : (r : Option MethodNo) (s : Option ℕ) → MatchOption r (s ≡ None) (λ m. s ≡ Some m.0) → number_of r ≡ s
numbered None s e = sym e
numbered (Some m) s e = sym e

pub field_numbered : (r : Option FieldNo) (s : Option ℕ) → MatchOption r (s ≡ None) (λ m. s ≡ Some m.0) → field_number r ≡ s
field_numbered None s e = sym e
field_numbered (Some m) s e = sym e

by_choice : (b : Bool) (x y : Callee) → by_value x ≡ true → by_value y ≡ true → by_value (cond b x y) ≡ true
by_choice true x y px py = px
by_choice false x y px py = py

text_by_value : (n arity : ℕ) → by_value (text_callee n arity) ≡ true
text_by_value n zero = by_choice (eqb n 4) _ _ refl (by_choice (eqb n 16) _ _ refl refl)
text_by_value n (suc zero) = by_choice (eqb n 8) _ _ refl refl
text_by_value n (suc (suc arity)) = refl

object_by_value : (m : Option ℕ) → by_value (object_callee m) ≡ true
object_by_value None = refl
object_by_value (Some m) = refl

value_callee : (P : Program) (base : BaseType) (n arity : ℕ) → by_value (callee_of P base n arity) ≡ true
value_callee P (Ref k) n arity = by_choice (eqb k.0 1) (text_callee n arity) (object_callee (method_of P k.0 n arity)) (text_by_value n arity) (object_by_value (method_of P k.0 n arity))
value_callee P base n arity = refl

-- where a class before a dot has no such method, what stands there is evaluated
pub called_by_value : (P : Program) (m : Meaning) (base : BaseType) (n arity : ℕ) → class_method P m n arity ≡ None → by_value (callee_by P m base n arity) ≡ true
called_by_value P (ClassMeant k) base n arity e = ap (λ o. by_value (class_callee o)) e
called_by_value P SystemMeant base n arity e = refl
called_by_value P m base n arity e = value_callee P base n arity

pub called_by_class : (P : Program) (m : Meaning) (base : BaseType) (n arity k : ℕ) → class_method P m n arity ≡ Some k → callee_by P m base n arity ≡ ClassMethod k
called_by_class P (ClassMeant j) base n arity k e = ap class_callee e
called_by_class P m base n arity k e = absurd (none-some k e)

-- what a call with a dot names, by its three cases
module _ (P : Program) (c : ℕ) (s : Scope) (e : PlacedTree) (base : BaseType) (n arity : ℕ) where
  pub callee_println : (is_output P c s e && eqb n println_name && eqb arity 1) ≡ true → callee P c s e base n arity ≡ Println
  callee_println h = ap (λ b. cond b Println (callee_by P (before_dot P c s e) base n arity)) h

  pub callee_value : (is_output P c s e && eqb n println_name && eqb arity 1) ≡ false → callee P c s e base n arity ≡ callee_by P (before_dot P c s e) base n arity
  callee_value h = ap (λ b. cond b Println (callee_by P (before_dot P c s e) base n arity)) h

  pub callee_class : (k : ℕ) → (is_output P c s e && eqb n println_name && eqb arity 1) ≡ false → class_method P (before_dot P c s e) n arity ≡ Some k → callee P c s e base n arity ≡ ClassMethod k
  callee_class k h m = callee_value h ∙ called_by_class P (before_dot P c s e) base n arity k m
