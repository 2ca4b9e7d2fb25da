-- What the rows T1 to T9 ask of a program: of its fields, its methods and its classes.
use Rattle.std.specs.Prelude.{ℕ, zero, suc, Bool, true, false, cond, not, eqb, ◌&&◌, ◌||◌, List, [], ◌∷◌, ◌++◌, length, take, Option, Some, None}
use Rattle.jn_base.specs.declared.code.Code.{Code}
use Rattle.jn_base.specs.declared.number.ClassNo.{ClassNo}
use Rattle.jn_base.specs.declared.place.Row.{Row}
use Rattle.jn_base.specs.declared.place.Span.{Span}
use Rattle.jn_points.specs.declared.point.BaseType.{BaseType}
use Rattle.jn_points.specs.declared.point.BaseType.TheVariants.{Int, Bool as BoolBase, Void, Null as NullBase, Ref, Array}
use Rattle.jn_points.specs.declared.point.Elem.{Elem}
use Rattle.jn_points.specs.declared.point.Elem.TheVariants.{Int as IntElem, Bool as BoolElem, Ref as RefElem}
use Rattle.jn_points.specs.declared.program.Class.{Class}
use Rattle.jn_points.specs.declared.program.Field.{Field}
use Rattle.jn_points.specs.declared.program.Method.{Method}
use Rattle.jn_points.specs.declared.program.Program.{Program}
use Rattle.jn_points.specs.Lookup.{class_info}
use Rattle.jn_points.specs.Members.{some_of, same_flag, is_named, is_number, reaches, sub, fits, is_pair, method_of}
use Rattle.jn_points.specs.Regular.{has_body}

-- a row of the code at each item that passes, numbered from i on
abbrev pub rows_at : {A : Type 0} → Code → (A → Span) → (ℕ → A → Bool) → ℕ → List A → List Row
rows_at code place test i [] = []
rows_at code place test i (x ∷ xs) = cond (test i x) (record { span = place x; code = code } ∷ []) [] ++ rows_at code place test (suc i) xs

-- some item passes, numbered from i on
abbrev pub some_at : {A : Type 0} → (ℕ → A → Bool) → ℕ → List A → Bool
some_at test i [] = false
some_at test i (x ∷ xs) = test i x || some_at test (suc i) xs

-- one of the first i items is like x
abbrev pub earlier : {A : Type 0} → (A → A → Bool) → List A → ℕ → A → Bool
earlier like xs i x = some_of (like x) (take i xs)

-- two element types of arrays that are the same: int, boolean or one class
abbrev pub same_elem : Elem → Elem → Bool
same_elem IntElem IntElem = true
same_elem BoolElem BoolElem = true
same_elem (RefElem c) (RefElem d) = eqb c.0 d.0
same_elem a b = false

-- two types that are the same, for arrays with the nullity of their elements
abbrev pub same_base : BaseType → BaseType → Bool
same_base Int Int = true
same_base BoolBase BoolBase = true
same_base Void Void = true
same_base NullBase NullBase = true
same_base (Ref c) (Ref d) = eqb c.0 d.0
same_base (Array e m) (Array f n) = same_elem e f && same_flag m n
same_base a b = false

-- two lists of types that are the same, type by type and in their length
abbrev pub same_bases : List BaseType → List BaseType → Bool
same_bases [] [] = true
same_bases [] (t ∷ ts) = false
same_bases (s ∷ ss) [] = false
same_bases (s ∷ ss) (t ∷ ts) = same_base s t && same_bases ss ts

-- whether a list of rows is empty
abbrev pub no_rows : List Row → Bool
no_rows [] = true
no_rows (r ∷ rs) = false

-- these rows, or none where the condition holds
abbrev pub unless : Bool → List Row → List Row
unless true rows = []
unless false rows = rows

-- conditions on a program

-- two fields of one class and one name
abbrev pub same_field : Field → Field → Bool
same_field x y = eqb x.owner.0 y.owner.0 && eqb x.name.0 y.name.0

-- two methods or constructors of one class, name and arity
abbrev pub same_method : Method → Method → Bool
same_method x y = eqb x.owner.0 y.owner.0 && eqb x.name.0 y.name.0 && eqb (length x.params) (length y.params)

-- an abstract method with a body, or private, static or final; another one without a body
abbrev pub is_bad_abstract : Method → Bool
is_bad_abstract x = cond x.is_abstract (has_body x.body || x.is_private || x.is_static || x.is_final) (not (has_body x.body))

-- whether a class is final; not so where there is none
abbrev pub final_of : Option Class → Bool
final_of None = false
final_of (Some y) = y.is_final

module _ (P : Program) where
  -- a class that is its own supertype
  abbrev pub is_circle : ℕ → Class → Bool
  is_circle c x = some_of (λ s. reaches P (length P.classes) s.0 c) x.supers

  -- an overrider agrees with the overridden: equal parameter types, a result that fits, no final method, neither static
  abbrev pub agrees : Method → Method → Bool
  agrees x y = same_bases x.params y.params && fits P x.result y.result && not y.is_final && not (x.is_static || y.is_static)

  -- whether method m, which is x, doesn't agree with a method that it overrides or must agree with (JLS 8, 8.4.8 and 9.4.1)
  abbrev pub overrides_badly : ℕ → Method → Bool
  overrides_badly m x = some_at (λ k y. is_pair P m k && not (agrees x y)) 0 P.methods

  -- y is a static method that isn't private, of x's name and arity, declared in a supertype of x's class
  abbrev pub over_static : Method → Method → Bool
  over_static x y = not x.ctor && is_named y x.name.0 (length x.params) && y.is_static && not y.is_private && not (eqb x.owner.0 y.owner.0) && sub P x.owner.0 y.owner.0

  -- a static method that hides a static one agrees with it
  abbrev pub hides_well : Method → Method → Bool
  hides_well x y = x.is_static && same_bases x.params y.params && fits P x.result y.result && not y.is_final

  -- whether a method has the name and arity of a supertype's static method that it may not hide (JLS 8, 8.4.8)
  abbrev pub hides_badly : Method → Bool
  hides_badly x = some_of (λ y. over_static x y && not (hides_well x y)) P.methods

  -- whether method m, which is x, overrides or hides a method that it may not
  abbrev pub is_bad_override : ℕ → Method → Bool
  is_bad_override m x = overrides_badly m x || hides_badly x

  -- a class that is neither an interface nor abstract has an abstract method
  abbrev pub lacks_body : ℕ → Class → Bool
  lacks_body c x = not x.interface && not x.is_abstract && some_at (λ m y. y.is_abstract && is_number (method_of P c y.name.0 (length y.params)) m) 0 P.methods

  -- a field named as one of a supertype
  abbrev pub is_hiding : Field → Bool
  is_hiding x = some_of (λ y. eqb x.name.0 y.name.0 && not (eqb x.owner.0 y.owner.0) && sub P x.owner.0 y.owner.0) P.fields

  -- whether a class's parent is a final class (JLS 8, 8.1.1.2)
  abbrev pub final_parent : Option ClassNo → Bool
  final_parent None = false
  final_parent (Some p) = final_of (class_info P p.0)

-- reachability along edges, by at most so many
abbrev pub reach : (ℕ → List ℕ) → ℕ → ℕ → ℕ → Bool
reach next zero c d = eqb c d
reach next (suc n) c d = eqb c d || some_of (λ s. reach next n s d) (next c)
