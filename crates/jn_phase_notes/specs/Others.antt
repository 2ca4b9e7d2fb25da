-- The other declaration of which a row T1, T4, T5, T6 or T7 speaks: its name, where it is declared.
use Rattle.std.specs.Prelude.{ℕ, suc, Bool, cond, not, ◌&&◌, ◌||◌, eqb, List, [], ◌∷◌, length, find, Option, Some, None, option_map, option_and_then}
use Rattle.std.specs.Option.{option_or}
use Rattle.jn_base.specs.declared.code.Code.{Code}
use Rattle.jn_base.specs.declared.code.Code.TheVariants.{T1, T4, T5, T6, T7}
use Rattle.jn_base.specs.declared.place.Span.{Span}
use Rattle.jn_points.specs.declared.program.Class.{Class}
use Rattle.jn_points.specs.declared.program.Field.{Field}
use Rattle.jn_points.specs.declared.program.Method.{Method}
use Rattle.jn_points.specs.declared.program.Program.{Program}
use Rattle.jn_points.specs.Lookup.{class_info, field_info, method_at}
use Rattle.jn_points.specs.Members.{first_at, is_number, is_pair, method_of, sub}
use Rattle.jn_trees.specs.declared.expression.Identifier.{Identifier}
use Rattle.jn_heads.specs.declared.head.ClassHead.{ClassHead}
use Rattle.jn_heads.specs.declared.head.MethodHead.{MethodHead}
use Rattle.jn_heads.specs.declared.head.ParamHead.{ParamHead}
use Rattle.jn_heads.specs.Heads.{no_span}
use Rattle.jn_declaration_rules.specs.Rows.{agrees, hides_well, over_static, same_field, same_method}
use Rattle.jn_classtable.specs.Rows.{same_class_name, same_param_name}
use Rattle.jn_notes.specs.Asked.{same_span}
use Rattle.jn_note_words.specs.Owned.{first_of}

-- the first item that passes, numbered from i on
abbrev pub first_passing : {A : Type 0} → (ℕ → A → Bool) → ℕ → List A → Option A
first_passing test i [] = None
first_passing test i (x ∷ xs) = cond (test i x) (Some x) (first_passing test (suc i) xs)

-- a class by its name, where it is declared
abbrev pub class_name : Class → Identifier
class_name x = record { name = x.name; span = x.span }

-- a field by its name
abbrev pub field_name : Field → Identifier
field_name x = record { name = x.name; span = x.span }

-- a method or a constructor by its name
abbrev pub method_name : Method → Identifier
method_name x = record { name = x.name; span = x.span }

-- what stands at the row's place

module _ (span : Span) where
  -- the number of the class that is declared there
  abbrev pub class_there : List Class → Option ℕ
  class_there xs = first_at (λ x. same_span x.span span) 0 xs

  -- the number of the field
  abbrev pub field_there : List Field → Option ℕ
  field_there xs = first_at (λ x. same_span x.span span) 0 xs

  -- the number of the method or the constructor
  abbrev pub method_there : List Method → Option ℕ
  method_there xs = first_at (λ x. same_span x.span span) 0 xs

  -- T1 of a method's parameter: the first parameter of its name
  abbrev pub first_param : MethodHead → Option Identifier
  first_param m = option_and_then (λ x. option_map (λ (p : ParamHead). p.name) (find (same_param_name x) m.params)) (find (λ (p : ParamHead). same_span p.name.span span) m.params)

  -- the same of the parameter that is declared there
  abbrev pub first_param_of : List ClassHead → Option Identifier
  first_param_of hs = first_of (λ (h : ClassHead). first_of first_param h.methods) hs

module _ (P : Program) where
  -- T5: method m, which is x, doesn't agree with method k, which is y, or hides it badly
  abbrev pub clashes : ℕ → Method → ℕ → Method → Bool
  clashes m x k y = (is_pair P m k && not (agrees P x y)) || (over_static P x y && not (hides_well P x y))

  -- T6: class c has method m, which is y and abstract
  abbrev pub has_abstract : ℕ → ℕ → Method → Bool
  has_abstract c m y = y.is_abstract && is_number (method_of P c y.name.0 (length y.params)) m

  -- T7: a field is named as one of a supertype
  abbrev pub hides : Field → Field → Bool
  hides x y = eqb x.name.0 y.name.0 && not (eqb x.owner.0 y.owner.0) && sub P x.owner.0 y.owner.0

  module _ (span : Span) where
    -- T1: the first class of the name of the one that is declared there
    abbrev pub first_class : Option Identifier
    first_class = option_and_then (λ c. option_and_then (λ x. option_map class_name (find (same_class_name x) P.classes)) (class_info P c)) (class_there span P.classes)

    -- T1: the first field of that class and name
    abbrev pub first_field : Option Identifier
    first_field = option_and_then (λ f. option_and_then (λ x. option_map field_name (find (same_field x) P.fields)) (field_info P f)) (field_there span P.fields)

    -- T4: the first method or constructor of that class, name and arity
    abbrev pub first_method : Option Identifier
    first_method = option_and_then (λ m. option_and_then (λ x. option_map method_name (find (same_method x) P.methods)) (method_at P m)) (method_there span P.methods)

    -- T5: the first method with which it clashes
    abbrev pub clashing : Option Identifier
    clashing = option_and_then (λ m. option_and_then (λ x. option_map method_name (first_passing (clashes m x) 0 P.methods)) (method_at P m)) (method_there span P.methods)

    -- T6: the first abstract method that the class has
    abbrev pub lacking : Option Identifier
    lacking = option_and_then (λ c. option_map method_name (first_passing (has_abstract c) 0 P.methods)) (class_there span P.classes)

    -- T7: the first field of a supertype with its name
    abbrev pub hidden : Option Identifier
    hidden = option_and_then (λ f. option_and_then (λ x. option_map field_name (find (hides x) P.fields)) (field_info P f)) (field_there span P.fields)

-- a declaration that stands in a file, and elsewhere than the row
abbrev pub elsewhere : Span → Option Identifier → Option Identifier
elsewhere span None = None
elsewhere span (Some x) = cond (same_span x.span span || same_span x.span no_span) None (Some x)

module _ (hs : List ClassHead) (P : Program) (span : Span) where
  -- T1: of a class, a field or a parameter
  abbrev pub first_named : Option Identifier
  first_named = option_or (first_class P span) (option_or (first_field P span) (first_param_of span hs))

  -- by the row's code; other rows speak of none
  abbrev pub other_by : Code → Option Identifier
  other_by T1 = first_named
  other_by T4 = first_method P span
  other_by T5 = clashing P span
  other_by T6 = lacking P span
  other_by T7 = hidden P span
  other_by code = None

  -- the other declaration of which a row at the place speaks
  abbrev pub other : Code → Option Identifier
  other code = elsewhere span (other_by code)
