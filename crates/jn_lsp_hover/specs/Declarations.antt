-- The names that fields, methods and parameters are declared by, each with the slot of its type.
use Rattle.std.specs.Prelude.{ℕ, List, [], ◌∷◌, ◌++◌, drop, filter, flat_map, map, Option, Some, None}
use Rattle.jn_base.specs.declared.number.SlotNo.{SlotNo}
use Rattle.jn_heads.specs.declared.head.ClassHead.{ClassHead}
use Rattle.jn_heads.specs.declared.head.MethodHead.{MethodHead}
use Rattle.jn_heads.specs.declared.head.ParamHead.{ParamHead}
use Rattle.jn_points.specs.declared.program.Field.{Field}
use Rattle.jn_points.specs.declared.program.Method.{Method}
use Rattle.jn_points.specs.declared.program.Program.{Program}
use Rattle.jn_lsp_hover.specs.declared.declared.Declared.{Declared}
use Rattle.jn_lsp_hover.specs.Spots.{has_byte}

-- a field's name has the slot of the field
abbrev pub declared_field : Field → Declared
declared_field f = record { span = f.span; slot = f.slot }

-- a method's name has the slot of what it gives
abbrev pub declared_result : Method → Declared
declared_result m = record { span = m.span; slot = m.result_slot }

-- a parameter's name has the parameter's slot
abbrev pub declared_param : ParamHead → Option SlotNo → Declared
declared_param p slot = record { span = p.name.span; slot = slot }

-- parameters, each with its slot
abbrev pub declared_params : List ParamHead → List (Option SlotNo) → List Declared
declared_params [] slots = []
declared_params (p ∷ ps) [] = []
declared_params (p ∷ ps) (slot ∷ slots) = declared_param p slot ∷ declared_params ps slots

-- a method and its parameters
abbrev pub declared_method : MethodHead → Method → List Declared
declared_method head m = declared_result m ∷ declared_params head.params m.param_slots

-- methods, each with what the files say of it
abbrev pub declared_methods : List MethodHead → List Method → List Declared
declared_methods [] methods = []
declared_methods (head ∷ heads) [] = []
declared_methods (head ∷ heads) (m ∷ methods) = declared_method head m ++ declared_methods heads methods

-- those of all classes that are declared
abbrev pub methods_of : List ClassHead → List MethodHead
methods_of heads = flat_map (λ (h : ClassHead). h.methods) heads

-- all of a program, whose classes are those that the files declare; Object's constructor stands before their methods
abbrev pub declared_in : List ClassHead → Program → List Declared
declared_in heads P = map declared_field P.fields ++ declared_methods (methods_of heads) (drop 1 P.methods)

-- the first of names, where there are any
abbrev pub first_of : List Declared → Option Declared
first_of [] = None
first_of (one ∷ more) = Some one

-- the one at a byte of a file
abbrev pub declared_at : ℕ → ℕ → List Declared → Option Declared
declared_at file offset all = first_of (filter (λ (one : Declared). has_byte file offset one.span) all)
