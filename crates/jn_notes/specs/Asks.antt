-- What rules ask of values at a point: each value that is taken there, and what is taken. A rule has a row where a value is what isn't taken.
use Rattle.std.specs.Prelude.{ℕ, Bool, true, false, not, ◌&&◌, List, [], ◌∷◌, Option, Some, None}
use Rattle.jn_quals.specs.Qualifier.{Qualifier}
use Rattle.jn_quals.specs.Order.{join, null_only}
use Rattle.jn_points.specs.declared.point.BaseType.{BaseType}
use Rattle.jn_points.specs.declared.point.Operand.{Operand}
use Rattle.jn_points.specs.declared.point.PointKind.{PointKind}
use Rattle.jn_points.specs.declared.point.PointKind.TheVariants.{Move, FieldWrite, ElemWrite, ArrayOf, New, CtorCall, Call, StrOp, Return}
use Rattle.jn_points.specs.declared.point.StrOperation.{StrOperation}
use Rattle.jn_points.specs.declared.point.StrOperation.TheVariants.{Equals}
use Rattle.jn_points.specs.declared.program.Program.{Program}
use Rattle.jn_points.specs.Lookup.{dereferences, method_at, method_in, monotonic, reg_base, slots_of}
use Rattle.jn_sigs.specs.Signature.{field_qual, receiver_of, result_of, slot_quals}
use Rattle.jn_env.specs.Environment.{Env}
use Rattle.jn_env.specs.Order.{qual_at}
use Rattle.jn_transfer.specs.Transfer.{elem_qual}
use Rattle.jn_notes.specs.declared.reads.Rule.{Rule}
use Rattle.jn_notes.specs.declared.reads.Rule.TheVariants.{Dereference, Write, Argument, Receiver, Result as ResultRule, Local as LocalRule, Element}

-- a value, and what may be taken of it
pub record Ask : Type 0 where
  pub value : Operand
  pub taken : Qualifier

-- the same from its two parts
abbrev pub ask : Operand → Qualifier → Ask
ask value taken = record { value = value; taken = taken }

-- the same of a value that may be absent, as that of a bare `return` is
abbrev pub ask_if : Option Operand → Qualifier → List Ask
ask_if None taken = []
ask_if (Some value) taken = ask value taken ∷ []

-- the same of each of several values
abbrev pub ask_each : List Operand → Qualifier → List Ask
ask_each [] taken = []
ask_each (value ∷ values) taken = ask value taken ∷ ask_each values taken

-- arguments, each with its parameter
abbrev pub ask_args : List Qualifier → List Operand → List Ask
ask_args [] args = []
ask_args (taken ∷ slots) [] = []
ask_args (taken ∷ slots) (value ∷ args) = ask value taken ∷ ask_args slots args

-- what is whole, and what is null and what is under construction where these hold
abbrev pub taking : Bool → Bool → Qualifier
taking null free = record { null = null; committed = true; free = free }

-- what is dereferenced isn't null
abbrev pub dereference_asks : PointKind → List Ask
dereference_asks kind = ask_if (dereferences kind) (taking false true)

-- String's equals takes null and what is whole, and nothing that is under construction
abbrev pub equals_asks : StrOperation → Option Operand → List Ask
equals_asks Equals other = ask_if other (taking true false)
equals_asks op other = []

-- a value that a local gets, where the local's declaration says what it may hold
abbrev pub bound_asks : Operand → Option Qualifier → List Ask
bound_asks from None = []
bound_asks from (Some taken) = ask from taken ∷ []

-- what a local's declaration says of a value that is moved to it
abbrev pub local_asks : PointKind → List Ask
local_asks (Move dst from bound) = bound_asks from bound
local_asks kind = []

-- what an array of this type takes as an element: null where its type says so, and what is whole
abbrev pub elem_taken : BaseType → Qualifier
elem_taken base = taking (elem_qual base).null false

module _ (P : Program) where
  -- nothing under construction goes into an array
  abbrev pub element_asks : ℕ → PointKind → List Ask
  element_asks b (ElemWrite array index value) = ask value (elem_taken (reg_base P b array.reg.0)) ∷ []
  element_asks b (ArrayOf dst base values) = ask_each values (elem_taken base)
  element_asks b kind = []

  module _ (s : List Qualifier) where
    -- a field takes null where its slot has it, unless it is monotonic
    abbrev pub takes_null : ℕ → Bool
    takes_null f = (field_qual P s f).null && not (monotonic P f)

    -- of an object that may be whole it takes nothing that is under construction
    abbrev pub write_taken : Qualifier → ℕ → Qualifier
    write_taken object f = taking (takes_null f) (not object.committed)

    -- of a value that is written to a field (Checker Framework manual, 3.1; FBC)
    abbrev pub write_asks : Env → PointKind → List Ask
    write_asks e (FieldWrite object field value) = ask value (write_taken (qual_at e object.reg.0) field.0) ∷ []
    write_asks e kind = []

    -- of the arguments of a call, by the slots of the parameters
    abbrev pub argument_asks : PointKind → List Ask
    argument_asks (New dst ctor args) = ask_args (slot_quals s (slots_of (method_at P ctor.0))) args
    argument_asks (CtorCall ctor args own) = ask_args (slot_quals s (slots_of (method_at P ctor.0))) args
    argument_asks (Call dst method receiver direct args) = ask_args (slot_quals s (slots_of (method_at P method.0))) args
    argument_asks (StrOp dst op of other) = equals_asks op other
    argument_asks kind = []

    -- that a receiver isn't null is asked by another rule
    abbrev pub receiver_asks : PointKind → List Ask
    receiver_asks (Call dst method receiver direct args) = ask_if receiver (join null_only (receiver_of s (method_at P method.0)))
    receiver_asks kind = []

    -- of a value that is returned, by the slot of the result
    abbrev pub result_asks : ℕ → PointKind → List Ask
    result_asks b (Return value) = ask_if value (result_of s (method_in P b))
    result_asks b kind = []

    -- what a rule asks at a point of body b
    abbrev pub asks : Rule → ℕ → Env → PointKind → List Ask
    asks Dereference b e kind = dereference_asks kind
    asks Write b e kind = write_asks e kind
    asks Argument b e kind = argument_asks kind
    asks Receiver b e kind = receiver_asks kind
    asks ResultRule b e kind = result_asks b kind
    asks LocalRule b e kind = local_asks kind
    asks Element b e kind = element_asks b kind
