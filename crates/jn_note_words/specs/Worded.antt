-- The words of a step that is told, and where it stands in the text.
use Rattle.std.specs.Prelude.{ℕ, Bool, true, false, cond, codes, eqb, List, [], ◌++◌, Option, Some, None, slice_get, slice_index_or}
use Rattle.jn_base.specs.declared.place.Span.{Span}
use Rattle.jn_points.specs.declared.point.Operand.{Operand}
use Rattle.jn_points.specs.declared.point.Point.{Point}
use Rattle.jn_points.specs.declared.point.PointKind.{PointKind}
use Rattle.jn_points.specs.declared.point.PointKind.TheVariants.{Call, Const, CtorCall, ElemRead, FieldRead, FieldWrite, New, Return}
use Rattle.jn_points.specs.declared.program.Field.{Field}
use Rattle.jn_points.specs.declared.program.Method.{Method}
use Rattle.jn_points.specs.declared.program.Program.{Program}
use Rattle.jn_points.specs.Lookup.{field_info, method_at, method_in, point_at}
use Rattle.jn_reasons_law.specs.declared.item.Bit.{Bit}
use Rattle.jn_reasons_law.specs.declared.item.Bit.TheVariants.{Nullable, Committed, Free}
use Rattle.jn_reasons_law.specs.declared.item.Item.{Item}
use Rattle.jn_reasons_law.specs.declared.item.Item.TheVariants.{AtSlot, AtRegister}
use Rattle.jn_reasons_law.specs.declared.item.Place.{Place}
use Rattle.jn_reasons_law.specs.declared.item.Place.TheVariants.{OfSlot, OfMethod, OfBody, OfPoint}
use Rattle.jn_reasons_law.specs.declared.item.Step.{Step}
use Rattle.jn_note_words.specs.declared.owners.Owner.{Owner}
use Rattle.jn_note_words.specs.declared.owners.Owner.TheVariants.{OfField, OfParameter, OfReceiver, OfResult}
use Rattle.jn_note_words.specs.Owned.{owner_of}

-- the text of a name by its number, empty where there is none
abbrev pub text_at : List (List ℕ) → ℕ → List ℕ
text_at names n = slice_index_or names n []

-- a field's name, empty where there is no such field
abbrev pub field_name : List (List ℕ) → Option Field → List ℕ
field_name names None = []
field_name names (Some f) = text_at names f.name.0

-- a method's name, empty where there is no such method
abbrev pub method_name : List (List ℕ) → Option Method → List ℕ
method_name names None = []
method_name names (Some m) = text_at names m.name.0

-- a parameter by its number from 0
abbrev pub parameter_words : ℕ → List ℕ
parameter_words i = cond (eqb i 0) (codes "the first parameter of `") (cond (eqb i 1) (codes "the second parameter of `") (cond (eqb i 2) (codes "the third parameter of `") (codes "a later parameter of `")))

module _ (P : Program) (names : List (List ℕ)) where
  -- what has a slot, in words: a field, or a parameter, `this` or the result of a method
  abbrev pub owner_words : Option Owner → List ℕ
  owner_words None = codes "this"
  owner_words (Some (OfField f)) = codes "the field `" ++ field_name names (field_info P f) ++ codes "`"
  owner_words (Some (OfParameter m i)) = parameter_words i ++ method_name names (method_at P m) ++ codes "`"
  owner_words (Some (OfReceiver m)) = codes "`this` of `" ++ method_name names (method_at P m) ++ codes "`"
  owner_words (Some (OfResult m)) = codes "the result of `" ++ method_name names (method_at P m) ++ codes "`"

-- what a bit says of a value, in words
abbrev pub bit_words : Bit → List ℕ
bit_words Nullable = codes " may be null"
bit_words Committed = codes " may be whole"
bit_words Free = codes " may be under construction"

-- a point is a `return`, at which its body ends (JLS 8, 14.17)
abbrev pub ends_body : PointKind → Bool
ends_body (Return v) = true
ends_body kind = false

-- the same of a point that may be missing
abbrev pub is_return : Option Point → Bool
is_return None = false
is_return (Some pt) = ends_body pt.kind

-- how a slot has its bit from a point
abbrev pub sent_words : Option Owner → Bool → List ℕ
sent_words None unset = codes ": at"
sent_words (Some (OfField f)) true = codes ": left unassigned by the constructor that ends at"
sent_words (Some (OfField f)) false = codes ": written at"
sent_words (Some (OfParameter m i)) unset = codes ": passed at"
sent_words (Some (OfReceiver m)) unset = codes ": called at"
sent_words (Some (OfResult m)) unset = codes ": returned at"

-- what a point does at which a value has its bit by the text alone
abbrev pub kind_words : PointKind → List ℕ
kind_words (Const dst value) = codes "null is written at"
kind_words (FieldRead dst object f) = codes "a field of an object under construction is read at"
kind_words (ElemRead dst array i) = codes "an element that may be null is read at"
kind_words kind = codes "it is made at"

-- the same of a point that may be missing
abbrev pub read_words : Option Point → List ℕ
read_words None = codes "it is made at"
read_words (Some pt) = kind_words pt.kind

-- how a fact on a field was made: by an assignment to it, or else by a test
abbrev pub made_by : PointKind → List ℕ
made_by (FieldWrite object f value) = codes "` was assigned at"
made_by kind = codes "` was tested at"

-- the same of a point that may be missing
abbrev pub how_made : Option Point → List ℕ
how_made None = codes "` was tested at"
how_made (Some pt) = made_by pt.kind

-- the words for what ended a fact on a field: a call, or else an assignment
abbrev pub ends_by : PointKind → List ℕ
ends_by (New dst m args) = codes "and this call may change it:"
ends_by (CtorCall m args own) = codes "and this call may change it:"
ends_by (Call dst m receiver direct args) = codes "and this call may change it:"
ends_by kind = codes "and this assignment may change it:"

-- the same of a point that may be missing
abbrev pub ended_words : Option Point → List ℕ
ended_words None = codes "and this assignment may change it:"
ended_words (Some pt) = ends_by pt.kind

-- the span of what isn't there: nothing, at the beginning of the first file
abbrev pub nowhere : Span
nowhere = record { file = record { 0 = 0 }; from = 0; to = 0 }

-- where a field is declared
abbrev pub field_span : Option Field → Span
field_span None = nowhere
field_span (Some f) = f.span

-- where a method or constructor is declared
abbrev pub method_span : Option Method → Span
method_span None = nowhere
method_span (Some m) = m.span

-- where the name of a method's parameter of this number stands, or its method where it has no such parameter
abbrev pub parameter_span : ℕ → Option Method → Span
parameter_span i None = nowhere
parameter_span i (Some m) = slice_index_or m.param_spans i m.span

-- where the text stands that a point does
abbrev pub point_span : Option Point → Span
point_span None = nowhere
point_span (Some pt) = pt.span

-- the arguments of a point that calls
abbrev pub arguments : PointKind → List Operand
arguments (New dst ctor args) = args
arguments (CtorCall ctor args own) = args
arguments (Call dst method receiver direct args) = args
arguments kind = []

-- where a value stands, or else another place
abbrev pub operand_span : Option Operand → Span → Span
operand_span None span = span
operand_span (Some value) span = value.span

-- where a point passes the argument of this number: the argument, or the point where it has none
abbrev pub argument_span : ℕ → Option Point → Span
argument_span i None = nowhere
argument_span i (Some pt) = operand_span (slice_get (arguments pt.kind) i) pt.span

-- where a slot has its bit from a point: for a parameter the argument that is passed to it, else the point
abbrev pub sent_span : Option Owner → Option Point → Span
sent_span None pt = point_span pt
sent_span (Some (OfField f)) pt = point_span pt
sent_span (Some (OfParameter m i)) pt = argument_span i pt
sent_span (Some (OfReceiver m)) pt = point_span pt
sent_span (Some (OfResult m)) pt = point_span pt

module _ (P : Program) where
  -- how a slot has its bit, by the place from which it has it
  abbrev pub how_words : Option Owner → Place → List ℕ
  how_words owner (OfSlot k) = codes ": declared so at"
  how_words owner (OfMethod m) = codes ": handed on by overriding at"
  how_words owner (OfBody b) = codes ": at"
  how_words owner (OfPoint b p) = sent_words owner (is_return (point_at P b p))

  -- where a chain ends at a register
  abbrev pub end_words : Place → List ℕ
  end_words (OfSlot k) = codes "it is declared at"
  end_words (OfMethod m) = codes "it is handed on by overriding at"
  end_words (OfBody b) = codes "`this` is under construction in the constructor at"
  end_words (OfPoint b p) = read_words (point_at P b p)

  -- of a slot, whose it is, its bit and how it has that; of a register, what the chain ends with
  abbrev pub item_words : List (List ℕ) → Place → Item → List ℕ
  item_words names place (AtSlot k bit) = owner_words P names (owner_of P k) ++ bit_words bit ++ how_words (owner_of P k) place
  item_words names place (AtRegister b p r bit) = end_words place

  -- a step as a note says it, up to the place that is named after it
  abbrev pub step_words : List (List ℕ) → Step → List ℕ
  step_words names step = item_words names step.place step.item

  -- where a slot is declared
  abbrev pub owner_span : Option Owner → Span
  owner_span None = nowhere
  owner_span (Some (OfField f)) = field_span (field_info P f)
  owner_span (Some (OfParameter m i)) = parameter_span i (method_at P m)
  owner_span (Some (OfReceiver m)) = method_span (method_at P m)
  owner_span (Some (OfResult m)) = method_span (method_at P m)

  -- where in the text the place is from which a slot of this owner, or else a register, has its bit: a declaration, for a slot, a method or a body, or
  -- else a point or its argument
  abbrev pub place_span : Option Owner → Place → Span
  place_span owner (OfSlot k) = owner_span (owner_of P k)
  place_span owner (OfMethod m) = method_span (method_at P m)
  place_span owner (OfBody b) = method_span (method_in P b)
  place_span owner (OfPoint b p) = sent_span owner (point_at P b p)

  -- whose slot an item is; a register's is nobody's
  abbrev pub item_owner : Item → Option Owner
  item_owner (AtSlot k bit) = owner_of P k
  item_owner (AtRegister b p r bit) = None

  -- where a step's place is
  abbrev pub step_span : Step → Span
  step_span step = place_span (item_owner step.item) step.place
