-- Programs without the places where they stand in the source, and without what their slots start with. Two programs that differ in these alone have one bare program.
use Rattle.std.specs.Prelude.{◌≡◌, false, List, [], ◌∷◌, map, Option, Some, None}
use Rattle.jn_base.specs.declared.place.Span.{Span}
use Rattle.jn_base.specs.declared.place.Row.{Row}
use Rattle.jn_base.specs.declared.code.Code.{Code}
use Rattle.jn_quals.specs.Order.{no_qual}
use Rattle.jn_points.specs.declared.point.Operand.{Operand}
use Rattle.jn_points.specs.declared.point.Point.{Point}
use Rattle.jn_points.specs.declared.point.PointKind.{PointKind}
use Rattle.jn_points.specs.declared.point.PointKind.TheVariants.{Const, Move, Unary, Binary, Concat, SameRef, FieldRead, FieldWrite, StaticRead, StaticWrite, ElemRead, ElemWrite, ArrayLen, NewArray, ArrayOf, New, CtorCall, Call, StrOp, Print, Cast, TestInst, TestNull, Branch, Goto, Return}
use Rattle.jn_points.specs.declared.program.Class.{Class}
use Rattle.jn_points.specs.declared.program.Field.{Field}
use Rattle.jn_points.specs.declared.program.Method.{Method}
use Rattle.jn_points.specs.declared.program.Body.{Body}
use Rattle.jn_points.specs.declared.program.SlotInfo.{SlotInfo}
use Rattle.jn_points.specs.declared.program.Program.{Program}

abbrev pub no_span : Span
no_span = record { file = record { 0 = 0 }; from = 0; to = 0 }

abbrev pub bare_operand : Operand → Operand
bare_operand a = record { reg = a.reg; span = no_span }

abbrev pub bare_operands : List Operand → List Operand
bare_operands [] = []
bare_operands (a ∷ xs) = bare_operand a ∷ bare_operands xs

abbrev pub bare_optional : Option Operand → Option Operand
bare_optional None = None
bare_optional (Some a) = Some (bare_operand a)

abbrev pub bare_kind : PointKind → PointKind
bare_kind (Const dst value) = Const dst value
bare_kind (Move dst from bound) = Move dst (bare_operand from) bound
bare_kind (Unary dst negate of) = Unary dst negate (bare_operand of)
bare_kind (Binary dst op l r) = Binary dst op (bare_operand l) (bare_operand r)
bare_kind (Concat dst l r) = Concat dst (bare_operand l) (bare_operand r)
bare_kind (SameRef dst eq l r) = SameRef dst eq (bare_operand l) (bare_operand r)
bare_kind (FieldRead dst r f) = FieldRead dst (bare_operand r) f
bare_kind (FieldWrite r f v) = FieldWrite (bare_operand r) f (bare_operand v)
bare_kind (StaticRead dst f) = StaticRead dst f
bare_kind (StaticWrite f v) = StaticWrite f (bare_operand v)
bare_kind (ElemRead dst r i) = ElemRead dst (bare_operand r) (bare_operand i)
bare_kind (ElemWrite r i v) = ElemWrite (bare_operand r) (bare_operand i) (bare_operand v)
bare_kind (ArrayLen dst r) = ArrayLen dst (bare_operand r)
bare_kind (NewArray dst base n) = NewArray dst base (bare_operand n)
bare_kind (ArrayOf dst base xs) = ArrayOf dst base (bare_operands xs)
bare_kind (New dst m args) = New dst m (bare_operands args)
bare_kind (CtorCall m args own) = CtorCall m (bare_operands args) own
bare_kind (Call dst m r direct args) = Call dst m (bare_optional r) direct (bare_operands args)
bare_kind (StrOp dst op of other) = StrOp dst op (bare_operand of) (bare_optional other)
bare_kind (Print of) = Print (bare_operand of)
bare_kind (Cast dst of c) = Cast dst (bare_operand of) c
bare_kind (TestInst of c og at_yes at_no) = TestInst (bare_operand of) c og at_yes at_no
bare_kind (TestNull of og at_null at_value) = TestNull (bare_operand of) og at_null at_value
bare_kind (Branch of at_yes at_no) = Branch (bare_operand of) at_yes at_no
bare_kind (Goto to) = Goto to
bare_kind (Return v) = Return (bare_optional v)

abbrev pub bare_point : Point → Point
bare_point pt = record { kind = bare_kind pt.kind; span = no_span }

abbrev pub bare_points : List Point → List Point
bare_points [] = []
bare_points (pt ∷ pts) = bare_point pt ∷ bare_points pts

abbrev pub bare_class : Class → Class
bare_class c = record { name = c.name; span = no_span; interface = c.interface; is_abstract = c.is_abstract; is_final = c.is_final; parent = c.parent; supers = c.supers }

abbrev pub bare_field : Field → Field
bare_field f = record { name = f.name; span = no_span; owner = f.owner; base = f.base; is_static = f.is_static; is_final = f.is_final; is_private = f.is_private; is_monotonic = f.is_monotonic; first = f.first; slot = f.slot }

abbrev pub bare_method : Method → Method
bare_method m = record { name = m.name; span = no_span; owner = m.owner; params = m.params; param_spans = []; result = m.result; ctor = m.ctor; is_static = m.is_static; is_private = m.is_private; is_abstract = m.is_abstract; is_final = m.is_final; is_main = m.is_main; body = m.body; receiver = m.receiver; param_slots = m.param_slots; result_slot = m.result_slot }

abbrev pub bare_body : Body → Body
bare_body b = record { method = b.method; regs = b.regs; locals = b.locals; points = bare_points b.points }

abbrev pub bare_slot : SlotInfo → SlotInfo
bare_slot info = record { start = no_qual; inferred = false }

abbrev pub bare : Program → Program
bare P = record { classes = map bare_class P.classes; fields = map bare_field P.fields; methods = map bare_method P.methods; bodies = map bare_body P.bodies; slots = map bare_slot P.slots }

-- the programs differ in places and in what slots start with, at most
abbrev pub Alike : Program → Program → Type 0
Alike P Q = bare P ≡ bare Q

-- rows by their codes alone
abbrev pub codes_of : List Row → List Code
codes_of rows = map (λ (r : Row). r.code) rows
