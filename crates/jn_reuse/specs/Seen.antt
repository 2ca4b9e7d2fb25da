-- Points by their operands, with the places of these or without.
use Rattle.std.specs.Prelude.{ℕ, ◌≡◌, Bool, true, false, List, map, Option, option_map}
use Rattle.jn_points.specs.declared.point.Operand.{Operand}
use Rattle.jn_points.specs.declared.point.PointKind.{PointKind}
use Rattle.jn_points.specs.declared.point.PointKind.TheVariants.{Const, Move, Unary, Binary, Concat, SameRef, FieldRead, FieldWrite, StaticRead, StaticWrite, ElemRead, ElemWrite, ArrayLen, NewArray, ArrayOf, New, CtorCall, Call, StrOp, Print, Cast, TestInst, TestNull, Branch, Goto, Return}
use Rattle.jn_places_law.specs.Bare.{bare_operand}

-- operands of one register
abbrev pub SameRegister : ℕ → Operand → Operand → Type 0
SameRegister i a b = bare_operand a ≡ bare_operand b

-- an operand as it is, or without its place
abbrev pub seen : Bool → Operand → Operand
seen true a = a
seen false a = bare_operand a

abbrev pub seen_all : Bool → List Operand → List Operand
seen_all placed xs = map (seen placed) xs

abbrev pub seen_maybe : Bool → Option Operand → Option Operand
seen_maybe placed o = option_map (seen placed) o

-- a point whose operands are seen so
abbrev pub seen_kind : Bool → PointKind → PointKind
seen_kind placed (Const dst value) = Const dst value
seen_kind placed (Move dst from bound) = Move dst (seen placed from) bound
seen_kind placed (Unary dst negate of) = Unary dst negate (seen placed of)
seen_kind placed (Binary dst op l r) = Binary dst op (seen placed l) (seen placed r)
seen_kind placed (Concat dst l r) = Concat dst (seen placed l) (seen placed r)
seen_kind placed (SameRef dst eq l r) = SameRef dst eq (seen placed l) (seen placed r)
seen_kind placed (FieldRead dst r f) = FieldRead dst (seen placed r) f
seen_kind placed (FieldWrite r f v) = FieldWrite (seen placed r) f (seen placed v)
seen_kind placed (StaticRead dst f) = StaticRead dst f
seen_kind placed (StaticWrite f v) = StaticWrite f (seen placed v)
seen_kind placed (ElemRead dst r i) = ElemRead dst (seen placed r) (seen placed i)
seen_kind placed (ElemWrite r i v) = ElemWrite (seen placed r) (seen placed i) (seen placed v)
seen_kind placed (ArrayLen dst r) = ArrayLen dst (seen placed r)
seen_kind placed (NewArray dst base n) = NewArray dst base (seen placed n)
seen_kind placed (ArrayOf dst base xs) = ArrayOf dst base (seen_all placed xs)
seen_kind placed (New dst m args) = New dst m (seen_all placed args)
seen_kind placed (CtorCall m args own) = CtorCall m (seen_all placed args) own
seen_kind placed (Call dst m r direct args) = Call dst m (seen_maybe placed r) direct (seen_all placed args)
seen_kind placed (StrOp dst op of other) = StrOp dst op (seen placed of) (seen_maybe placed other)
seen_kind placed (Print of) = Print (seen placed of)
seen_kind placed (Cast dst of c) = Cast dst (seen placed of) c
seen_kind placed (TestInst of c og at_yes at_no) = TestInst (seen placed of) c og at_yes at_no
seen_kind placed (TestNull of og at_null at_value) = TestNull (seen placed of) og at_null at_value
seen_kind placed (Branch of at_yes at_no) = Branch (seen placed of) at_yes at_no
seen_kind placed (Goto to) = Goto to
seen_kind placed (Return v) = Return (seen_maybe placed v)
