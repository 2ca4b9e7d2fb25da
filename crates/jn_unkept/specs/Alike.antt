-- Values that are made alike: they come from one local, parameter or `this`, or by points of the same form from values that are made alike.
use Rattle.std.specs.Prelude.{ℕ, zero, suc, Bool, true, false, cond, eqb, ◌&&◌, ◌||◌, List, [], ◌∷◌, ◌++◌, length, flat_map, Option, Some, None}
use Rattle.std.specs.List.{list_all}
use Rattle.std.proofs.Common.{int_eq}
use Rattle.jn_points.specs.declared.point.Literal.{Literal}
use Rattle.jn_points.specs.declared.point.Literal.TheVariants.{Int, Truth, Str, Null}
use Rattle.jn_points.specs.declared.point.Operand.{Operand}
use Rattle.jn_points.specs.declared.point.Operator.{Operator}
use Rattle.jn_points.specs.declared.point.Operator.TheVariants.{Add, Sub, Mul, Div, Rem, Less, LessEqual, Greater, GreaterEqual, Equal, NotEqual}
use Rattle.jn_points.specs.declared.point.Point.{Point}
use Rattle.jn_points.specs.declared.point.PointKind.{PointKind}
use Rattle.jn_points.specs.declared.point.PointKind.TheVariants.{Const, Move, Binary, FieldRead, StaticRead, ElemRead, ArrayLen, Call}
use Rattle.jn_points.specs.declared.program.Body.{Body}
use Rattle.jn_points.specs.Members.{same_flag}
use Rattle.jn_points.specs.Operands.{operand_if}
use Rattle.jn_unkept.specs.declared.alike.Held.{Held}
use Rattle.jn_unkept.specs.declared.alike.Pair.{Pair}
use Rattle.jn_unkept.specs.Making.{is_local, maker, point_of}

-- ---- points of one form

-- a number for each operator
abbrev pub operator_no : Operator → ℕ
operator_no Add = 0
operator_no Sub = 1
operator_no Mul = 2
operator_no Div = 3
operator_no Rem = 4
operator_no Less = 5
operator_no LessEqual = 6
operator_no Greater = 7
operator_no GreaterEqual = 8
operator_no Equal = 9
operator_no NotEqual = 10

-- the same literal (JLS 8, 15.8.1)
abbrev pub same_literal : Literal → Literal → Bool
same_literal (Int n) (Int m) = int_eq n m
same_literal (Truth v) (Truth w) = same_flag v w
same_literal (Str n) (Str m) = eqb n.0 m.0
same_literal Null Null = true
same_literal v w = false

-- a receiver is there in both or in neither
abbrev pub both_or_none : Option Operand → Option Operand → Bool
both_or_none None None = true
both_or_none (Some x) (Some y) = true
both_or_none x y = false

-- both write a copy, the same literal, field or operation, an array's element or length, or the result of the same method
abbrev pub same_form : PointKind → PointKind → Bool
same_form (Const dst v) (Const dst2 w) = same_literal v w
same_form (Move dst from bound) (Move dst2 from2 bound2) = true
same_form (Binary dst o l r) (Binary dst2 o2 l2 r2) = eqb (operator_no o) (operator_no o2)
same_form (FieldRead dst object f) (FieldRead dst2 object2 g) = eqb f.0 g.0
same_form (StaticRead dst f) (StaticRead dst2 g) = eqb f.0 g.0
same_form (ElemRead dst array i) (ElemRead dst2 array2 j) = true
same_form (ArrayLen dst array) (ArrayLen dst2 array2) = true
same_form (Call dst m receiver direct args) (Call dst2 n receiver2 direct2 args2) = eqb m.0 n.0 && (both_or_none receiver receiver2 && eqb (length args) (length args2))
same_form kind other = false

-- from what a point of such a form makes its value
abbrev pub made_of : PointKind → List Operand
made_of (Move dst from bound) = from ∷ []
made_of (Binary dst o l r) = l ∷ r ∷ []
made_of (FieldRead dst object f) = object ∷ []
made_of (ElemRead dst array i) = array ∷ i ∷ []
made_of (ArrayLen dst array) = array ∷ []
made_of (Call dst m receiver direct args) = operand_if receiver ++ args
made_of kind = []

-- ---- pairs of values

-- two operands, each before its point
abbrev pub pair_of : ℕ → Operand → ℕ → Operand → Pair
pair_of i x j y = record { left = record { point = i; reg = x.reg.0 }; right = record { point = j; reg = y.reg.0 } }

-- operand by operand
abbrev pub paired : ℕ → List Operand → ℕ → List Operand → List Pair
paired i [] j ys = []
paired i (x ∷ xs) j [] = []
paired i (x ∷ xs) j (y ∷ ys) = pair_of i x j y ∷ paired i xs j ys

-- points that are both there and of the same form
abbrev pub are_same : Option Point → Option Point → Bool
are_same None q = false
are_same (Some p) None = false
are_same (Some p) (Some q) = same_form p.kind q.kind

-- what two points make their values from, in pairs
abbrev pub points_from : ℕ → Option Point → ℕ → Option Point → List Pair
points_from i None j q = []
points_from i (Some p) j None = []
points_from i (Some p) j (Some q) = paired i (made_of p.kind) j (made_of q.kind)

module _ (x : Body) where
  -- the point that makes a value
  abbrev pub origin : Held → Option ℕ
  origin v = maker x v.point v.reg

  -- the points of these numbers are so
  abbrev pub made_same : Option ℕ → Option ℕ → Bool
  made_same None j = false
  made_same (Some i) None = false
  made_same (Some i) (Some j) = are_same (point_of x i) (point_of x j)

  -- one of the two is a local, parameter or `this`
  abbrev pub is_named : Pair → Bool
  is_named v = is_local x v.left.reg || is_local x v.right.reg

  -- both are the same local, parameter or `this`, or made by points of the same form
  abbrev pub is_like : Pair → Bool
  is_like v = cond (is_named v) (eqb v.left.reg v.right.reg) (made_same (origin v.left) (origin v.right))

  -- the same of the points of these numbers
  abbrev pub numbers_from : Option ℕ → Option ℕ → List Pair
  numbers_from None j = []
  numbers_from (Some i) None = []
  numbers_from (Some i) (Some j) = points_from i (point_of x i) j (point_of x j)

  -- what two values are made from, in pairs; nothing where one is a local, parameter or `this`
  abbrev pub made_from : Pair → List Pair
  made_from v = cond (is_named v) [] (numbers_from (origin v.left) (origin v.right))

  -- each pair is alike, and so is what these are made from, in at most n rounds
  abbrev pub all_alike : ℕ → List Pair → Bool
  all_alike n [] = true
  all_alike zero (v ∷ vs) = false
  all_alike (suc n) (v ∷ vs) = list_all is_like (v ∷ vs) && all_alike n (flat_map made_from (v ∷ vs))

  -- two values are made alike: each round goes back to points before, so that there are at most as many as points
  abbrev pub alike : Held → Held → Bool
  alike left right = all_alike (length x.points) (record { left = left; right = right } ∷ [])
