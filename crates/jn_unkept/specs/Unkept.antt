-- A test that isn't kept: a value was read by what keeps no test of it, or the result of a test was stored; and the last test before of a value that is
-- made alike.
use Rattle.std.specs.Prelude.{ℕ, ◌+◌, Bool, true, false, cond, eqb, ltb, ◌&&◌, Option, Some, None}
use Rattle.jn_points.specs.declared.point.Literal.TheVariants.{Truth}
use Rattle.jn_points.specs.declared.point.Point.{Point}
use Rattle.jn_points.specs.declared.point.PointKind.{PointKind}
use Rattle.jn_points.specs.declared.point.PointKind.TheVariants.{Branch, Call, Const, ElemRead, FieldRead, Goto, Move, TestInst, TestNull}
use Rattle.jn_points.specs.declared.program.Body.{Body}
use Rattle.jn_points.specs.declared.program.Program.{Program}
use Rattle.jn_points.specs.Lookup.{body_at}
use Rattle.jn_unkept.specs.declared.alike.Held.{Held}
use Rattle.jn_unkept.specs.declared.search.Reading.{Reading}
use Rattle.jn_unkept.specs.declared.search.Reading.TheVariants.{OfField, OfElement, OfResult, Stored}
use Rattle.jn_unkept.specs.declared.search.Unkept.{Unkept}
use Rattle.jn_unkept.specs.declared.stored.Test.{Test}
use Rattle.jn_unkept.specs.Alike.{alike}
use Rattle.jn_unkept.specs.Making.{is_local, last_below, maker, point_of}

-- ---- tests

-- the register that a point tests, and the two points to which it goes
abbrev pub test_by : PointKind → Option Test
test_by (TestInst of class origin at_yes at_no) = Some (record { reg = of.reg.0; first = at_yes.0; second = at_no.0 })
test_by (TestNull of origin at_null at_value) = Some (record { reg = of.reg.0; first = at_null.0; second = at_value.0 })
test_by kind = None

-- the same of a point that may be missing
abbrev pub test_of : Option Point → Option Test
test_of None = None
test_of (Some pt) = test_by pt.kind

-- ---- a stored result

-- the register to which `true` or `false` is written
abbrev pub truth_by : PointKind → Option ℕ
truth_by (Const dst (Truth v)) = Some dst.0
truth_by kind = None

-- the same of a point that may be missing
abbrev pub truth_of : Option Point → Option ℕ
truth_of None = None
truth_of (Some pt) = truth_by pt.kind

-- where a run goes on from point p: a jump goes elsewhere
abbrev pub goes_on : ℕ → PointKind → ℕ
goes_on p (Goto to) = to.0
goes_on p kind = p

-- the same of a point that may be missing
abbrev pub over_jump : ℕ → Option Point → ℕ
over_jump p None = p
over_jump p (Some pt) = goes_on p pt.kind

-- the register to which that of number r is copied
abbrev pub copy_by : ℕ → PointKind → Option ℕ
copy_by r (Move dst from bound) = cond (eqb from.reg.0 r) (Some dst.0) None
copy_by r kind = None

-- the same of a point that may be missing
abbrev pub copy_of : ℕ → Option Point → Option ℕ
copy_of r None = None
copy_of r (Some pt) = copy_by r pt.kind

-- the first where there is one, else the second
abbrev pub or_reg : Option ℕ → Option ℕ → Option ℕ
or_reg None y = y
or_reg (Some r) y = Some r

-- the point goes one way or the other by what this register has
abbrev pub asks : ℕ → PointKind → Bool
asks r (Branch of at_yes at_no) = eqb of.reg.0 r
asks r kind = false

-- the same of a point that may be missing
abbrev pub is_asked : ℕ → Option Point → Bool
is_asked r None = false
is_asked r (Some pt) = asks r pt.kind

-- the number is there, and it is above the other
abbrev pub is_after : ℕ → Option ℕ → Bool
is_after q None = false
is_after q (Some k) = ltb q k

-- of a field: a test is kept of one of a local, a parameter or `this`, unless its result is stored
abbrev pub field_of : Bool → Reading
field_of true = Stored
field_of false = OfField

-- where a test would be kept, its result is in a local
abbrev pub counts : Reading → Option ℕ → Bool
counts Stored None = false
counts Stored (Some r) = true
counts reading local = true

module _ (x : Body) where
  -- the local, where it is one
  abbrev pub local_of : Option ℕ → Option ℕ
  local_of None = None
  local_of (Some r) = cond (is_local x r) (Some r) None

  -- the local to which goes, after point c, what that writes
  abbrev pub copied_after : ℕ → Option ℕ → Option ℕ
  copied_after c None = None
  copied_after c (Some r) = local_of (copy_of r (point_of x (over_jump (c + 1) (point_of x (c + 1)))))

  -- the local to which point c sends `true` or `false`
  abbrev pub truth_goes : ℕ → Option ℕ
  truth_goes c = copied_after c (truth_of (point_of x c))

  -- the local in which the result of a test is stored
  abbrev pub stored_in : Test → Option ℕ
  stored_in t = or_reg (truth_goes t.first) (truth_goes t.second)

  -- the same of a point that may test nothing
  abbrev pub stored_at : Option Test → Option ℕ
  stored_at None = None
  stored_at (Some t) = stored_in t

  -- ---- how a value is read

  -- by what a point reads a value that may be null
  abbrev pub reading_by : PointKind → Option Reading
  reading_by (FieldRead dst object f) = Some (field_of (is_local x object.reg.0))
  reading_by (ElemRead dst array i) = Some OfElement
  reading_by (Call dst m receiver direct args) = Some OfResult
  reading_by kind = None

  -- the same of a point that may be missing
  abbrev pub reading_of : Option Point → Option Reading
  reading_of None = None
  reading_of (Some pt) = reading_by pt.kind

  -- the same of its number
  abbrev pub reading_at : Option ℕ → Option Reading
  reading_at None = None
  reading_at (Some i) = reading_of (point_of x i)

  -- how a value is read: a test is kept of what a local, a parameter or `this` has, unless its result is stored
  abbrev pub how_read : Held → Option Reading
  how_read v = cond (is_local x v.reg) (Some Stored) (reading_at (maker x v.point v.reg))

  -- ---- the last test

  -- point q tests what is made alike
  abbrev pub tests_alike : Reading → Held → ℕ → Option Test → Bool
  tests_alike reading v q None = false
  tests_alike reading v q (Some t) = counts reading (stored_in t) && alike x v (record { point = q; reg = t.reg })

  -- the last point before that does so
  abbrev pub last_test : Reading → Held → Option ℕ
  last_test reading v = last_below (λ q. tests_alike reading v q (test_of (point_of x q))) v.point

  -- between point q and the value the way goes by what the local has
  abbrev pub branches : Held → ℕ → Option ℕ → Bool
  branches v q None = false
  branches v q (Some r) = is_after q (last_below (λ k. is_asked r (point_of x k)) v.point)

  -- where a test would be kept, the way goes by its result
  abbrev pub matters : Reading → Held → ℕ → Bool
  matters Stored v q = branches v q (stored_at (test_of (point_of x q)))
  matters reading v q = true

  -- the test at a point, where it matters
  abbrev pub found_at : Reading → Held → Option ℕ → Option Unkept
  found_at reading v None = None
  found_at reading v (Some q) = cond (matters reading v q) (Some (record { reading = reading; tested = q })) None

  -- the test of a value that is read so
  abbrev pub found_by : Held → Option Reading → Option Unkept
  found_by v None = None
  found_by v (Some reading) = found_at reading v (last_test reading v)

  -- the test of a value that isn't kept
  abbrev pub found_of : Held → Option Unkept
  found_of v = found_by v (how_read v)

-- the same in a body that may be missing
abbrev pub found_in : Held → Option Body → Option Unkept
found_in v None = None
found_in v (Some x) = found_of x v

-- the test that isn't kept of a value of body b: the last before of what is made alike
abbrev pub unkept : Program → ℕ → Held → Option Unkept
unkept P b v = found_in v (body_at P b)
