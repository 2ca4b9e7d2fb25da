-- What makes the value of a register: the last point before, by numbers, that writes it.
use Rattle.std.specs.Prelude.{ℕ, zero, suc, Bool, false, cond, eqb, ltb, Option, Some, None, slice_get}
use Rattle.jn_points.specs.declared.point.Point.{Point}
use Rattle.jn_points.specs.declared.program.Body.{Body}
use Rattle.jn_points.specs.Shaped.{writes}

-- the last of the numbers below n that meets the test
abbrev pub last_below : (ℕ → Bool) → ℕ → Option ℕ
last_below test zero = None
last_below test (suc n) = cond (test n) (Some n) (last_below test n)

-- it is this register
abbrev pub is_reg : ℕ → Option ℕ → Bool
is_reg r None = false
is_reg r (Some n) = eqb n r

-- the point writes the register
abbrev pub is_written : ℕ → Option Point → Bool
is_written r None = false
is_written r (Some pt) = is_reg r (writes pt.kind)

module _ (x : Body) where
  -- the point of a number, None where the body has none
  abbrev pub point_of : ℕ → Option Point
  point_of p = slice_get x.points p

  -- the register is that of `this`, a parameter or a local
  abbrev pub is_local : ℕ → Bool
  is_local r = ltb r x.locals

  -- the point that makes what a register has before point p
  abbrev pub maker : ℕ → ℕ → Option ℕ
  maker p r = last_below (λ q. is_written r (point_of q)) p
