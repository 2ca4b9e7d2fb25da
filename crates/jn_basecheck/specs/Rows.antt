-- The rows J7 to J10 body by body and point by point.
use Rattle.std.specs.Prelude.{ℕ, ◌≡◌, ◌<◌, ◌≤◌, ◌⊎◌, ◌↔◌, ◌&&◌, true, false, not, cond, ltb, List, [], ◌∷◌, get_or, length, Bool, Option, Some}
use Rattle.std.specs.List.{Contains}
use Rattle.jn_base.specs.declared.place.Row.{Row}
use Rattle.jn_base.specs.declared.code.Code.TheVariants.{J8}
use Rattle.jn_points.specs.declared.point.Operand.{Operand}
use Rattle.jn_points.specs.declared.point.Point.{Point}
use Rattle.jn_points.specs.declared.program.Program.{Program}
use Rattle.jn_points.specs.Lookup.{points_of, body_at, point_at, reg_base}
use Rattle.jn_points.specs.Operands.{operands}
use Rattle.jn_points.specs.BaseRows.{is_void, given, type_rows, result_rows, IsUnassigned}
use Rattle.jn_points.specs.Paths.{Reached}
use Rattle.jn_assigned.specs.Lacking.{is_lacking}

-- the second list has the rows of the first, and those that are meant, and none else
abbrev pub Adds : (Row → Type 0) → List Row → List Row → Type 0
Adds Meant old new = (row : Row) → Contains new row ↔ (Contains old row ⊎ Meant row)

-- a row of one of the first n
abbrev pub Among : (ℕ → Row → Type 0) → ℕ → Row → Type 0
Among Meant n row = (k : ℕ) × (k < n) × Meant k row

-- a register whose value comes from writes alone: neither `this` nor a parameter, nor without a type
abbrev pub needs_write : Program → ℕ → ℕ → Bool
needs_write P b r = not (ltb r (given P b)) && not (is_void (reg_base P b r))

-- what lacks a write at a point is to have one
abbrev pub is_unassigned : Program → ℕ → Option (List Bool) → ℕ → Bool
is_unassigned P b lacks r = is_lacking lacks r && needs_write P b r

-- a row J8 for each operand whose register is unassigned
abbrev pub readings : Program → ℕ → Option (List Bool) → List Operand → List Row
readings P b lacks [] = []
readings P b lacks (a ∷ as') = cond (is_unassigned P b lacks a.reg.0) (record { span = a.span; code = J8 } ∷ readings P b lacks as') (readings P b lacks as')

module _ (P : Program) (b : ℕ) where
  -- a row J7 or J10 of a point
  pub record TypeRowAt (p : ℕ) (row : Row) : Type 0 where
    pub pt : Point
    pub there : point_at P b p ≡ Some pt
    pub broken : Contains (type_rows P b pt.kind) row

  -- a row J9 of a point
  pub record ResultRowAt (p : ℕ) (row : Row) : Type 0 where
    pub pt : Point
    pub there : point_at P b p ≡ Some pt
    pub reached : Reached P b p
    pub broken : Contains (result_rows P b pt.kind) row

  -- a row J8 of a point
  pub record UnassignedAt (p : ℕ) (row : Row) : Type 0 where
    pub pt : Point
    pub operand : Operand
    pub there : point_at P b p ≡ Some pt
    pub read : Contains (operands pt.kind) operand
    pub unassigned : IsUnassigned P b p operand
    pub is : row ≡ record { span = operand.span; code = J8 }

  abbrev pub TypeRows : Row → Type 0
  TypeRows row = Among TypeRowAt (length (points_of (body_at P b))) row

  abbrev pub UnassignedRows : Row → Type 0
  UnassignedRows row = Among UnassignedAt (length (points_of (body_at P b))) row

  abbrev pub ResultRows : Row → Type 0
  ResultRows row = Among ResultRowAt (length (points_of (body_at P b))) row

-- a row of a body at a point that some path comes to
abbrev pub PathRow : Program → ℕ → Row → Type 0
PathRow P b row = UnassignedRows P b row ⊎ ResultRows P b row

-- a row of a body
abbrev pub BodyRow : Program → ℕ → Row → Type 0
BodyRow P b row = TypeRows P b row ⊎ PathRow P b row

-- just the rows of the bodies from one up to another, without that one
abbrev pub AreRowsOf : Program → ℕ → ℕ → List Row → Type 0
AreRowsOf P from to rows = (row : Row) → Contains rows row ↔ ((b : ℕ) × (from ≤ b) × (b < to) × BodyRow P b row)

-- those that are told have no row
abbrev pub AreTyped : Program → List Bool → Type 0
AreTyped P typed = (b : ℕ) (row : Row) → get_or typed b false ≡ true → BodyRow P b row → ⊥
