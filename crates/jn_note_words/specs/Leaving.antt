-- The read of a field by which a chain leaves its first registers: what a slot has comes from no read of the body.
use Rattle.std.specs.Prelude.{ℕ, Bool, true, false, cond, eqb, List, [], ◌∷◌, Option, Some, None}
use Rattle.std.specs.Option.{option_or}
use Rattle.jn_points.specs.declared.point.Point.{Point}
use Rattle.jn_points.specs.declared.point.PointKind.{PointKind}
use Rattle.jn_points.specs.declared.point.PointKind.TheVariants.{FieldRead}
use Rattle.jn_points.specs.declared.program.Program.{Program}
use Rattle.jn_points.specs.Lookup.{point_at}
use Rattle.jn_reasons_law.specs.declared.item.Bit.TheVariants.{Nullable}
use Rattle.jn_reasons_law.specs.declared.item.Item.{Item}
use Rattle.jn_reasons_law.specs.declared.item.Item.TheVariants.{AtRegister}
use Rattle.jn_reasons_law.specs.declared.item.Place.{Place}
use Rattle.jn_reasons_law.specs.declared.item.Place.TheVariants.{OfPoint}
use Rattle.jn_reasons_law.specs.declared.item.Step.{Step}
use Rattle.jn_note_words.specs.declared.leaving.ReadAt.{ReadAt}

-- the point writes the register with a field that it reads
abbrev pub read_by : ℕ → ℕ → ℕ → PointKind → Option ReadAt
read_by b p r (FieldRead dst object f) = cond (eqb dst.0 r) (Some (record { body = b; point = p; object = object.reg.0; field = f.0 })) None
read_by b p r kind = None

-- the same of a point that may be missing
abbrev pub read_at : ℕ → ℕ → ℕ → Option Point → Option ReadAt
read_at b p r None = None
read_at b p r (Some pt) = read_by b p r pt.kind

-- a null in a register comes from a point
abbrev pub is_carried : Item → Place → Bool
is_carried (AtRegister b p r Nullable) (OfPoint c q) = true
is_carried item place = false

-- a step of a null in a register that a point put there, after which the chain goes on in the body
abbrev pub goes_on : Step → Bool
goes_on x = is_carried x.item x.place

module _ (P : Program) where
  -- the read by which a null in a register comes from a point
  abbrev pub read_from : Item → Place → Option ReadAt
  read_from (AtRegister b p r Nullable) (OfPoint c q) = read_at c q r (point_at P c q)
  read_from item place = None

  -- the first read of the steps, before they leave the registers: what a slot has comes from no read here
  abbrev pub read_in : List Step → Option ReadAt
  read_in [] = None
  read_in (x ∷ xs) = option_or (read_from x.item x.place) (cond (goes_on x) (read_in xs) None)
