-- Where values stand that a rule may ask something of: of each place of the text the points at which one does.
use Rattle.std.specs.Prelude.{ℕ, ◌≡◌, Bool, false, ◌||◌, List, [], ◌∷◌, ◌++◌, length, flat_map, Option, Some, None}
use Rattle.jn_base.specs.declared.place.Span.{Span}
use Rattle.jn_points.specs.declared.point.Operand.{Operand}
use Rattle.jn_points.specs.declared.point.Point.{Point}
use Rattle.jn_points.specs.declared.point.PointKind.{PointKind}
use Rattle.jn_points.specs.declared.point.PointKind.TheVariants.{Move, FieldRead, FieldWrite, ElemRead, ElemWrite, ArrayLen, ArrayOf, New, CtorCall, Call, StrOp, Return}
use Rattle.jn_points.specs.declared.program.Program.{Program}
use Rattle.jn_points.specs.Lookup.{body_at, point_at, points_of}
use Rattle.jn_points.specs.Members.{below}
use Rattle.jn_points.specs.Operands.{operand_if}
use Rattle.jn_reasons.specs.declared.sources.Spot.{Spot}
use Rattle.jn_sites.specs.Sites.{Key, AreKept, at_place, key_eq, key_of}

-- the values of a point that a rule may ask something of
abbrev pub asked : PointKind → List Operand
asked (Move dst from bound) = from ∷ []
asked (FieldRead dst object f) = object ∷ []
asked (FieldWrite object f value) = object ∷ value ∷ []
asked (ElemRead dst array i) = array ∷ []
asked (ElemWrite array i value) = array ∷ value ∷ []
asked (ArrayLen dst array) = array ∷ []
asked (ArrayOf dst base values) = values
asked (New dst ctor args) = args
asked (CtorCall ctor args own) = args
asked (Call dst method receiver direct args) = operand_if receiver ++ args
asked (StrOp dst op of other) = of ∷ operand_if other
asked (Return value) = operand_if value
asked kind = []

-- one of the values stands at the place
abbrev pub stands_there : Span → List Operand → Bool
stands_there z [] = false
stands_there z (v ∷ vs) = key_eq (key_of v.span) (key_of z) || stands_there z vs

-- the point, once for each of these values that stands at the place
abbrev pub marks : Spot → List Operand → Span → List Spot
marks spot [] z = []
marks spot (v ∷ vs) z = at_place Spot v.span spot z ++ marks spot vs z

-- the same for the values of a point that may be missing
abbrev pub point_marks : Spot → Option Point → Span → List Spot
point_marks spot None z = []
point_marks spot (Some pt) z = marks spot (asked pt.kind) z

-- a point by its numbers
abbrev pub spot_of : ℕ → ℕ → Spot
spot_of b p = record { body = record { 0 = b }; point = record { 0 = p } }

module _ (P : Program) where
  -- of the points of a body
  abbrev pub body_marks : ℕ → Span → List Spot
  body_marks b z = flat_map (λ p. point_marks (spot_of b p) (point_at P b p) z) (below (length (points_of (body_at P b))))

  -- of all points
  abbrev pub all_marks : Span → List Spot
  all_marks z = flat_map (λ b. body_marks b z) (below (length P.bodies))

  -- of a place for which points are kept those are kept at which a value stands there, in their order
  abbrev pub AreSites : List (Key × List Spot) → Type 0
  AreSites entries = AreKept Spot all_marks entries
