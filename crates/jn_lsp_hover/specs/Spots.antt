-- Where the points of a program read and make values in the text, and which of these places is the narrowest one.
use Rattle.std.specs.Prelude.{ℕ, ◌+◌, ◌-◌, ◌<◌, ◌≤◌, ◌≡◌, Bool, true, false, not, ◌&&◌, All, List, [], ◌∷◌, ◌++◌, bytes_eq, codes, eqb, map, nat_le, nat_lt, Option, Some, None}
use Rattle.jn_base.specs.declared.place.Span.{Span}
use Rattle.jn_points.specs.declared.point.Operand.{Operand}
use Rattle.jn_points.specs.declared.point.Point.{Point}
use Rattle.jn_points.specs.declared.program.Body.{Body}
use Rattle.jn_points.specs.declared.program.Program.{Program}
use Rattle.jn_points.specs.Lookup.{method_in, static_of}
use Rattle.jn_points.specs.Operands.{operands}
use Rattle.jn_points.specs.Shaped.{writes}
use Rattle.jn_splice_law.specs.Woven.{piece}
use Rattle.jn_lsp_hover.specs.declared.spot.Spot.{Spot}

-- ---- all places

module _ (b p : ℕ) where
  -- where an operand stands, whose register is read
  abbrev pub read : Operand → Spot
  read a = record { body = b; point = p; reg = a.reg.0; span = a.span; is_made = false }

  -- where that stands whose value a point puts into a register
  abbrev pub made : Span → Option ℕ → List Spot
  made span None = []
  made span (Some r) = record { body = b; point = p; reg = r; span = span; is_made = true } ∷ []

  -- what a point reads, and then what it makes
  abbrev pub spots_of_point : Point → List Spot
  spots_of_point pt = map read (operands pt.kind) ++ made pt.span (writes pt.kind)

-- the points from the number p on
abbrev pub spots_of_points : ℕ → ℕ → List Point → List Spot
spots_of_points b p [] = []
spots_of_points b p (pt ∷ pts) = spots_of_point b p pt ++ spots_of_points b (p + 1) pts

-- the bodies from the number b on
abbrev pub spots_of_bodies : ℕ → List Body → List Spot
spots_of_bodies b [] = []
spots_of_bodies b (body ∷ bodies) = spots_of_points b 0 body.points ++ spots_of_bodies (b + 1) bodies

-- all of a program, by body and point
abbrev pub spots_of : Program → List Spot
spots_of P = spots_of_bodies 0 P.bodies

-- ---- those at a byte

-- the span is one of the file's, and the byte is in it
abbrev pub has_byte : ℕ → ℕ → Span → Bool
has_byte file offset span = eqb span.file.0 file && (nat_le span.from offset && nat_lt offset span.to)

-- the register is that of `this`
abbrev pub is_this : Program → Spot → Bool
is_this P spot = eqb spot.reg 0 && not (static_of (method_in P spot.body))

-- the value stands in the text as it is: a `this` that isn't written is read where a member's name stands (JLS 8, 6.5.6.1 and 15.12.4.1)
abbrev pub is_written : Program → List ℕ → Spot → Bool
is_written P text spot = not (is_this P spot && not (bytes_eq (piece text spot.span) (codes "this")))

-- the byte of the file's text is in what stands there
abbrev pub is_there : Program → ℕ → List ℕ → ℕ → Spot → Bool
is_there P file text offset spot = has_byte file offset spot.span && is_written P text spot

-- ---- the narrowest

-- how many bytes it has
abbrev pub width : Spot → ℕ
width spot = spot.span.to - spot.span.from

-- none is narrower, and none before it is as narrow
pub record IsNarrowest (spots : List Spot) (spot : Spot) : Type 0 where
  pub before : List Spot
  pub behind : List Spot
  pub among : spots ≡ before ++ spot ∷ behind
  pub first : All (λ other. width spot < width other) before
  pub least : All (λ other. width spot ≤ width other) behind

-- the narrowest, where there are any
abbrev pub IsNarrowestOf : List Spot → Option Spot → Type 0
IsNarrowestOf spots None = spots ≡ []
IsNarrowestOf spots (Some spot) = IsNarrowest spots spot
