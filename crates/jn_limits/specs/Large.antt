-- The facts of a body, as codes.
use Rattle.std.specs.Prelude.{ℕ, ◌+◌, ◌*◌, ◌<◌, ◌&&◌, ltb, List, [], ◌∷◌, filter, flat_map}
use Rattle.jn_points.specs.declared.point.Point.{Point}
use Rattle.jn_points.specs.declared.point.PointKind.{PointKind}
use Rattle.jn_points.specs.declared.program.Program.{Program}
use Rattle.jn_points.specs.Lookup.{ref_field}
use Rattle.jn_env.specs.Keys.{Key, kind_keys}

-- a key as one number
abbrev pub code : Key → ℕ
code k = k.reg * 4294967296 + k.field

-- its numbers fit
abbrev pub IsNarrow : Key → Type 0
IsNarrow k = (k.reg < 4294967296) × (k.field < 4294967296)

abbrev pub AllNarrow : List Key → Type 0
AllNarrow [] = Unit {0}
AllNarrow (k ∷ ks) = IsNarrow k × AllNarrow ks

module _ (P : Program) (n : ℕ) where
  -- the facts of one point, where so many registers are locals
  abbrev pub facts_at : PointKind → List Key
  facts_at kind = filter (λ k. ltb k.reg n && ref_field P k.field) (kind_keys kind)

  -- of several, as often as they stand there
  abbrev pub facts_of : List Point → List Key
  facts_of points = filter (λ k. ltb k.reg n && ref_field P k.field) (flat_map (λ pt. kind_keys pt.kind) points)
