-- The methods that override which stand at a place of the text.
use Rattle.std.specs.Prelude.{ℕ, ◌≡◌, Bool, false, List, [], ◌∷◌, ◌++◌, Option, Some, None, filter, flat_map, map}
use Rattle.jn_base.specs.declared.place.Span.{Span}
use Rattle.jn_points.specs.declared.program.Method.{Method}
use Rattle.jn_points.specs.declared.program.Program.{Program}
use Rattle.jn_points.specs.Lookup.{method_at}
use Rattle.jn_transfer.specs.Pairs.{overriders, under}
use Rattle.jn_contrib.specs.declared.listed.Overrider.{Overrider}
use Rattle.jn_sites.specs.Sites.{at_place, key_eq, key_of}

-- a method is there, and stands at the place
abbrev pub is_there : Span → Option Method → Bool
is_there z None = false
is_there z (Some m) = key_eq (key_of m.span) (key_of z)

-- the overrider, where its method is there and stands at the place
abbrev pub near_if : Option Method → Overrider → Span → List Overrider
near_if None o z = []
near_if (Some m) o z = at_place Overrider m.span o z

module _ (P : Program) where
  -- those of these methods that stand at the place
  abbrev pub standing : Span → List ℕ → List ℕ
  standing z ms = filter (λ m. is_there z (method_at P m)) ms

  -- those of these overriders that stand at the place
  abbrev pub near : List Overrider → Span → List Overrider
  near list z = flat_map (λ o. near_if (method_at P o.method) o z) list

  -- each has the methods that it overrides
  abbrev pub HaveUnder : List Overrider → Type 0
  HaveUnder [] = Unit {0}
  HaveUnder (o ∷ os) = (o.under ≡ under P o.method) × HaveUnder os

  -- those of them that stand at the place are those of all methods that override, in their order
  pub record AreNear (z : Span) (list : List Overrider) : Type 0 where
    pub methods : standing z (map (λ o. o.method) list) ≡ standing z (overriders P)
    pub under : HaveUnder list
