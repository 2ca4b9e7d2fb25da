-- The methods that override, as a list that is made once.
use Rattle.std.specs.Prelude.{ℕ, ◌≡◌, ◌<◌, List, [], ◌∷◌, length, map, flat_map, Some, slice_get}
use Rattle.jn_points.specs.declared.program.Program.{Program}
use Rattle.jn_points.specs.Members.{below}
use Rattle.jn_contrib.specs.declared.listed.Overrider.{Overrider}
use Rattle.jn_transfer.specs.Pairs.{under, overriders}

-- the method with those that it overrides, where it overrides some
abbrev pub entry_if : ℕ → List ℕ → List Overrider
entry_if m [] = []
entry_if m (k ∷ ks) = record { method = m; under = k ∷ ks } ∷ []

-- all of them, in the order of methods
abbrev pub all_overriders : Program → List Overrider
all_overriders P = flat_map (λ m. entry_if m (under P m)) (below (length P.methods))

-- these are the methods that override, in their order, each with those that it overrides
pub record AreOverriders (P : Program) (list : List Overrider) : Type 0 where
  pub methods : map (λ o. o.method) list ≡ overriders P
  pub inside : (j : ℕ) (o : Overrider) → slice_get list j ≡ Some o → o.method < length P.methods
  pub under : (j : ℕ) (o : Overrider) → slice_get list j ≡ Some o → o.under ≡ under P o.method
