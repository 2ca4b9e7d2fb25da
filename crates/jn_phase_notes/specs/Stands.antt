-- Where each name in scope stands among them.
use Rattle.std.specs.Prelude.{ℕ, ◌≡◌, ◌<◌, cond, nat_eq, List, length, slice_get, slice_index_or, Option, Some, None, option_and_then}
use Rattle.std.specs.HashMap as hash
use Rattle.std.specs.HashMap.{HashMap}
use Rattle.jn_trees.specs.declared.expression.Identifier.{Identifier}
use Rattle.jn_phase_notes.specs.Earlier.{has_name}

-- of each name in scope the table says the place; of others it may say anything
abbrev pub SaysPlaces : {S : Type 0} → List Identifier → HashMap ℕ ℕ S → Type 0
SaysPlaces names places = (i : ℕ) (x : Identifier) → i < length names → hash.get nat_eq places (slice_index_or names i x).name.0 ≡ Some i

-- the name at the place, if it has that number
abbrev pub named_at : List Identifier → ℕ → ℕ → Option Identifier
named_at names p n = option_and_then (λ (x : Identifier). cond (has_name n x) (Some x) None) (slice_get names p)
