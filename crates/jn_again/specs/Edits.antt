-- What is known of an earlier system, the one that it has become, and what bodies of the earlier one can reach.
use Rattle.std.specs.Prelude.{ℕ, ◌≡◌, Bool, List, length}
use Rattle.std.proofs.Math.Nat.{ℕ_set}
use Rattle.std.specs.Coded.{le_prop}
use mathlib.Core.Bool.{Bool-set}
use mathlib.Core.List.{is_set}
use Rattle.jn_base.specs.declared.number.WordNo.{WordNo}
use Rattle.jn_sigtable.specs.System.{System}
use Rattle.jn_resume.specs.Keepable.{IsEditOf}
use Rattle.jn_again.specs.Losing.{told}

-- the one is an edit of the other, but for the bodies that are flagged; what is reached is told of the earlier one's bodies, each of which has a flag
pub record AreReady (old new reached : System) (before start last : List ℕ) (changed : List Bool) : Type 0 where
  pub edit : IsEditOf old new before start last (told changed)
  pub reach : reached ≡ old
  pub flags : length changed ≡ old.bodies
  pub last_count : length last ≡ old.words

words_set : IsSet (List ℕ)
words_set = is_set ℕ_set

pair_set : IsSet (WordNo × ℕ)
pair_set = hlevel ℕ_set

outputs_set : IsSet (List (WordNo × ℕ))
outputs_set = is_set pair_set

system_set : IsSet System
system_set = hlevel (ℕ_set, Bool-set, outputs_set)

edit_prop : (old new : System) (before start last : List ℕ) (changed : ℕ → Bool) → IsProp (IsEditOf old new before start last changed)
edit_prop old new before start last changed = hlevel (ℕ_set, words_set, outputs_set, le_prop)

-- this is one fact
pub ready_prop : (old new reached : System) (before start last : List ℕ) (changed : List Bool) → IsProp (AreReady old new reached before start last changed)
ready_prop old new reached before start last changed = hlevel (ℕ_set, system_set, edit_prop)
