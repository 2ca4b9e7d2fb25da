-- How much an environment or a table lets be: it rises wherever the order does.
use Rattle.std.specs.Prelude.{ℕ, ◌+◌, Bool, cond, List, [], ◌∷◌, Option, Some, None}
use Rattle.jn_quals.specs.Qualifier.{Qualifier}
use Rattle.jn_env.specs.Environment.{Env}
use Rattle.jn_env.specs.Order.{Table}

abbrev pub qual_weight : Qualifier → ℕ
qual_weight q = cond q.null 1 0 + cond q.committed 1 0 + cond q.free 1 0

abbrev pub quals_weight : List Qualifier → ℕ
quals_weight [] = 0
quals_weight (q ∷ qs) = qual_weight q + quals_weight qs

-- what is not known
abbrev pub bits_weight : List Bool → ℕ
bits_weight [] = 0
bits_weight (b ∷ bs) = cond b 0 1 + bits_weight bs

abbrev pub slot_weight : Option Env → ℕ
slot_weight None = 0
slot_weight (Some e) = 1 + quals_weight e.quals + bits_weight e.facts + bits_weight e.assigned

abbrev pub weight : Table → ℕ
weight [] = 0
weight (a ∷ t) = slot_weight a + weight t
