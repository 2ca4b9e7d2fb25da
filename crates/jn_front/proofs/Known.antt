-- How many names there are once others are merged into them.
use Rattle.std.proofs.Common.{ℕ, ◌+◌, ◌≤◌, Bool, true, false, List, [], ◌∷◌, ◌++◌, length, arith, length-append}
use Rattle.std.specs.Prelude.{bytes_eq, if◌then◌else◌}
use Rattle.std.specs.List.{list_any}
use Rattle.jn_trees.specs.Names.{with_name}
use Rattle.jn_renumber.specs.Merged.{merged}

one_more : (known : Bool) (names : List (List ℕ)) (text : List ℕ) → length (if known then names else names ++ text ∷ []) ≤ length names + 1
one_more true names text = omega arith
one_more false names text = omega (arith, length-append names (text ∷ []))

pub merged_length : (names others : List (List ℕ)) → length (merged names others) ≤ length names + length others
merged_length names [] = omega arith
merged_length names (text ∷ others) =
    let more = one_more (list_any (bytes_eq text) names) names text in
    let ih = merged_length (with_name names text) others in
    omega (arith, more, ih)
