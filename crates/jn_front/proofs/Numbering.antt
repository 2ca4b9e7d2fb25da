-- Trees whose names have their numbers.
use Rattle.std.proofs.Common.{◌≡◌, ℕ, suc, ◌<◌, List, [], ◌∷◌, length, map, get_or, refl, arith}
use Rattle.jn_places.specs.PlacedView.{placed_file}
use Rattle.jn_front.specs.declared.renumbering.Numbered.{Numbered}
use Rattle.jn_front.specs.Numbered.{numbered_tree, tree_of}

-- trees that have their numbers one by one have them all
pub all_numbered : (before after : List Numbered) → length after ≡ length before → ((at : ℕ) (d : Numbered) → at < length before → placed_file (get_or after at d).tree ≡ numbered_tree (get_or before at d)) → map placed_file (map tree_of after) ≡ map numbered_tree before
all_numbered [] [] many each = refl
all_numbered [] (other ∷ after) many each = absurd (omega (arith, many))
all_numbered (one ∷ before) [] many each = absurd (omega (arith, many))
all_numbered (one ∷ before) (other ∷ after) many each =
    let many' : length after ≡ length before = omega (arith, many) in
    let rest = all_numbered before after many' (λ at d lt. each (suc at) d (omega (arith, lt))) in
    let first = each 0 one (omega arith) in
    λ i. first i ∷ rest i
