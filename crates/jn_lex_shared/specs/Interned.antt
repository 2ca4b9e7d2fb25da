-- Texts that are numbered one after another.
use Rattle.std.specs.Prelude.{ℕ, Bool, true, List, [], ◌∷◌, ◌++◌, bytes_eq, not, ◌&&◌}
use Rattle.std.specs.List.{list_any}
use Rattle.std.specs.Borrow.{Bor}
use Rattle.jn_trees.specs.Names.{with_name}

abbrev pub interned : List (List ℕ) → List (Bor (List ℕ)) → List (List ℕ)
interned names [] = names
interned names (b ∷ bs) = interned (with_name names b.now) bs

-- each text stands neither among the names nor before itself
abbrev pub all_new : List (List ℕ) → List (Bor (List ℕ)) → Bool
all_new names [] = true
all_new names (b ∷ bs) = not (list_any (bytes_eq b.now) names) && all_new (names ++ b.now ∷ []) bs
