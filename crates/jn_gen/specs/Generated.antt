-- The generated program, line by line.
use Rattle.std.specs.Prelude.{ℕ, zero, suc, ◌++◌, List, [], ◌∷◌, codes, decimal}
use Rattle.std.specs.List.{flat_map}

-- a class whose name ends in the number
unfoldable pub class_lines : ℕ → List (List ℕ)
class_lines k =
    (codes "class G" ++ decimal k ++ codes " {")
    ∷ (codes "  private @Nullable G" ++ decimal k ++ codes " next;")
    ∷ codes "  private String tag;"
    ∷ (codes "  G" ++ decimal k ++ codes "(String t) { this.tag = t; }")
    ∷ (codes "  private String pick(G" ++ decimal k ++ codes " o) {")
    ∷ codes "    if (o == null) return this.tag;"
    ∷ codes "    return o.tag;"
    ∷ codes "  }"
    ∷ codes "  String run() { return pick(next) + pick(this); }"
    ∷ codes "}"
    ∷ []

-- the classes with the numbers below n, one after the other
abbrev pub program_lines : ℕ → List (List ℕ)
program_lines zero = []
program_lines (suc n) = program_lines n ++ class_lines n

-- each line is ended by a line feed
abbrev pub text_of : List (List ℕ) → List ℕ
text_of lines = flat_map (λ line. line ++ codes "\n") lines
