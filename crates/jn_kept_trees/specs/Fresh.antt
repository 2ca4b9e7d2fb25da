-- What becomes of the texts of files of which some have kept trees.
use Rattle.std.specs.Prelude.{ℕ, ◌≡◌, ◌<◌, Bool, true, false, List, [], ◌∷◌, length, Option, Some, None, get_or}
use Rattle.jn_base.specs.declared.place.Row.{Row}
use Rattle.jn_front.specs.declared.source.SourceRead.{SourceRead}
use Rattle.jn_front.specs.declared.outcome.Outcome.{Outcome}
use Rattle.jn_front.specs.declared.outcome.Outcome.TheVariants.{Lexical, Syntax, Tree}
use Rattle.jn_front.specs.Outcomes.{IsOutcomeOf}
use Rattle.jn_kept_trees.specs.declared.kept.KeptTree.{KeptTree}

-- the outcome of the k-th file that was read, where it has no kept tree, and none where it has one
abbrev pub IsFreshOf : List SourceRead → List Bool → ℕ → Option Outcome → Type 0
IsFreshOf reads kept k None = get_or kept k false ≡ true
IsFreshOf reads kept k (Some outcome) = (get_or kept k false ≡ false) × IsOutcomeOf reads k outcome

pub record AreFresh (reads : List SourceRead) (kept : List Bool) (fresh : List (Option Outcome)) : Type 0 where
  pub long : length fresh ≡ length reads
  pub each : (k : ℕ) → k < length reads → IsFreshOf reads kept k (get_or fresh k None)

-- there is a tree
abbrev pub has_tree : Option KeptTree → Bool
has_tree None = false
has_tree (Some kept) = true

-- what is to be kept of a text with this outcome
abbrev pub kept_of : Outcome → Option KeptTree
kept_of (Lexical row) = None
kept_of (Syntax row) = None
kept_of (Tree own tree) = Some (record { own = own; numbers = None; tree = tree })

-- what is kept then, where this was
abbrev pub updated : Option KeptTree → Option Outcome → Option KeptTree
updated before None = before
updated before (Some outcome) = kept_of outcome

-- the lexical faults
abbrev pub lexical_of : Option Outcome → List Row → List Row
lexical_of None rows = rows
lexical_of (Some (Lexical row)) rows = row ∷ rows
lexical_of (Some (Syntax row)) rows = rows
lexical_of (Some (Tree own tree)) rows = rows

abbrev pub lexical_rows : List (Option Outcome) → List Row
lexical_rows [] = []
lexical_rows (fresh ∷ rest) = lexical_of fresh (lexical_rows rest)

-- the syntax rows
abbrev pub syntax_of : Option Outcome → List Row → List Row
syntax_of None rows = rows
syntax_of (Some (Lexical row)) rows = rows
syntax_of (Some (Syntax row)) rows = row ∷ rows
syntax_of (Some (Tree own tree)) rows = rows

abbrev pub syntax_rows : List (Option Outcome) → List Row
syntax_rows [] = []
syntax_rows (fresh ∷ rest) = syntax_of fresh (syntax_rows rest)
