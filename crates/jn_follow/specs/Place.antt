-- Where tokens stop being those of a file of the subset.
use Rattle.std.specs.Prelude.{◌≡◌, ◌⊎◌, ℕ, ◌+◌, ◌<◌, List, [], ◌∷◌, ◌++◌, length, take, Bool, true, false, Option, Some, None}
use Rattle.jn_trees.specs.declared.token.TokenKind.{TokenKind}
use Rattle.jn_trees.specs.Trees.{SourceTree}
use Rattle.jn_trees.specs.Spelling.{spell_file}
use Rattle.jn_trees.specs.WellFormed.{GoodFile}
use Rattle.jn_follow.specs.declared.frame.Frame.{Frame}
use Rattle.jn_follow.specs.declared.frame.Frame.TheVariants.{Start}
use Rattle.jn_follow.specs.Follow.{run, may_end}

-- what may stand next after these tokens from the begin of a file, or none where they begin no file
abbrev pub from_start : List TokenKind → Option (List Frame)
from_start ts = run ts (Start ∷ [])

-- all tokens are taken, and a file may end after them
abbrev pub Whole : List TokenKind → Type 0
Whole ts = (stack : List Frame) × (from_start ts ≡ Some stack) × (may_end stack ≡ true)

-- those before the place are taken, and the token there isn't; or all are, and no file may end after them
pub record IsStop (ts : List TokenKind) (n : ℕ) : Type 0 where
  pub stack : List Frame
  pub taken : from_start (take n ts) ≡ Some stack
  pub stops : ((n < length ts) × (from_start (take (n + 1) ts) ≡ None)) ⊎ ((n ≡ length ts) × (may_end stack ≡ false))

-- no well-formed file's tokens begin with these
abbrev pub NoFileBegins : List TokenKind → Type 0
NoFileBegins ts = (f : SourceTree) (rest : List TokenKind) → GoodFile f → spell_file f ≡ ts ++ rest → ⊥
