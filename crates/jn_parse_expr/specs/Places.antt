-- What was read from a place on.
use Rattle.std.specs.Prelude.{ℕ, List, drop, Option, Some, None}
use Rattle.jn_trees.specs.declared.token.TokenKind.{TokenKind}
use Rattle.jn_trees.specs.declared.expression.Expr.{Expr}
use Rattle.jn_trees.specs.View.{view}
use Rattle.jn_trees.specs.Longest.{Try}

-- the tree, and the tokens from the place after it
abbrev pub seen_at : List TokenKind → Option (Expr × ℕ) → Try
seen_at ts None = None
seen_at ts (Some r) = Some (view r.0, drop r.1 ts)
