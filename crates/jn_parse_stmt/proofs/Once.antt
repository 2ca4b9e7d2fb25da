-- What was read is what the readers give, since each token list is read in one way.
use Rattle.std.proofs.Common.{◌≡◌, ℕ, ◌+◌, ◌≤◌, List, ◌++◌, length, refl, sym, ap, ◌∙◌, subst, arith, length-append, Option, Some, None, IfSome}
use Rattle.std.specs.Borrow.{Bor}
use Rattle.std.specs.Global.{Box}
use Rattle.jn_trees.specs.declared.token.Token.{Token}
use Rattle.jn_trees.specs.declared.expression.Expr.{Expr}
use Rattle.jn_trees.specs.Spelling.{spell}
use Rattle.jn_trees.specs.View.{view}
use Rattle.jn_trees.specs.Longest.{IsLongest, seen}
use Rattle.jn_trees.specs.Pieces.{kinds}
use Rattle.jn_parse_stmt.proofs.Runs.{as_many}

pub longest_shortens : (d : ℕ) (tokens : List Token) (o : Option (Box Expr × Bor (List Token))) → IsLongest d (kinds tokens) (seen o) → IfSome o (λ r. length r.1.now ≤ length tokens)
longest_shortens d tokens None h = tt
longest_shortens d tokens (Some r) h = omega (arith, ap length h.0.0, length-append (spell (view r.0.value)) (kinds r.1.now), as_many tokens, as_many r.1.now)
