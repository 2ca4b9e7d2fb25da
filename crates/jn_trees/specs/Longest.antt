-- The longest expression and the longest statement that the front of tokens spells.
use Rattle.std.specs.Prelude.{◌≡◌, ℕ, ◌≤◌, List, ◌++◌, length, Option, Some, None}
use Rattle.std.specs.Borrow.{Bor}
use Rattle.std.specs.Global.{Box}
use Rattle.jn_trees.specs.declared.token.Token.{Token}
use Rattle.jn_trees.specs.declared.token.TokenKind.{TokenKind}
use Rattle.jn_trees.specs.declared.context.Context.{Context}
use Rattle.jn_trees.specs.declared.expression.Expr.{Expr}
use Rattle.jn_trees.specs.declared.statement.Stmt.{Stmt}
use Rattle.jn_trees.specs.Trees.{Tree, Statement}
use Rattle.jn_trees.specs.Spelling.{spell, spell_statement}
use Rattle.jn_trees.specs.WellFormed.{Good, nesting, GoodStatement, nesting_statement}
use Rattle.jn_trees.specs.View.{view, statement_view}
use Rattle.jn_trees.specs.Pieces.{kinds}

-- a tree and the tokens after it, or none
abbrev pub Try : Type 0
Try = Option (Tree × List TokenKind)

abbrev pub TryStatement : Type 0
TryStatement = Option (Statement × List TokenKind)

-- a well-formed expression of nesting at most d spells the front
abbrev pub SpellsFront : ℕ → List TokenKind → Tree × List TokenKind → Type 0
SpellsFront d ts r = (ts ≡ spell r.0 ++ r.1) × Good r.0 × (nesting r.0 ≤ d)

-- none goes further
abbrev pub IsLongest : ℕ → List TokenKind → Try → Type 0
IsLongest d ts None = (t : Tree) (rest : List TokenKind) → SpellsFront d ts (t, rest) → ⊥
IsLongest d ts (Some r) = SpellsFront d ts r × ((t : Tree) (rest : List TokenKind) → SpellsFront d ts (t, rest) → length r.1 ≤ length rest)

-- a well-formed statement there, of nesting at most d, spells the front
abbrev pub StatementFront : Context → ℕ → List TokenKind → Statement × List TokenKind → Type 0
StatementFront c d ts r = (ts ≡ spell_statement r.0 ++ r.1) × GoodStatement c r.0 × (nesting_statement r.0 ≤ d)

abbrev pub IsLongestStatement : Context → ℕ → List TokenKind → TryStatement → Type 0
IsLongestStatement c d ts None = (s : Statement) (rest : List TokenKind) → StatementFront c d ts (s, rest) → ⊥
IsLongestStatement c d ts (Some r) = StatementFront c d ts r × ((s : Statement) (rest : List TokenKind) → StatementFront c d ts (s, rest) → length r.1 ≤ length rest)

-- what was read, and what follows it
abbrev pub seen : Option (Box Expr × Bor (List Token)) → Try
seen None = None
seen (Some r) = Some (view r.0.value, kinds r.1.now)

abbrev pub seen_statement : Option (Stmt × Bor (List Token)) → TryStatement
seen_statement None = None
seen_statement (Some r) = Some (statement_view r.0, kinds r.1.now)
