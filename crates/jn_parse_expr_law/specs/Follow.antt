-- Which tokens can go on with an expression that stands before them (JLS 15).
use Rattle.std.specs.Prelude.{◌≡◌, ℕ, ◌≤◌, ◌<◌, List, [], ◌∷◌, length, Some, None}
use Rattle.jn_trees.specs.declared.token.TokenKind.{TokenKind}
use Rattle.jn_trees.specs.declared.token.TokenKind.TheVariants.{Id, Str, Number, Instanceof, New, Super, This, True, False, Null, LeftParen, LeftBracket, Dot, Assign, Greater, Less, Not, Question, EqualEqual, LessEqual, GreaterEqual, NotEqual, AndAnd, OrOr, PlusPlus, MinusMinus, Plus, Minus, Star, Slash, Percent, PlusAssign, MinusAssign, StarAssign, SlashAssign, PercentAssign}
use Rattle.jn_trees.specs.Trees.{Tree}
use Rattle.jn_trees.specs.Longest.{Try}
use Rattle.jn_trees.specs.WellFormed.{multiplicative, additive, equality, conjunction, primary_rank, postfix_rank, operator_rank, relational_rank, disjunction_rank, conditional_rank, assignment_rank, no_rank}

-- the least rank at which this token goes on with a tree; 0 for what begins the operand of a cast, `no_rank` for what goes on with none
abbrev pub reach : TokenKind → ℕ
reach (Id n) = 0
reach (Number n) = 0
reach (Str n) = 0
reach True = 0
reach False = 0
reach Null = 0
reach This = 0
reach Super = 0
reach New = 0
reach LeftParen = 0
reach Not = 0
reach Dot = primary_rank
reach LeftBracket = primary_rank
reach PlusPlus = postfix_rank
reach MinusMinus = postfix_rank
reach Star = operator_rank multiplicative
reach Slash = operator_rank multiplicative
reach Percent = operator_rank multiplicative
reach Plus = operator_rank additive
reach Minus = operator_rank additive
reach Less = relational_rank
reach Greater = relational_rank
reach LessEqual = relational_rank
reach GreaterEqual = relational_rank
reach Instanceof = relational_rank
reach EqualEqual = operator_rank equality
reach NotEqual = operator_rank equality
reach AndAnd = operator_rank conjunction
reach OrOr = disjunction_rank
reach Question = conditional_rank
reach Assign = assignment_rank
reach PlusAssign = assignment_rank
reach MinusAssign = assignment_rank
reach StarAssign = assignment_rank
reach SlashAssign = assignment_rank
reach PercentAssign = assignment_rank
reach _ = no_rank

-- the reach of the first token; no token goes on with none
abbrev pub reach_of : List TokenKind → ℕ
reach_of [] = no_rank
reach_of (k ∷ ks) = reach k

-- no more is left than `rest`; and just the tree was read, where what follows goes on with none
abbrev pub Reads : Tree → List TokenKind → Try → Type 0
Reads t rest None = ⊥
Reads t rest (Some r) = (length r.1 ≤ length rest) × (assignment_rank < reach_of rest → r ≡ (t, rest))
