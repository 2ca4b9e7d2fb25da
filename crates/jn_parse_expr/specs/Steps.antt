-- What the parts of the parser give, by the reader.
use Rattle.std.specs.Prelude.{◌≡◌, ℕ, ◌≤◌, List, [], ◌∷◌, ◌++◌, Option, Some, None, Vec, Box, cond, nat_lt, option_map}
use Rattle.std.specs.Borrow.{Bor}
use Rattle.std.specs.declared.alloc.Global.{Global}
use Rattle.jn_base.specs.declared.number.NameNo.{NameNo}
use Rattle.jn_trees.specs.declared.token.Token.{Token}
use Rattle.jn_trees.specs.declared.token.TokenKind.{TokenKind}
use Rattle.jn_trees.specs.declared.token.TokenKind.TheVariants.{Id, Str, Number, This, True, False, Null, LeftParen, RightParen, Dot, Plus, Minus, Not}
use Rattle.jn_trees.specs.declared.expression.Expr.{Expr}
use Rattle.jn_trees.specs.declared.expression.Literal.{Literal}
use Rattle.jn_trees.specs.declared.expression.Literal.TheVariants.{Number as NumberLiteral, Str as StrLiteral, True as TrueLiteral, False as FalseLiteral, Null as NullLiteral}
use Rattle.jn_trees.specs.declared.expression.UnaryOperator.{UnaryOperator}
use Rattle.jn_trees.specs.declared.expression.UnaryOperator.TheVariants.{Plus as PlusSign, Minus as MinusSign, Not as NotSign}
use Rattle.jn_trees.specs.declared.expression.BinaryOperator.{BinaryOperator}
use Rattle.jn_trees.specs.Trees.{Tree, Trees, LiteralTree, NameTree, ThisTree, ParenTree, FieldTree, CallTree, OwnCallTree, IndexTree, PostfixTree, UnaryTree, CastTree, BinaryTree, InstanceOfTree, ConditionalTree, AssignTree, NoTrees, MoreTrees}
use Rattle.jn_trees.specs.Spelling.{spell_list}
use Rattle.jn_trees.specs.WellFormed.{nesting, nesting_all, power, relational}
use Rattle.jn_trees.specs.View.{view, views, annotation_names, base_view}
use Rattle.jn_trees.specs.Longest.{Try}
use Rattle.jn_trees.specs.Pieces.{kinds}
use Rattle.jn_parse_expr_law.specs.Reader.{base_of, build, or_least, TryAll, Sign, sign, NoSign, OperatorSign, TestSign}
use Rattle.jn_parse_expr.specs.declared.tail.Tail.{Tail}
use Rattle.jn_parse_expr.specs.declared.tail.Tail.TheVariants.{Field, Call, Index, Step, Cast, Operand, Class, Choice, Value}
use Rattle.jn_parse_expr.specs.declared.primary.Primary.{Primary}
use Rattle.jn_trees.specs.declared.expression.ElementType.{ElementType}

-- the tree on the left with what goes on with it
abbrev pub attached : Tree → Tail → Tree
attached l (Field n) = FieldTree l n.name
attached l (Call n es) = CallTree l n.name (views es.items)
attached l (Index e) = IndexTree l (view e.value)
attached l (Step s) = PostfixTree l s
attached l (Cast n e) = CastTree n.name (view e.value)
attached l (Operand o e) = BinaryTree l o (view e.value)
attached l (Class n) = InstanceOfTree l n.name
attached l (Choice a b) = ConditionalTree l (view a.value) (view b.value)
attached l (Value o e) = AssignTree l o (view e.value)

-- a tree, its nesting and the tokens after it
abbrev pub ReadAs : ℕ → Option (Box Expr Global × ℕ × Bor (List Token)) → Try → Type 0
ReadAs d None o = o ≡ None
ReadAs d (Some r) o = (o ≡ Some (view r.0.value, kinds r.2.now)) × (r.1 ≡ nesting (view r.0.value)) × (r.1 ≤ d)

-- what goes on with l, the nesting of both, and the tokens after
abbrev pub TailAs : ℕ → Tree → Option (Tail × ℕ × Bor (List Token)) → Try → Type 0
TailAs d l None o = o ≡ None
TailAs d l (Some r) o = (o ≡ Some (attached l r.0, kinds r.2.now)) × (r.1 ≡ nesting (attached l r.0)) × (r.1 ≤ d)

-- trees, the nesting of the deepest, and the tokens after
abbrev pub AllAs : ℕ → Option (Vec Expr Global × ℕ × Bor (List Token)) → TryAll → Type 0
AllAs d None o = o ≡ None
AllAs d (Some r) o = (o ≡ Some (views r.0.items, kinds r.2.now)) × (r.1 ≡ nesting_all (views r.0.items)) × (r.1 ≤ d)

-- where a call's brackets begin: after the name at the start, or after the dot and the name of the last link
abbrev pub IsLinked : List TokenKind → Tree → ℕ → List TokenKind → List TokenKind → Type 0
IsLinked start (CallTree p n es) before link rest = (before ≡ nesting p) × (link ≡ Dot ∷ Id n ∷ LeftParen ∷ (spell_list RightParen es ++ rest))
IsLinked start (OwnCallTree n es) before link rest = start ≡ Id n ∷ LeftParen ∷ (spell_list RightParen es ++ rest)
IsLinked start _ before link rest = Unit {0}

abbrev pub PrimaryAs : List TokenKind → ℕ → Option Primary → Try → Type 0
PrimaryAs start d None o = o ≡ None
PrimaryAs start d (Some p) o = (o ≡ Some (view p.tree.value, kinds p.rest.now)) × (p.nested ≡ nesting (view p.tree.value)) × (p.nested ≤ d) × IsLinked start (view p.tree.value) p.before (kinds p.link.now) (kinds p.rest.now)

abbrev pub or_else : Try → Try → Try
or_else None p = p
or_else (Some r) p = Some r

-- the operator that a token is between operands
abbrev pub sign_as : Option BinaryOperator → Sign → Type 0
sign_as None NoSign = Unit {0}
sign_as None (OperatorSign o) = ⊥
sign_as None TestSign = Unit {0}
sign_as (Some o) s = s ≡ OperatorSign o

-- how weakly an operator between operands binds; 0 where there is none
abbrev pub sign_power : Sign → ℕ
sign_power NoSign = 0
sign_power (OperatorSign o) = power o
sign_power TestSign = relational

-- how weakly the operator at the front binds
abbrev pub front_power : List TokenKind → ℕ
front_power [] = 0
front_power (k ∷ ts) = sign_power (sign k)

-- the sign that a token is before an operand
abbrev pub sign_before : TokenKind → Option UnaryOperator
sign_before Plus = Some PlusSign
sign_before Minus = Some MinusSign
sign_before Not = Some NotSign
sign_before _ = None

-- a sign with what was read as its operand; where there is none, the least number after a minus
abbrev pub signed_by : ℕ → UnaryOperator → List TokenKind → Try → Try
signed_by d MinusSign ts o = or_least d ts (build (λ e. UnaryTree MinusSign e) o)
signed_by d s ts o = build (λ e. UnaryTree s e) o

abbrev pub name_at : Tree → Option NameNo
name_at (NameTree n) = Some n
name_at _ = None

abbrev pub name_in_paren : Tree → Option NameNo
name_in_paren (ParenTree e) = name_at e
name_in_paren _ = None

-- the literal that a token is by itself
abbrev pub literal_at : TokenKind → Option Literal
literal_at (Number n) = cond (nat_lt n 2147483648) (Some (NumberLiteral n)) None
literal_at (Str n) = Some (StrLiteral n)
literal_at True = Some TrueLiteral
literal_at False = Some FalseLiteral
literal_at Null = Some NullLiteral
literal_at _ = None

-- a literal or `this`
abbrev pub word_at : TokenKind → Option Tree
word_at This = Some ThisTree
word_at k = option_map (λ l. LiteralTree l) (literal_at k)

abbrev pub word_then : Option Tree → List TokenKind → Try
word_then None ts = None
word_then (Some t) ts = Some (t, ts)

abbrev pub word : List TokenKind → Try
word [] = None
word (k ∷ ts) = word_then (word_at k) ts

abbrev pub joined : Trees → Trees → Trees
joined NoTrees us = us
joined (MoreTrees t ts) us = MoreTrees t (joined ts us)

abbrev pub prepend : Trees → TryAll → TryAll
prepend ts None = None
prepend ts (Some r) = Some (joined ts r.0, r.1)

-- the type of an array's elements, where one stands after the annotations
abbrev pub ElementAs : Option (Box ElementType Global × Bor (List Token)) → List NameNo × List TokenKind → Type 0
ElementAs None a = (k : TokenKind) (ts : List TokenKind) → a.1 ≡ k ∷ ts → base_of k ≡ None
ElementAs (Some r) a = (a.0 ≡ annotation_names r.0.value.annotations.items) × ((k : TokenKind) × (a.1 ≡ k ∷ kinds r.1.now) × (base_of k ≡ Some (base_view r.0.value.base)))
