-- What a descent with a bound on nesting reads at the front of tokens (JLS 15).
use Rattle.std.specs.Prelude.{ℕ, zero, suc, ◌+◌, List, [], ◌∷◌, ◌++◌, length, Option, Some, None, cond, nat_lt, nat_eq}
use Rattle.jn_base.specs.declared.number.NameNo.{NameNo}
use Rattle.jn_trees.specs.declared.token.TokenKind.{TokenKind}
use Rattle.jn_trees.specs.declared.token.TokenKind.TheVariants.{Id, Str, Number, Boolean, Instanceof, Int, New, Super, This, True, False, Null, LeftParen, RightParen, LeftBrace, RightBrace, LeftBracket, RightBracket, Comma, Dot, At, Assign, Greater, Less, Not, Question, Colon, EqualEqual, LessEqual, GreaterEqual, NotEqual, AndAnd, OrOr, PlusPlus, MinusMinus, Plus, Minus, Star, Slash, Percent, PlusAssign, MinusAssign, StarAssign, SlashAssign, PercentAssign}
use Rattle.jn_trees.specs.declared.expression.Literal.TheVariants.{Number as NumberLiteral, Str as StrLiteral, True as TrueLiteral, False as FalseLiteral, Null as NullLiteral}
use Rattle.jn_trees.specs.declared.expression.UnaryOperator.TheVariants.{Plus as PlusSign, Minus as MinusSign, Not as NotSign}
use Rattle.jn_trees.specs.declared.expression.Step.{Step}
use Rattle.jn_trees.specs.declared.expression.Step.TheVariants.{Increment, Decrement}
use Rattle.jn_trees.specs.declared.expression.BinaryOperator.{BinaryOperator}
use Rattle.jn_trees.specs.declared.expression.BinaryOperator.TheVariants.{Multiply, Divide, Remainder, Add, Subtract, Less as LessThan, Greater as GreaterThan, LessEqual as AtMost, GreaterEqual as AtLeast, Equal, NotEqual as Unequal, And, Or}
use Rattle.jn_trees.specs.declared.expression.AssignOperator.{AssignOperator}
use Rattle.jn_trees.specs.declared.expression.AssignOperator.TheVariants.{Assign as Simple, Add as AddTo, Subtract as SubtractFrom, Multiply as MultiplyBy, Divide as DivideBy, Remainder as RemainderBy}
use Rattle.jn_trees.specs.Trees.{BaseTree, ClassBase, IntBase, BooleanBase, Tree, Trees, LiteralTree, NameTree, ThisTree, ParenTree, FieldTree, CallTree, OwnCallTree, SuperCallTree, IndexTree, NewTree, NewArrayTree, ArrayOfTree, PostfixTree, PrefixTree, UnaryTree, CastTree, BinaryTree, InstanceOfTree, ConditionalTree, AssignTree, NoTrees, MoreTrees}
use Rattle.jn_trees.specs.Spelling.{spell_list}
use Rattle.jn_trees.specs.WellFormed.{nesting, power, is_left_side, is_indexable, relational, loosest_power}
use Rattle.jn_trees.specs.Longest.{Try}
use Rattle.jn_parse_expr_law.specs.Follow.{reach_of}

-- a tree and the tokens after it
abbrev pub Got : Type 0
Got = Tree × List TokenKind

-- a list of trees and the tokens after it, or none
abbrev pub TryAll : Type 0
TryAll = Option (Trees × List TokenKind)

-- reads of one nesting: operand k reads the ranks up to `operator_rank k`
pub record Reader : Type 0 where
  -- the longest left side of an assignment
  pub left : List TokenKind → Try
  pub operand : ℕ → List TokenKind → Try
  pub conditional : List TokenKind → Try
  pub whole : List TokenKind → Try

-- at most n steps
abbrev pub iterate : (Tree → List TokenKind → Try) → ℕ → Got → Got
iterate step zero r = r
iterate step (suc n) r = elim (step r.0 r.1) [ None ↦ r | Some q ↦ iterate step n q ]

-- a tree around what was read
abbrev pub build : (Tree → Tree) → Try → Try
build f None = None
build f (Some r) = Some (f r.0, r.1)

-- a tree around the list that was read
abbrev pub build_all : (Trees → Tree) → TryAll → Try
build_all f None = None
build_all f (Some r) = Some (f r.0, r.1)

-- one step more, if there is one
abbrev pub extend : (Tree → List TokenKind → Try) → Try → Try
extend step None = None
extend step (Some r) = elim (step r.0 r.1) [ None ↦ Some r | Some q ↦ Some q ]

-- as many steps as there are
abbrev pub go_on : (Tree → List TokenKind → Try) → ℕ → Try → Try
go_on step n None = None
go_on step n (Some r) = Some (iterate step n r)

-- what is read after what was read
abbrev pub bind : Try → (Tree → List TokenKind → Try) → Try
bind None f = None
bind (Some r) f = f r.0 r.1

-- what is read of a list after its first tree
abbrev pub bind_all : Try → (Tree → List TokenKind → TryAll) → TryAll
bind_all None f = None
bind_all (Some r) f = f r.0 r.1

-- what closes a list after its trees
abbrev pub bind_items : TryAll → (Trees → List TokenKind → TryAll) → TryAll
bind_items None f = None
bind_items (Some r) f = f r.0 r.1

-- `)` after an expression in parentheses (JLS 15.8.5)
abbrev pub close_paren : Tree → List TokenKind → Try
close_paren t (RightParen ∷ ts) = Some (ParenTree t, ts)
close_paren t _ = None

-- `]` after an index (JLS 15.10.3)
abbrev pub close_index : Tree → Tree → List TokenKind → Try
close_index p t (RightBracket ∷ ts) = Some (IndexTree p t, ts)
close_index p t _ = None

-- one tree before a list
abbrev pub add_first : Tree → TryAll → TryAll
add_first t None = None
add_first t (Some r) = Some (MoreTrees t r.0, r.1)

-- a comma, and then there must be more
abbrev pub items_behind : (List TokenKind → TryAll) → Tree → List TokenKind → TryAll
items_behind more t (Comma ∷ ts) = add_first t (more ts)
items_behind more t ts = Some (MoreTrees t NoTrees, ts)

-- one expression or more with commas between, of which there are at most n, without what closes them
abbrev pub items_from : (List TokenKind → Try) → ℕ → List TokenKind → TryAll
items_from one zero ts = None
items_from one (suc n) ts = bind_all (one ts) (items_behind (items_from one n))

unfoldable pub all_items : (List TokenKind → Try) → List TokenKind → TryAll
all_items one ts = items_from one (suc (length ts)) ts

-- `)` after arguments
abbrev pub close_arguments : Trees → List TokenKind → TryAll
close_arguments es (RightParen ∷ ts) = Some (es, ts)
close_arguments es _ = None

-- `}` after elements
abbrev pub close_elements : Trees → List TokenKind → TryAll
close_elements es (RightBrace ∷ ts) = Some (es, ts)
close_elements es _ = None

-- arguments through the closing parenthesis
abbrev pub arguments_in : (List TokenKind → Try) → List TokenKind → TryAll
arguments_in one (RightParen ∷ ts) = Some (NoTrees, ts)
arguments_in one ts = bind_items (all_items one ts) close_arguments

-- elements through the closing brace
abbrev pub elements_in : (List TokenKind → Try) → List TokenKind → TryAll
elements_in one (RightBrace ∷ ts) = Some (NoTrees, ts)
elements_in one ts = bind_items (all_items one ts) close_elements

-- arguments with both parentheses (JLS 15.12)
abbrev pub arguments : (List TokenKind → Try) → List TokenKind → TryAll
arguments one (LeftParen ∷ ts) = arguments_in one ts
arguments one _ = None

-- a call where there are arguments, else what stands before them
abbrev pub called : Tree → (Trees → Tree) → List TokenKind → TryAll → Got
called t f ts None = (t, ts)
called t f ts (Some r) = (f r.0, r.1)

-- the base of a type that this token is
abbrev pub base_of : TokenKind → Option BaseTree
base_of (Id n) = Some (ClassBase n)
base_of Int = Some IntBase
base_of Boolean = Some BooleanBase
base_of _ = None

-- `]` after the size of a new array (JLS 15.10.1)
abbrev pub close_array : List NameNo → BaseTree → Tree → List TokenKind → Try
close_array names b t (RightBracket ∷ ts) = Some (NewArrayTree names b t, ts)
close_array names b t _ = None

-- the elements of an array, from their opening brace on
abbrev pub array_elements : Reader → List NameNo → BaseTree → List TokenKind → Try
array_elements R names b (LeftBrace ∷ ts) = build_all (λ es. ArrayOfTree names b es) (elements_in R.whole ts)
array_elements R names b _ = None

-- the inside of an array's brackets, and its elements where that is empty
abbrev pub array_inside : Reader → List NameNo → BaseTree → List TokenKind → Try
array_inside R names b (RightBracket ∷ ts) = array_elements R names b ts
array_inside R names b ts = bind (R.whole ts) (close_array names b)

-- what stands after the base of a new array
abbrev pub array_behind : Reader → List NameNo → BaseTree → List TokenKind → Try
array_behind R names b (LeftBracket ∷ ts) = array_inside R names b ts
array_behind R names b _ = None

-- an array where its base was read
abbrev pub array_of : Reader → List NameNo → Option BaseTree → List TokenKind → Try
array_of R names None ts = None
array_of R names (Some b) ts = array_behind R names b ts

-- an array from its base on
abbrev pub array_from : Reader → List NameNo → List TokenKind → Try
array_from R names [] = None
array_from R names (k ∷ ts) = array_of R names (base_of k) ts

-- one annotation before others
abbrev pub add_annotation : NameNo → List NameNo × List TokenKind → List NameNo × List TokenKind
add_annotation n r = (n ∷ r.0, r.1)

-- the annotations at the front, and what is after them
abbrev pub annotations : List TokenKind → List NameNo × List TokenKind
annotations (At ∷ Id n ∷ ts) = add_annotation n (annotations ts)
annotations ts = ([], ts)

-- a new object, or a new array of a class
abbrev pub creation_of : Reader → NameNo → List TokenKind → Try
creation_of R n (LeftParen ∷ ts) = build_all (λ es. NewTree n es) (arguments_in R.whole ts)
creation_of R n ts = array_behind R [] (ClassBase n) ts

-- what stands after `new`
abbrev pub creation : Reader → List TokenKind → Try
creation R (Id n ∷ ts) = creation_of R n ts
creation R ts = array_from R (annotations ts).0 (annotations ts).1

-- a number by itself (JLS 3.10.1)
abbrev pub number_at : ℕ → List TokenKind → Try
number_at n ts = cond (nat_lt n 2147483648) (Some (LiteralTree (NumberLiteral n), ts)) None

-- what stands after `super`
abbrev pub super_call : Reader → List TokenKind → Try
super_call R (Dot ∷ Id n ∷ ts) = build_all (λ es. SuperCallTree n es) (arguments R.whole ts)
super_call R _ = None

-- what a primary begins with
abbrev pub head : Reader → List TokenKind → Try
head R (Id n ∷ ts) = Some (called (NameTree n) (λ es. OwnCallTree n es) ts (arguments R.whole ts))
head R (Number n ∷ ts) = number_at n ts
head R (Str n ∷ ts) = Some (LiteralTree (StrLiteral n), ts)
head R (True ∷ ts) = Some (LiteralTree TrueLiteral, ts)
head R (False ∷ ts) = Some (LiteralTree FalseLiteral, ts)
head R (Null ∷ ts) = Some (LiteralTree NullLiteral, ts)
head R (This ∷ ts) = Some (ThisTree, ts)
head R (Super ∷ ts) = super_call R ts
head R (New ∷ ts) = creation R ts
head R (LeftParen ∷ ts) = bind (R.whole ts) close_paren
head R _ = None

-- a field or a call after a dot (JLS 15.11, 15.12)
abbrev pub member : Reader → Tree → List TokenKind → Try
member R p (Id n ∷ ts) = Some (called (FieldTree p n) (λ es. CallTree p n es) ts (arguments R.whole ts))
member R p _ = None

-- one member or index after a primary; no index after a new array
abbrev pub link : Reader → ℕ → Tree → List TokenKind → Try
link R d p (Dot ∷ ts) = cond (nat_lt (nesting p) d) (member R p ts) None
link R d p (LeftBracket ∷ ts) = cond (is_indexable p) (cond (nat_lt (nesting p) d) (bind (R.whole ts) (close_index p)) None) None
link R d p _ = None

-- a primary as far as its members and indexes go (JLS 15.8)
abbrev pub primary : Reader → ℕ → List TokenKind → Try
primary R d ts = go_on (link R d) d (head R ts)

-- the left side that a primary begins with: all of it, or what stands before the brackets of a call
abbrev pub trim : Tree → List TokenKind → Try
trim (NameTree n) ts = Some (NameTree n, ts)
trim (FieldTree p n) ts = Some (FieldTree p n, ts)
trim (IndexTree p e) ts = Some (IndexTree p e, ts)
trim (OwnCallTree n es) ts = Some (NameTree n, LeftParen ∷ (spell_list RightParen es ++ ts))
trim (CallTree p n es) ts = Some (FieldTree p n, LeftParen ∷ (spell_list RightParen es ++ ts))
trim _ ts = None

-- the longest left side
abbrev pub left_at : Reader → ℕ → List TokenKind → Try
left_at R d ts = bind (primary R d ts) trim

-- the step that this token is
abbrev pub step_of : TokenKind → Option Step
step_of PlusPlus = Some Increment
step_of MinusMinus = Some Decrement
step_of _ = None

-- a step, where there is one and a left side stands before it
abbrev pub after_by : ℕ → Tree → Option Step → List TokenKind → Try
after_by d p None ts = None
after_by d p (Some s) ts = cond (is_left_side p) (cond (nat_lt (nesting p) d) (Some (PostfixTree p s, ts)) None) None

-- a step after a left side
abbrev pub after : ℕ → Tree → List TokenKind → Try
after d p [] = None
after d p (k ∷ ts) = after_by d p (step_of k) ts

-- the operand of a cast (JLS 15.16)
abbrev pub cast_operand : Reader → List TokenKind → Try
cast_operand R ts = cond (nat_eq (reach_of ts) 0) (R.operand 0 ts) None

-- a name in parentheses is a cast where an operand follows
abbrev pub cast : Reader → Tree → List TokenKind → Try
cast R (ParenTree (NameTree n)) ts = build (λ e. CastTree n e) (cast_operand R ts)
cast R _ ts = None

-- the least number
abbrev pub least : ℕ → List TokenKind → Try
least d (Number n ∷ ts) = cond (nat_eq n 2147483648) (cond (nat_lt 1 d) (Some (UnaryTree MinusSign (LiteralTree (NumberLiteral n)), ts)) None) None
least d _ = None

-- the least number, where no operand was read
abbrev pub or_least : ℕ → List TokenKind → Try → Try
or_least d ts None = least d ts
or_least d ts (Some r) = Some r

-- what has a sign or a step before it (JLS 15.15)
abbrev pub prefix : Reader → ℕ → List TokenKind → Try
prefix R d (Minus ∷ ts) = or_least d ts (build (λ e. UnaryTree MinusSign e) (R.operand 0 ts))
prefix R d (Plus ∷ ts) = build (λ e. UnaryTree PlusSign e) (R.operand 0 ts)
prefix R d (Not ∷ ts) = build (λ e. UnaryTree NotSign e) (R.operand 0 ts)
prefix R d (PlusPlus ∷ ts) = build (λ p. PrefixTree Increment p) (R.left ts)
prefix R d (MinusMinus ∷ ts) = build (λ p. PrefixTree Decrement p) (R.left ts)
prefix R d _ = None

-- a primary, what stands after it, and what it casts; else a sign or a step
abbrev pub unary : Reader → ℕ → List TokenKind → Try
unary R d ts = elim (primary R d ts) [ None ↦ prefix R d ts | Some r ↦ extend (cast R) (extend (after d) (Some r)) ]

-- what a token is between operands
pub data Sign : Type 0 where
  NoSign : Sign
  OperatorSign : (o : BinaryOperator) → Sign
  TestSign : Sign

-- what this token is between operands
abbrev pub sign : TokenKind → Sign
sign Star = OperatorSign Multiply
sign Slash = OperatorSign Divide
sign Percent = OperatorSign Remainder
sign Plus = OperatorSign Add
sign Minus = OperatorSign Subtract
sign Less = OperatorSign LessThan
sign Greater = OperatorSign GreaterThan
sign LessEqual = OperatorSign AtMost
sign GreaterEqual = OperatorSign AtLeast
sign EqualEqual = OperatorSign Equal
sign NotEqual = OperatorSign Unequal
sign AndAnd = OperatorSign And
sign OrOr = OperatorSign Or
sign Instanceof = TestSign
sign _ = NoSign

-- the class after `instanceof` (JLS 15.20.2)
abbrev pub test : Tree → List TokenKind → Try
test l (Id n ∷ ts) = Some (InstanceOfTree l n, ts)
test l _ = None

-- what goes on with the operand l by an operator of power k + 1
abbrev pub grow_by : Reader → ℕ → Tree → Sign → List TokenKind → Try
grow_by R k l NoSign ts = None
grow_by R k l (OperatorSign o) ts = cond (nat_eq (power o) (k + 1)) (build (λ r. BinaryTree l o r) (R.operand k ts)) None
grow_by R k l TestSign ts = cond (nat_eq relational (k + 1)) (test l ts) None

-- an operator of power k + 1 and its right side
abbrev pub grow : Reader → ℕ → ℕ → Tree → List TokenKind → Try
grow R d k l [] = None
grow R d k l (x ∷ ts) = cond (nat_lt (nesting l) d) (grow_by R k l (sign x) ts) None

-- operands of rank at most `operator_rank k`
abbrev pub operand_at : Reader → ℕ → ℕ → List TokenKind → Try
operand_at R d zero ts = unary R d ts
operand_at R d (suc k) ts = go_on (grow R d k) d (operand_at R d k ts)

-- `:` and the second branch of a conditional
abbrev pub choose_end : Reader → Tree → Tree → List TokenKind → Try
choose_end R c a (Colon ∷ ts) = build (λ b. ConditionalTree c a b) (R.conditional ts)
choose_end R c a _ = None

-- the branches of a conditional after its condition (JLS 15.25)
abbrev pub choose : Reader → ℕ → Tree → List TokenKind → Try
choose R d c (Question ∷ ts) = cond (nat_lt (nesting c) d) (bind (R.whole ts) (choose_end R c)) None
choose R d c _ = None

-- a conditional, or what binds more strongly
abbrev pub conditional_at : Reader → ℕ → List TokenKind → Try
conditional_at R d ts = extend (choose R d) (operand_at R d loosest_power ts)

-- the assignment that this token is
abbrev pub assign_of : TokenKind → Option AssignOperator
assign_of Assign = Some Simple
assign_of PlusAssign = Some AddTo
assign_of MinusAssign = Some SubtractFrom
assign_of StarAssign = Some MultiplyBy
assign_of SlashAssign = Some DivideBy
assign_of PercentAssign = Some RemainderBy
assign_of _ = None

-- an assignment, where there is one and a left side stands before it
abbrev pub assign_by : Reader → ℕ → Tree → Option AssignOperator → List TokenKind → Try
assign_by R d l None ts = None
assign_by R d l (Some o) ts = cond (is_left_side l) (cond (nat_lt (nesting l) d) (build (λ r. AssignTree l o r) (R.whole ts)) None) None

-- an assignment to what stands before it (JLS 15.26)
abbrev pub assign : Reader → ℕ → Tree → List TokenKind → Try
assign R d l [] = None
assign R d l (k ∷ ts) = assign_by R d l (assign_of k) ts

-- any expression
abbrev pub whole_at : Reader → ℕ → List TokenKind → Try
whole_at R d ts = extend (assign R d) (conditional_at R d ts)

-- what is read with nesting at most d
abbrev pub reader : ℕ → Reader
reader zero = record { left = λ ts. None; operand = λ k ts. None; conditional = λ ts. None; whole = λ ts. None }
reader (suc d) = record { left = left_at (reader d) (suc d); operand = operand_at (reader d) (suc d); conditional = conditional_at (reader d) (suc d); whole = whole_at (reader d) (suc d) }
