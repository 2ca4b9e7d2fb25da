-- What the reader gives, of tokens that are hard to read.
use Rattle.std.specs.Prelude.{◌≡◌, [], ◌∷◌, Some, None}
use Rattle.std.proofs.Common.{refl}
use Rattle.jn_base.specs.declared.number.NameNo.{NameNo}
use Rattle.jn_trees.specs.declared.token.TokenKind.TheVariants.{Id, Number, Int, New, Super, LeftParen, RightParen, LeftBrace, RightBrace, LeftBracket, RightBracket, Comma, Dot, At, Assign, Question, Colon, Instanceof, EqualEqual, PlusPlus, Plus, Minus, Star}
use Rattle.jn_trees.specs.declared.expression.Literal.TheVariants.{Number as NumberLiteral}
use Rattle.jn_trees.specs.declared.expression.UnaryOperator.TheVariants.{Minus as MinusSign}
use Rattle.jn_trees.specs.declared.expression.Step.TheVariants.{Increment}
use Rattle.jn_trees.specs.declared.expression.BinaryOperator.TheVariants.{Multiply, Add, Subtract, Equal}
use Rattle.jn_trees.specs.Trees.{IntBase, LiteralTree, NameTree, ParenTree, FieldTree, NewArrayTree, ArrayOfTree, PrefixTree, UnaryTree, CastTree, BinaryTree, InstanceOfTree, ConditionalTree, NoTrees, MoreTrees}
use Rattle.jn_parse_expr_law.specs.Reader.{all_items, reader}

-- `f(1 +` begins with `f`
unclosed : (f : NameNo) → (reader 9).whole (Id f ∷ LeftParen ∷ Number 1 ∷ Plus ∷ []) ≡ Some (NameTree f, LeftParen ∷ Number 1 ∷ Plus ∷ [])
unfolding all_items
unclosed f = refl

-- `a - b - c * d`
levels : (a b c d : NameNo) → (reader 9).whole (Id a ∷ Minus ∷ Id b ∷ Minus ∷ Id c ∷ Star ∷ Id d ∷ []) ≡ Some (BinaryTree (BinaryTree (NameTree a) Subtract (NameTree b)) Subtract (BinaryTree (NameTree c) Multiply (NameTree d)), [])
levels a b c d = refl

-- `(a) - 1` takes 1 away, and `(a) b` is a cast
subtraction : (a : NameNo) → (reader 9).whole (LeftParen ∷ Id a ∷ RightParen ∷ Minus ∷ Number 1 ∷ []) ≡ Some (BinaryTree (ParenTree (NameTree a)) Subtract (LiteralTree (NumberLiteral 1)), [])
subtraction a = refl

casting : (a b : NameNo) → (reader 9).whole (LeftParen ∷ Id a ∷ RightParen ∷ Id b ∷ []) ≡ Some (CastTree a (NameTree b), [])
casting a b = refl

-- `- 2147483648`, which is no number by itself
least_number : (reader 9).whole (Minus ∷ Number 2147483648 ∷ []) ≡ Some (UnaryTree MinusSign (LiteralTree (NumberLiteral 2147483648)), [])
least_number = refl

too_great : (reader 9).whole (Number 2147483648 ∷ []) ≡ None
too_great = refl

-- `++ a.b(c)` begins with `++ a.b`, and `++ super.b()` with none
stepped_field : (a b c : NameNo) → (reader 9).whole (PlusPlus ∷ Id a ∷ Dot ∷ Id b ∷ LeftParen ∷ Id c ∷ RightParen ∷ []) ≡ Some (PrefixTree Increment (FieldTree (NameTree a) b), LeftParen ∷ Id c ∷ RightParen ∷ [])
unfolding all_items
stepped_field a b c = refl

stepped_call : (b : NameNo) → (reader 9).whole (PlusPlus ∷ Super ∷ Dot ∷ Id b ∷ LeftParen ∷ RightParen ∷ []) ≡ None
stepped_call b = refl

-- `new @A int[] {1}[0]` ends before the index, and `new int[n][0]`, too
array_of_elements : (a : NameNo) → (reader 9).whole (New ∷ At ∷ Id a ∷ Int ∷ LeftBracket ∷ RightBracket ∷ LeftBrace ∷ Number 1 ∷ RightBrace ∷ LeftBracket ∷ Number 0 ∷ RightBracket ∷ [])
    ≡ Some (ArrayOfTree (a ∷ []) IntBase (MoreTrees (LiteralTree (NumberLiteral 1)) NoTrees), LeftBracket ∷ Number 0 ∷ RightBracket ∷ [])
unfolding all_items
array_of_elements a = refl

array_of_size : (n : NameNo) → (reader 9).whole (New ∷ Int ∷ LeftBracket ∷ Id n ∷ RightBracket ∷ LeftBracket ∷ Number 0 ∷ RightBracket ∷ []) ≡ Some (NewArrayTree [] IntBase (NameTree n), LeftBracket ∷ Number 0 ∷ RightBracket ∷ [])
array_of_size n = refl

-- no comma stands before the brace
trailing_comma : (reader 9).whole (New ∷ Int ∷ LeftBracket ∷ RightBracket ∷ LeftBrace ∷ Number 1 ∷ Comma ∷ RightBrace ∷ []) ≡ None
unfolding all_items
trailing_comma = refl

-- at nesting 2 `a + b + c` begins with `a + b`, and `a ? b = c : d` with `a`
shallow_sum : (a b c : NameNo) → (reader 2).whole (Id a ∷ Plus ∷ Id b ∷ Plus ∷ Id c ∷ []) ≡ Some (BinaryTree (NameTree a) Add (NameTree b), Plus ∷ Id c ∷ [])
shallow_sum a b c = refl

shallow_choice : (a b c d : NameNo) → (reader 2).whole (Id a ∷ Question ∷ Id b ∷ Assign ∷ Id c ∷ Colon ∷ Id d ∷ []) ≡ Some (NameTree a, Question ∷ Id b ∷ Assign ∷ Id c ∷ Colon ∷ Id d ∷ [])
shallow_choice a b c d = refl

-- a conditional has no assignment after its colon
no_assignment : (a b c d : NameNo) → (reader 9).whole (Id a ∷ Question ∷ Id b ∷ Colon ∷ Id c ∷ Assign ∷ Id d ∷ []) ≡ Some (ConditionalTree (NameTree a) (NameTree b) (NameTree c), Assign ∷ Id d ∷ [])
no_assignment a b c d = refl

-- `a instanceof B == c`
tested : (a b c : NameNo) → (reader 9).whole (Id a ∷ Instanceof ∷ Id b ∷ EqualEqual ∷ Id c ∷ []) ≡ Some (BinaryTree (InstanceOfTree (NameTree a) b) Equal (NameTree c), [])
tested a b c = refl
