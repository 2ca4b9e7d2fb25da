-- Expressions are taken whole.
use Rattle.std.proofs.Common.{◌≡◌, ℕ, ◌+◌, ◌≤◌, ◌<◌, List, [], ◌∷◌, ◌++◌, refl, sym, ap, ◌∙◌, subst, arith, append_assoc, Option, Some, None, Bool, true, false}
use Rattle.jn_base.specs.declared.number.NameNo.{NameNo}
use Rattle.jn_trees.specs.declared.token.TokenKind.{TokenKind}
use Rattle.jn_trees.specs.declared.token.TokenKind.TheVariants.{Id, Str, Number, Abstract, Boolean, Break, Class, Continue, Do, Else as ElseWord, Extends, Final, For, If, Implements, Import, Instanceof, Int, Interface, New, Package, Private, Protected, Public, Return, Static, Super, This, Void, While, True, False, Null, LeftParen, RightParen, LeftBrace, RightBrace, LeftBracket, RightBracket, Semicolon, Comma, Dot, At, Assign, Greater, Less, Not, Question, Colon, EqualEqual, LessEqual, GreaterEqual, NotEqual, AndAnd, OrOr, PlusPlus, MinusMinus, Plus, Minus, Star, Slash, Percent, PlusAssign, MinusAssign, StarAssign, SlashAssign, PercentAssign}
use Rattle.jn_follow.specs.declared.frame.Frame.{Frame}
use Rattle.jn_follow.specs.declared.frame.Frame.TheVariants.{Start, Lines, Types, TypeMarked, ClassWord, InterfaceWord, ClassNamed, Extended, InterfaceNamed, Listed, Dotted, ImportDotted, ImportDot, Members, Marked, MemberNamed, MemberDeclared, MethodEnd, Parameters, Parameter, ParameterTyped, MoreParameters, TypeEnd, ArrayMarked, Declared, MoreDeclared, Body, Statement as AStatement, Else, Returned, ThisFirst, SuperFirst, LocalMarked, NameFirst, BracketFirst, ForInit, ForDeclared, ForCondition, ForUpdate, MoreEffects, Operand, Operator, Inner, InnerNamed, Created, ArrayCreated, ClassCreated, Size, Items, MoreItems, Name, OpenParen, CloseParen, OpenBracket, CloseBracket, OpenBrace, End, Other, Point, Again}
use Rattle.jn_follow.specs.declared.frame.Mode.{Mode}
use Rattle.jn_follow.specs.declared.frame.Mode.TheVariants.{Effect, Whole, Part}
use Rattle.jn_follow.specs.declared.frame.Stage.{Stage}
use Rattle.jn_follow.specs.declared.frame.Stage.TheVariants.{Named, Element, Primary, Casting, Called, Array, Done}
use Rattle.jn_trees.specs.declared.expression.Literal.{Literal}
use Rattle.jn_trees.specs.declared.expression.Literal.TheVariants.{Number as NumberLiteral, Str as StrLiteral, True as TrueLiteral, False as FalseLiteral, Null as NullLiteral}
use Rattle.jn_trees.specs.declared.expression.UnaryOperator.{UnaryOperator}
use Rattle.jn_trees.specs.declared.expression.UnaryOperator.TheVariants.{Plus as PlusSign, Minus as MinusSign, Not as NotSign}
use Rattle.jn_trees.specs.declared.expression.Step.{Step}
use Rattle.jn_trees.specs.declared.expression.Step.TheVariants.{Increment, Decrement}
use Rattle.jn_trees.specs.declared.expression.BinaryOperator.{BinaryOperator}
use Rattle.jn_trees.specs.declared.expression.BinaryOperator.TheVariants.{Multiply, Divide, Remainder, Add, Subtract, Less as LessThan, Greater as GreaterThan, LessEqual as AtMost, GreaterEqual as AtLeast, Equal, NotEqual as Unequal, And, Or}
use Rattle.jn_trees.specs.declared.expression.AssignOperator.{AssignOperator}
use Rattle.jn_trees.specs.declared.expression.AssignOperator.TheVariants.{Assign as Simple, Add as AddTo, Subtract as SubtractFrom, Multiply as MultiplyBy, Divide as DivideBy, Remainder as RemainderBy}
use Rattle.jn_trees.specs.Trees.{BaseTree, ClassBase, IntBase, BooleanBase, Tree, Trees, LiteralTree, NameTree, ThisTree, ParenTree, FieldTree, CallTree, OwnCallTree, SuperCallTree, IndexTree, NewTree, NewArrayTree, ArrayOfTree, PostfixTree, PrefixTree, UnaryTree, CastTree, BinaryTree, InstanceOfTree, ConditionalTree, AssignTree, NoTrees, MoreTrees}
use Rattle.jn_trees.specs.Spelling.{literal_token, step_token, sign_token, operator_token, assign_token, base_token, spell_annotations, spell, spell_list, spell_more}
use Rattle.jn_trees.specs.WellFormed.{Good, AllGood, GoodSigned, rank, power, is_castable, is_left_side, is_indexable, is_least_number, is_effect}
use Rattle.jn_follow.specs.Follow.{Next, more, only, free, assigns, left, dotted, indexed, ends, closes, bind, run}
use Rattle.jn_follow.proofs.Steps.{Same, by_left, passed, ends_free, ended}
use Rattle.jn_follow.proofs.Fronts.{Begins, begins_number, begins_string, begins_yes_word, begins_no_word, begins_null_word, begins_paren, begins_new_word, begins_up, begins_down, begins_plus, begins_minus, begins_bang, Goes, goes_dot, Starts, starts_begins, starts_a_name, starts_a_this, starts_a_super, is_name, is_this, Agree, spine, fronts}

-- where its last operand stands
abbrev pub after : Mode → Tree → Mode
after m (PrefixTree s p) = after Part p
after m (UnaryTree o e) = after Part e
after m (CastTree n e) = after Part e
after m (BinaryTree l o r) = after Part r
after m (InstanceOfTree e n) = after m e
after m (ConditionalTree c a b) = after Part b
after m (AssignTree l o r) = after Whole r
after m _ = m

abbrev pub paren_stage : Tree → Stage
paren_stage (NameTree n) = Casting
paren_stage _ = Primary

-- what it ends with
abbrev pub stage : Tree → Stage
stage (LiteralTree l) = Primary
stage (NameTree n) = Named
stage ThisTree = Primary
stage (ParenTree e) = paren_stage e
stage (FieldTree p n) = Named
stage (CallTree p n es) = Called
stage (OwnCallTree n es) = Called
stage (SuperCallTree n es) = Called
stage (IndexTree p e) = Element
stage (NewTree n es) = Called
stage (NewArrayTree ns b e) = Array
stage (ArrayOfTree ns b es) = Array
stage (PostfixTree p s) = Done
stage (PrefixTree s p) = stage p
stage (UnaryTree o e) = stage e
stage (CastTree n e) = stage e
stage (BinaryTree l o r) = stage r
stage (InstanceOfTree e n) = Done
stage (ConditionalTree c a b) = stage b
stage (AssignTree l o r) = stage r

-- it may stand there
abbrev pub fits : Mode → Tree → Bool
fits m (UnaryTree o e) = free m
fits m (CastTree n e) = free m
fits m (BinaryTree l o r) = free m
fits m (InstanceOfTree e n) = free m
fits m (ConditionalTree c a b) = free m
fits m (AssignTree l o r) = assigns m
fits m _ = true

pub free_after : (m : Mode) (t : Tree) → free m ≡ true → free (after m t) ≡ true
free_after m (PrefixTree s p) h = free_after Part p refl
free_after m (UnaryTree o e) h = free_after Part e refl
free_after m (CastTree n e) h = free_after Part e refl
free_after m (BinaryTree l o r) h = free_after Part r refl
free_after m (InstanceOfTree e n) h = free_after m e h
free_after m (ConditionalTree c a b) h = free_after Part b refl
free_after m (AssignTree l o r) h = free_after Whole r refl
free_after m _ h = h

pub fits_rank : (m : Mode) (t : Tree) → free m ≡ true → rank t ≤ 10 → fits m t ≡ true
fits_rank m (UnaryTree o e) f h = f
fits_rank m (CastTree n e) f h = f
fits_rank m (BinaryTree l o r) f h = f
fits_rank m (InstanceOfTree e n) f h = f
fits_rank m (ConditionalTree c a b) f h = f
fits_rank m (AssignTree l o r) f h = absurd (omega (arith, h))
fits_rank m _ f h = refl

pub power_few : (o : BinaryOperator) → power o ≤ 6
power_few Multiply = omega arith
power_few _ = omega arith

-- what stands by itself
pub record IsPrimary (m : Mode) (p : Tree) : Type 0 where
  pub mode : after m p ≡ m
  pub fit : fits m p ≡ true
  pub dot : dotted (stage p) ≡ true
  pub castable : is_castable p ≡ true

paren_dotted : (e : Tree) → dotted (paren_stage e) ≡ true
paren_dotted (NameTree n) = refl
paren_dotted _ = refl

pub primary : (m : Mode) (p : Tree) → rank p ≤ 1 → IsPrimary m p
primary m (ParenTree e) h = record { mode = refl; fit = refl; dot = paren_dotted e; castable = refl }
primary m (PostfixTree p s) h = absurd (omega (arith, h))
primary m (PrefixTree s p) h = absurd (omega (arith, h))
primary m (UnaryTree o e) h = absurd (omega (arith, h))
primary m (CastTree n e) h = absurd (omega (arith, h))
primary m (BinaryTree l o r) h = absurd (omega (arith, h))
primary m (InstanceOfTree e n) h = absurd (omega (arith, h))
primary m (ConditionalTree c a b) h = absurd (omega (arith, h))
primary m (AssignTree l o r) h = absurd (omega (arith, h))
primary m _ h = record { mode = refl; fit = refl; dot = refl; castable = refl }

paren_indexed : (e : Tree) → indexed (paren_stage e) ≡ true
paren_indexed (NameTree n) = refl
paren_indexed _ = refl

indexed_primary : (p : Tree) → rank p ≤ 1 → is_indexable p ≡ true → indexed (stage p) ≡ true
indexed_primary (ParenTree e) h i = paren_indexed e
indexed_primary (NewArrayTree ns b e) h i = cc
indexed_primary (ArrayOfTree ns b es) h i = cc
indexed_primary (PostfixTree p s) h i = absurd (omega (arith, h))
indexed_primary (PrefixTree s p) h i = absurd (omega (arith, h))
indexed_primary (UnaryTree o e) h i = absurd (omega (arith, h))
indexed_primary (CastTree n e) h i = absurd (omega (arith, h))
indexed_primary (BinaryTree l o r) h i = absurd (omega (arith, h))
indexed_primary (InstanceOfTree e n) h i = absurd (omega (arith, h))
indexed_primary (ConditionalTree c a b) h i = absurd (omega (arith, h))
indexed_primary (AssignTree l o r) h i = absurd (omega (arith, h))
indexed_primary _ h i = refl

not_true : {A : Type 0} → false ≡ true → A
not_true h = cc

pub record IsLeft (m : Mode) (p : Tree) : Type 0 where
  pub mode : after m p ≡ m
  pub fit : fits m p ≡ true
  pub side : left (stage p) ≡ true

pub left_side : (m : Mode) (p : Tree) → is_left_side p ≡ true → IsLeft m p
left_side m (NameTree n) h = record { mode = refl; fit = refl; side = refl }
left_side m (FieldTree p n) h = record { mode = refl; fit = refl; side = refl }
left_side m (IndexTree p e) h = record { mode = refl; fit = refl; side = refl }
left_side m _ h = not_true h

-- single tokens
literal_taken : (m : Mode) (l : Literal) (ks : List TokenKind) (st : List Frame) → run (literal_token l ∷ ks) (Operand m ∷ st) ≡ run ks (Operator m Primary ∷ st)
literal_taken m (NumberLiteral n) ks st = refl
literal_taken m _ ks st = refl

dot_taken : (m n : Mode) (s : Stage) (ks : List TokenKind) (st : List Frame) → n ≡ m → dotted s ≡ true → run (Dot ∷ ks) (Operator n s ∷ st) ≡ run ks (Name ∷ Operator m Named ∷ st)
dot_taken m n s ks st e d =
    ap (λ x. run (Dot ∷ ks) (Operator x s ∷ st)) e
    ∙ ap (λ b. bind (more (only b (Some (Name ∷ Operator m Named ∷ []))) st) (run ks)) d

index_taken : (m n : Mode) (s : Stage) (ks : List TokenKind) (st : List Frame) → n ≡ m → indexed s ≡ true → run (LeftBracket ∷ ks) (Operator n s ∷ st) ≡ run ks (Operand Whole ∷ CloseBracket ∷ Operator m Element ∷ st)
index_taken m n s ks st e d =
    ap (λ x. run (LeftBracket ∷ ks) (Operator x s ∷ st)) e
    ∙ ap (λ b. bind (more (only b (Some (Operand Whole ∷ CloseBracket ∷ Operator m Element ∷ []))) st) (run ks)) d

step_only : (m : Mode) (s : Stage) (t : Step) (ks : List TokenKind) (st : List Frame) → run (step_token t ∷ ks) (Operator m s ∷ st) ≡ bind (more (only (left s) (Some (Operator m Done ∷ []))) st) (run ks)
step_only m s Increment ks st = refl
step_only m s Decrement ks st = refl

step_taken : (m n : Mode) (s : Stage) (t : Step) (ks : List TokenKind) (st : List Frame) → n ≡ m → left s ≡ true → run (step_token t ∷ ks) (Operator n s ∷ st) ≡ run ks (Operator m Done ∷ st)
step_taken m n s t ks st e d =
    ap (λ x. run (step_token t ∷ ks) (Operator x s ∷ st)) e
    ∙ step_only m s t ks st
    ∙ ap (λ b. bind (more (only b (Some (Operator m Done ∷ []))) st) (run ks)) d

prefix_taken : (m : Mode) (t : Step) (ks : List TokenKind) (st : List Frame) → run (step_token t ∷ ks) (Operand m ∷ st) ≡ run ks (Operand Part ∷ st)
prefix_taken m Increment ks st = refl
prefix_taken m Decrement ks st = refl

sign_only : (m : Mode) (o : UnaryOperator) (ks : List TokenKind) (st : List Frame) → run (sign_token o ∷ ks) (Operand m ∷ st) ≡ bind (more (only (free m) (Some (Operand Part ∷ []))) st) (run ks)
sign_only m PlusSign ks st = refl
sign_only m MinusSign ks st = refl
sign_only m NotSign ks st = refl

sign_taken : (m : Mode) (o : UnaryOperator) (ks : List TokenKind) (st : List Frame) → free m ≡ true → run (sign_token o ∷ ks) (Operand m ∷ st) ≡ run ks (Operand Part ∷ st)
sign_taken m o ks st f = sign_only m o ks st ∙ ap (λ b. bind (more (only b (Some (Operand Part ∷ []))) st) (run ks)) f

operator_only : (m : Mode) (s : Stage) (o : BinaryOperator) (ks : List TokenKind) (st : List Frame) → run (operator_token o ∷ ks) (Operator m s ∷ st) ≡ bind (more (only (free m) (Some (Operand Part ∷ []))) st) (run ks)
operator_only m s Multiply ks st = refl
operator_only m s _ ks st = refl

operator_taken : (m : Mode) (s : Stage) (o : BinaryOperator) (ks : List TokenKind) (st : List Frame) → free m ≡ true → run (operator_token o ∷ ks) (Operator m s ∷ st) ≡ run ks (Operand Part ∷ st)
operator_taken m s o ks st f = operator_only m s o ks st ∙ ap (λ b. bind (more (only b (Some (Operand Part ∷ []))) st) (run ks)) f

instanceof_taken : (m : Mode) (s : Stage) (ks : List TokenKind) (st : List Frame) → free m ≡ true → run (Instanceof ∷ ks) (Operator m s ∷ st) ≡ run ks (Name ∷ Operator m Done ∷ st)
instanceof_taken m s ks st f = ap (λ b. bind (more (only b (Some (Name ∷ Operator m Done ∷ []))) st) (run ks)) f

question_taken : (m : Mode) (s : Stage) (ks : List TokenKind) (st : List Frame) → free m ≡ true → run (Question ∷ ks) (Operator m s ∷ st) ≡ run ks (Operand Whole ∷ Other ∷ Operand Part ∷ st)
question_taken m s ks st f = ap (λ b. bind (more (only b (Some (Operand Whole ∷ Other ∷ Operand Part ∷ []))) st) (run ks)) f

assign_only : (m : Mode) (s : Stage) (o : AssignOperator) (ks : List TokenKind) (st : List Frame) → assigns m ≡ true → left s ≡ true → run (assign_token o ∷ ks) (Operator m s ∷ st) ≡ run ks (Operand Whole ∷ st)
assign_only Part s o ks st a h = cc
assign_only Whole Named Simple ks st a h = refl
assign_only Whole Named _ ks st a h = refl
assign_only Whole Element Simple ks st a h = refl
assign_only Whole Element _ ks st a h = refl
assign_only Whole _ o ks st a h = not_true h
assign_only Effect Named Simple ks st a h = refl
assign_only Effect Named _ ks st a h = refl
assign_only Effect Element Simple ks st a h = refl
assign_only Effect Element _ ks st a h = refl
assign_only Effect _ o ks st a h = not_true h

assign_taken : (m n : Mode) (s : Stage) (o : AssignOperator) (ks : List TokenKind) (st : List Frame) → n ≡ m → assigns m ≡ true → left s ≡ true → run (assign_token o ∷ ks) (Operator n s ∷ st) ≡ run ks (Operand Whole ∷ st)
assign_taken m n s o ks st e a h = ap (λ x. run (assign_token o ∷ ks) (Operator x s ∷ st)) e ∙ assign_only m s o ks st a h

-- casts
pub data Casts : TokenKind → Type 0 where
  casts_number : (n : ℕ) → Casts (Number n)
  casts_string : (n : NameNo) → Casts (Str n)
  casts_true : Casts True
  casts_false : Casts False
  casts_null : Casts Null
  casts_name : (n : NameNo) → Casts (Id n)
  casts_this : Casts This
  casts_super : Casts Super
  casts_new : Casts New
  casts_paren : Casts LeftParen
  casts_bang : Casts Not

cast_same : (m : Mode) → free m ≡ true → (k : TokenKind) (ks : List TokenKind) (st : List Frame) → Casts k → Same (Operator m Casting ∷ st) (Operand Part ∷ st) (k ∷ ks)
cast_same Effect f k ks st c = cc
cast_same Whole f k ks st (casts_number n) = refl
cast_same Whole f k ks st _ = refl
cast_same Part f k ks st (casts_number n) = refl
cast_same Part f k ks st _ = refl

literal_casts : (l : Literal) → Casts (literal_token l)
literal_casts (NumberLiteral n) = casts_number n
literal_casts (StrLiteral n) = casts_string n
literal_casts TrueLiteral = casts_true
literal_casts FalseLiteral = casts_false
literal_casts NullLiteral = casts_null

left_castable : (p : Tree) → is_left_side p ≡ true → is_castable p ≡ true
left_castable (NameTree n) h = refl
left_castable (FieldTree p n) h = refl
left_castable (IndexTree p e) h = refl
left_castable _ h = not_true h

module _ (m : Mode) (f : free m ≡ true) (st : List Frame) where
  cast_left : (xs ys zs : List TokenKind) → Same (Operator m Casting ∷ st) (Operand Part ∷ st) (xs ++ (ys ++ zs)) → Same (Operator m Casting ∷ st) (Operand Part ∷ st) ((xs ++ ys) ++ zs)
  cast_left xs ys zs h = subst (λ x. Same (Operator m Casting ∷ st) (Operand Part ∷ st) x) (sym (append_assoc xs ys zs)) h

  cast_front : (e : Tree) (ks : List TokenKind) → Good e → is_castable e ≡ true → Same (Operator m Casting ∷ st) (Operand Part ∷ st) (spell e ++ ks)
  cast_front (LiteralTree l) ks g h = cast_same m f (literal_token l) ks st (literal_casts l)
  cast_front (NameTree n) ks g h = cast_same m f (Id n) ks st (casts_name n)
  cast_front ThisTree ks g h = cast_same m f This ks st casts_this
  cast_front (ParenTree e) ks g h = cast_same m f LeftParen ((spell e ++ RightParen ∷ []) ++ ks) st casts_paren
  cast_front (FieldTree p n) ks g h = cast_left (spell p) (Dot ∷ Id n ∷ []) ks (cast_front p (Dot ∷ Id n ∷ ks) g.0 (primary m p g.1).castable)
  cast_front (CallTree p n es) ks g h = cast_left (spell p) (Dot ∷ Id n ∷ LeftParen ∷ spell_list RightParen es) ks (cast_front p (Dot ∷ Id n ∷ LeftParen ∷ (spell_list RightParen es ++ ks)) g.0 (primary m p g.1).castable)
  cast_front (OwnCallTree n es) ks g h = cast_same m f (Id n) (LeftParen ∷ (spell_list RightParen es ++ ks)) st (casts_name n)
  cast_front (SuperCallTree n es) ks g h = cast_same m f Super (Dot ∷ Id n ∷ LeftParen ∷ (spell_list RightParen es ++ ks)) st casts_super
  cast_front (IndexTree p e) ks g h = cast_left (spell p) (LeftBracket ∷ (spell e ++ RightBracket ∷ [])) ks (cast_front p (LeftBracket ∷ ((spell e ++ RightBracket ∷ []) ++ ks)) g.0 (primary m p g.1).castable)
  cast_front (NewTree n es) ks g h = cast_same m f New (Id n ∷ LeftParen ∷ (spell_list RightParen es ++ ks)) st casts_new
  cast_front (NewArrayTree ns b e) ks g h = cast_same m f New ((spell_annotations ns ++ base_token b ∷ LeftBracket ∷ (spell e ++ RightBracket ∷ [])) ++ ks) st casts_new
  cast_front (ArrayOfTree ns b es) ks g h = cast_same m f New ((spell_annotations ns ++ base_token b ∷ LeftBracket ∷ RightBracket ∷ LeftBrace ∷ spell_list RightBrace es) ++ ks) st casts_new
  cast_front (PostfixTree p s) ks g h = cast_left (spell p) (step_token s ∷ []) ks (cast_front p (step_token s ∷ ks) g.0 (left_castable p g.1))
  cast_front (UnaryTree NotSign e) ks g h = cast_same m f Not (spell e ++ ks) st casts_bang
  cast_front (UnaryTree _ e) ks g h = not_true h
  cast_front (CastTree n e) ks g h = cast_same m f LeftParen (Id n ∷ RightParen ∷ (spell e ++ ks)) st casts_paren
  cast_front (PrefixTree s p) ks g h = not_true h
  cast_front (BinaryTree l o r) ks g h = not_true h
  cast_front (InstanceOfTree e n) ks g h = not_true h
  cast_front (ConditionalTree c a b) ks g h = not_true h
  cast_front (AssignTree l o r) ks g h = not_true h

-- parentheses
inner_goes : (m : Mode) (n : NameNo) (k : TokenKind) (ks : List TokenKind) (st : List Frame) → Goes k → Same (Inner m ∷ st) (Operand Whole ∷ CloseParen ∷ Operator m Primary ∷ st) (Id n ∷ k ∷ ks)
inner_goes m n k ks st goes_dot = refl
inner_goes m n k ks st _ = refl

inner_begins : (m : Mode) (k : TokenKind) (ks : List TokenKind) (st : List Frame) → Begins k → Same (Inner m ∷ st) (Operand Whole ∷ CloseParen ∷ Operator m Primary ∷ st) (k ∷ ks)
inner_begins m k ks st (begins_number n) = refl
inner_begins m k ks st _ = refl

inner_agree : (m : Mode) (st : List Frame) → Agree (Inner m ∷ st) (Operand Whole ∷ CloseParen ∷ Operator m Primary ∷ st)
inner_agree m st = record {
  start = λ k ks b. inner_begins m k ks st b;
  name = λ n k ks g. inner_goes m n k ks st g;
  call = λ n ks. refl;
  element = λ n e ks. refl;
  self = λ k ks g. refl;
  self_element = λ ks. refl;
  parent = λ ks. refl;
}

name_clash : (e : Tree) → is_name e ≡ false → is_name e ≡ true → ⊥
name_clash e h g = not_true (sym h ∙ g)

-- an expression and the token after it
pub until : (e : Tree) (k : TokenKind) (ks : List TokenKind) (st : List Frame) → closes k ≡ true → run (spell e ++ k ∷ ks) (Operand Whole ∷ st) ≡ run (k ∷ ks) (Operator (after Whole e) (stage e) ∷ st) → run (spell e ++ k ∷ ks) (Operand Whole ∷ st) ≡ run (k ∷ ks) st
until e k ks st c h = h ∙ ended (after Whole e) (stage e) k ks st c (ends_free (after Whole e) (stage e) (free_after Whole e refl))

paren_other : (m : Mode) (e : Tree) (ks : List TokenKind) (st : List Frame) → is_name e ≡ false → run (spell e ++ RightParen ∷ ks) (Operand Whole ∷ CloseParen ∷ Operator m Primary ∷ st) ≡ run (RightParen ∷ ks) (Operator (after Whole e) (stage e) ∷ CloseParen ∷ Operator m Primary ∷ st) → run (spell e ++ RightParen ∷ ks) (Inner m ∷ st) ≡ run ks (Operator m Primary ∷ st)
paren_other m e ks st n h =
    spine (Inner m ∷ st) (Operand Whole ∷ CloseParen ∷ Operator m Primary ∷ st) (inner_agree m st) e (RightParen ∷ ks) (λ x i. absurd (name_clash e n i)) (λ _. refl)
    ∙ until e RightParen ks (CloseParen ∷ Operator m Primary ∷ st) refl h

paren_taken : (m : Mode) (e : Tree) (ks : List TokenKind) (st : List Frame) → run (spell e ++ RightParen ∷ ks) (Operand Whole ∷ CloseParen ∷ Operator m Primary ∷ st) ≡ run (RightParen ∷ ks) (Operator (after Whole e) (stage e) ∷ CloseParen ∷ Operator m Primary ∷ st) → run (spell e ++ RightParen ∷ ks) (Inner m ∷ st) ≡ run ks (Operator m (paren_stage e) ∷ st)
paren_taken m (NameTree n) ks st h = refl
paren_taken m ThisTree ks st h = paren_other m ThisTree ks st refl h
paren_taken m e ks st h = paren_other m e ks st refl h

-- new arrays
array_annotated : (m : Mode) (ns : List NameNo) (b : BaseTree) (ys zs : List TokenKind) (st : List Frame) → run ((spell_annotations ns ++ base_token b ∷ LeftBracket ∷ ys) ++ zs) (ArrayCreated m ∷ st) ≡ run (ys ++ zs) (Size m ∷ st)
array_annotated m [] (ClassBase n) ys zs st = refl
array_annotated m [] IntBase ys zs st = refl
array_annotated m [] BooleanBase ys zs st = refl
array_annotated m (n ∷ ns) b ys zs st = array_annotated m ns b ys zs st

array_created : (m : Mode) (ns : List NameNo) (b : BaseTree) (ys zs : List TokenKind) (st : List Frame) → run ((spell_annotations ns ++ base_token b ∷ LeftBracket ∷ ys) ++ zs) (Created m ∷ st) ≡ run (ys ++ zs) (Size m ∷ st)
array_created m [] (ClassBase n) ys zs st = refl
array_created m [] IntBase ys zs st = refl
array_created m [] BooleanBase ys zs st = refl
array_created m (n ∷ ns) b ys zs st = array_annotated m ns b ys zs st

size_starts : (m : Mode) (st : List Frame) (k : TokenKind) (ks : List TokenKind) → Starts k → Same (Size m ∷ st) (Operand Whole ∷ CloseBracket ∷ Operator m Array ∷ st) (k ∷ ks)
size_starts m st k ks (starts_begins _ (begins_number n)) = refl
size_starts m st k ks (starts_begins _ _) = refl
size_starts m st k ks (starts_a_name n) = refl
size_starts m st k ks starts_a_this = refl
size_starts m st k ks starts_a_super = refl

-- lists
abbrev pub close : Bool → TokenKind
close false = RightParen
close true = RightBrace

items_starts : (b : Bool) (st : List Frame) (k : TokenKind) (ks : List TokenKind) → Starts k → Same (Items b ∷ st) (Operand Whole ∷ MoreItems b ∷ st) (k ∷ ks)
items_starts false st k ks (starts_begins _ (begins_number n)) = refl
items_starts false st k ks (starts_begins _ _) = refl
items_starts false st k ks (starts_a_name n) = refl
items_starts false st k ks starts_a_this = refl
items_starts false st k ks starts_a_super = refl
items_starts true st k ks (starts_begins _ (begins_number n)) = refl
items_starts true st k ks (starts_begins _ _) = refl
items_starts true st k ks (starts_a_name n) = refl
items_starts true st k ks starts_a_this = refl
items_starts true st k ks starts_a_super = refl

ended_more : (b : Bool) (es : Trees) (m : Mode) (s : Stage) (ks : List TokenKind) (st : List Frame) → ends m s ≡ true → run (spell_more (close b) es ++ ks) (Operator m s ∷ st) ≡ run (spell_more (close b) es ++ ks) st
ended_more false NoTrees m s ks st h = ended m s RightParen ks st refl h
ended_more true NoTrees m s ks st h = ended m s RightBrace ks st refl h
ended_more b (MoreTrees e es) m s ks st h = ended m s Comma ((spell e ++ spell_more (close b) es) ++ ks) st refl h

ends_whole : (e : Tree) → ends (after Whole e) (stage e) ≡ true
ends_whole e = ends_free (after Whole e) (stage e) (free_after Whole e refl)

signed_by : (c : Bool) (good goal : Type 0) → (elim c as (λ _. Type 0) [ true ↦ Unit {0} | false ↦ good ]) → (c ≡ true → goal) → (good → goal) → goal
signed_by true good goal g a b = a refl
signed_by false good goal g a b = b g

signed : (o : UnaryOperator) (e : Tree) (good goal : Type 0) → GoodSigned o e good → (is_least_number e ≡ true → goal) → (good → goal) → goal
signed MinusSign e good goal g a b = signed_by (is_least_number e) good goal g a b
signed PlusSign e good goal g a b = b g
signed NotSign e good goal g a b = b g

least_taken : (e : Tree) (ks : List TokenKind) (st : List Frame) → is_least_number e ≡ true → run (spell e ++ ks) (Operand Part ∷ st) ≡ run ks (Operator (after Part e) (stage e) ∷ st)
least_taken (LiteralTree l) ks st h = literal_taken Part l ks st
least_taken _ ks st h = not_true h

pub whole_fits : (e : Tree) → fits Whole e ≡ true
whole_fits (LiteralTree l) = refl
whole_fits _ = refl

castable_fits : (e : Tree) → is_castable e ≡ true → fits Part e ≡ true
castable_fits (AssignTree l o r) h = not_true h
castable_fits (LiteralTree l) h = refl
castable_fits _ h = refl

mutual
  pub taken : (m : Mode) (t : Tree) (ks : List TokenKind) (st : List Frame) → Good t → fits m t ≡ true → run (spell t ++ ks) (Operand m ∷ st) ≡ run ks (Operator (after m t) (stage t) ∷ st)
  taken m (LiteralTree l) ks st g f = literal_taken m l ks st
  taken m (NameTree n) ks st g f = refl
  taken m ThisTree ks st g f = refl
  taken m (ParenTree e) ks st g f = by_left (spell e) (RightParen ∷ []) ks (Inner m ∷ st) ∙ paren_taken m e ks st (taken Whole e (RightParen ∷ ks) (CloseParen ∷ Operator m Primary ∷ st) g (whole_fits e))
  taken m (FieldTree p n) ks st g f =
      let p1 = primary m p g.1 in
      by_left (spell p) (Dot ∷ Id n ∷ []) ks (Operand m ∷ st)
      ∙ taken m p (Dot ∷ Id n ∷ ks) st g.0 p1.fit
      ∙ dot_taken m (after m p) (stage p) (Id n ∷ ks) st p1.mode p1.dot
  taken m (CallTree p n es) ks st g f =
      let p1 = primary m p g.1 in
      let rest : List TokenKind = Id n ∷ LeftParen ∷ (spell_list RightParen es ++ ks) in
      by_left (spell p) (Dot ∷ Id n ∷ LeftParen ∷ spell_list RightParen es) ks (Operand m ∷ st)
      ∙ taken m p (Dot ∷ rest) st g.0 p1.fit
      ∙ dot_taken m (after m p) (stage p) rest st p1.mode p1.dot
      ∙ list_taken false es ks (Operator m Called ∷ st) g.2
  taken m (OwnCallTree n es) ks st g f = list_taken false es ks (Operator m Called ∷ st) g
  taken m (SuperCallTree n es) ks st g f = list_taken false es ks (Operator m Called ∷ st) g
  taken m (IndexTree p e) ks st g f =
      let p1 = primary m p g.1 in
      by_left (spell p) (LeftBracket ∷ (spell e ++ RightBracket ∷ [])) ks (Operand m ∷ st)
      ∙ taken m p (LeftBracket ∷ ((spell e ++ RightBracket ∷ []) ++ ks)) st g.0 p1.fit
      ∙ index_taken m (after m p) (stage p) ((spell e ++ RightBracket ∷ []) ++ ks) st p1.mode (indexed_primary p g.1 g.2)
      ∙ by_left (spell e) (RightBracket ∷ []) ks (Operand Whole ∷ CloseBracket ∷ Operator m Element ∷ st)
      ∙ until e RightBracket ks (CloseBracket ∷ Operator m Element ∷ st) refl (taken Whole e (RightBracket ∷ ks) (CloseBracket ∷ Operator m Element ∷ st) g.3 (whole_fits e))
  taken m (NewTree n es) ks st g f = list_taken false es ks (Operator m Called ∷ st) g
  taken m (NewArrayTree ns b e) ks st g f =
      array_created m ns b (spell e ++ RightBracket ∷ []) ks st
      ∙ by_left (spell e) (RightBracket ∷ []) ks (Size m ∷ st)
      ∙ fronts (Size m ∷ st) (Operand Whole ∷ CloseBracket ∷ Operator m Array ∷ st) (size_starts m st) e (RightBracket ∷ ks)
      ∙ until e RightBracket ks (CloseBracket ∷ Operator m Array ∷ st) refl (taken Whole e (RightBracket ∷ ks) (CloseBracket ∷ Operator m Array ∷ st) g (whole_fits e))
  taken m (ArrayOfTree ns b es) ks st g f =
      array_created m ns b (RightBracket ∷ LeftBrace ∷ spell_list RightBrace es) ks st
      ∙ list_taken true es ks (Operator m Array ∷ st) g
  taken m (PostfixTree p s) ks st g f =
      let l = left_side m p g.1 in
      by_left (spell p) (step_token s ∷ []) ks (Operand m ∷ st)
      ∙ taken m p (step_token s ∷ ks) st g.0 l.fit
      ∙ step_taken m (after m p) (stage p) s ks st l.mode l.side
  taken m (PrefixTree s p) ks st g f =
      prefix_taken m s (spell p ++ ks) st
      ∙ taken Part p ks st g.0 (left_side Part p g.1).fit
  taken m (UnaryTree o e) ks st g f =
      sign_taken m o (spell e ++ ks) st f
      ∙ signed o e (Good e × (rank e ≤ 3)) (run (spell e ++ ks) (Operand Part ∷ st) ≡ run ks (Operator (after Part e) (stage e) ∷ st)) g
      (λ h. least_taken e ks st h)
      (λ h. taken Part e ks st h.0 (fits_rank Part e refl (omega (arith, h.1))))
  taken m (CastTree n e) ks st g f =
      cast_front m f st e ks g.0 g.1
      ∙ taken Part e ks st g.0 (castable_fits e g.1)
  taken m (BinaryTree l o r) ks st g f =
      by_left (spell l) (operator_token o ∷ spell r) ks (Operand m ∷ st)
      ∙ taken m l (operator_token o ∷ (spell r ++ ks)) st g.0 (fits_rank m l f (omega (arith, g.1, power_few o)))
      ∙ operator_taken (after m l) (stage l) o (spell r ++ ks) st (free_after m l f)
      ∙ taken Part r ks st g.2 (fits_rank Part r refl (omega (arith, g.3, power_few o)))
  taken m (InstanceOfTree e n) ks st g f =
      by_left (spell e) (Instanceof ∷ Id n ∷ []) ks (Operand m ∷ st)
      ∙ taken m e (Instanceof ∷ Id n ∷ ks) st g.0 (fits_rank m e f (omega (arith, g.1)))
      ∙ instanceof_taken (after m e) (stage e) (Id n ∷ ks) st (free_after m e f)
  taken m (ConditionalTree c a b) ks st g f =
      let rest : List TokenKind = (spell a ++ Colon ∷ spell b) ++ ks in
      by_left (spell c) (Question ∷ (spell a ++ Colon ∷ spell b)) ks (Operand m ∷ st)
      ∙ taken m c (Question ∷ rest) st g.0 (fits_rank m c f (omega (arith, g.1)))
      ∙ question_taken (after m c) (stage c) rest st (free_after m c f)
      ∙ by_left (spell a) (Colon ∷ spell b) ks (Operand Whole ∷ Other ∷ Operand Part ∷ st)
      ∙ until a Colon (spell b ++ ks) (Other ∷ Operand Part ∷ st) refl (taken Whole a (Colon ∷ (spell b ++ ks)) (Other ∷ Operand Part ∷ st) g.2 (whole_fits a))
      ∙ taken Part b ks st g.3 (fits_rank Part b refl g.4)
  taken m (AssignTree l o r) ks st g f =
      let l1 = left_side m l g.1 in
      by_left (spell l) (assign_token o ∷ spell r) ks (Operand m ∷ st)
      ∙ taken m l (assign_token o ∷ (spell r ++ ks)) st g.0 l1.fit
      ∙ assign_taken m (after m l) (stage l) o (spell r ++ ks) st l1.mode f l1.side
      ∙ taken Whole r ks st g.2 (whole_fits r)

  pub list_taken : (b : Bool) (es : Trees) (ks : List TokenKind) (st : List Frame) → AllGood es → run (spell_list (close b) es ++ ks) (Items b ∷ st) ≡ run ks st
  list_taken false NoTrees ks st g = refl
  list_taken true NoTrees ks st g = refl
  list_taken b (MoreTrees t ts) ks st g =
      by_left (spell t) (spell_more (close b) ts) ks (Items b ∷ st)
      ∙ fronts (Items b ∷ st) (Operand Whole ∷ MoreItems b ∷ st) (items_starts b st) t (spell_more (close b) ts ++ ks)
      ∙ taken Whole t (spell_more (close b) ts ++ ks) (MoreItems b ∷ st) g.0 (whole_fits t)
      ∙ ended_more b ts (after Whole t) (stage t) ks (MoreItems b ∷ st) (ends_whole t)
      ∙ more_taken b ts ks st g.1

  pub more_taken : (b : Bool) (es : Trees) (ks : List TokenKind) (st : List Frame) → AllGood es → run (spell_more (close b) es ++ ks) (MoreItems b ∷ st) ≡ run ks st
  more_taken false NoTrees ks st g = refl
  more_taken true NoTrees ks st g = refl
  more_taken b (MoreTrees t ts) ks st g =
      by_left (spell t) (spell_more (close b) ts) ks (Operand Whole ∷ MoreItems b ∷ st)
      ∙ taken Whole t (spell_more (close b) ts ++ ks) (MoreItems b ∷ st) g.0 (whole_fits t)
      ∙ ended_more b ts (after Whole t) (stage t) ks (MoreItems b ∷ st) (ends_whole t)
      ∙ more_taken b ts ks st g.1

-- an expression and what closes it
pub whole_taken : (e : Tree) (k : TokenKind) (ks : List TokenKind) (st : List Frame) → Good e → closes k ≡ true → run (spell e ++ k ∷ ks) (Operand Whole ∷ st) ≡ run (k ∷ ks) st
whole_taken e k ks st g c = until e k ks st c (taken Whole e (k ∷ ks) st g (whole_fits e))

-- an expression that may be a statement
effect_fits : (e : Tree) → is_effect e ≡ true → fits Effect e ≡ true
effect_fits (AssignTree l o r) h = refl
effect_fits (CallTree p n es) h = refl
effect_fits (OwnCallTree n es) h = refl
effect_fits (SuperCallTree n es) h = refl
effect_fits (NewTree n es) h = refl
effect_fits (PostfixTree p s) h = refl
effect_fits (PrefixTree s p) h = refl
effect_fits _ h = not_true h

effect_ends : (e : Tree) → is_effect e ≡ true → ends (after Effect e) (stage e) ≡ true
effect_ends (AssignTree l o r) h = ends_whole r
effect_ends (CallTree p n es) h = refl
effect_ends (OwnCallTree n es) h = refl
effect_ends (SuperCallTree n es) h = refl
effect_ends (NewTree n es) h = refl
effect_ends (PostfixTree p s) h = refl
effect_ends (PrefixTree s p) h = ends_free (after Part p) (stage p) (free_after Part p refl)
effect_ends _ h = not_true h

pub effect_taken : (e : Tree) (k : TokenKind) (ks : List TokenKind) (st : List Frame) → Good e → is_effect e ≡ true → closes k ≡ true → run (spell e ++ k ∷ ks) (Operand Effect ∷ st) ≡ run (k ∷ ks) st
effect_taken e k ks st g h c =
    taken Effect e (k ∷ ks) st g (effect_fits e h)
    ∙ ended (after Effect e) (stage e) k ks st c (effect_ends e h)
