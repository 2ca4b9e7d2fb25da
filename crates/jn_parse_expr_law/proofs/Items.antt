-- What trees begin with, and lists of them.
use Rattle.std.proofs.Common.{◌≡◌, ℕ, zero, suc, ◌<◌, ◌≤◌, List, [], ◌∷◌, ◌++◌, length, refl, ap, ◌∙◌, arith, append_assoc, length-append, Some, None, Bool, true, false}
use Rattle.jn_trees.specs.declared.token.TokenKind.{TokenKind}
use Rattle.jn_trees.specs.declared.token.TokenKind.TheVariants.{Id, Str, Number, Instanceof, New, Super, This, True, False, Null, LeftParen, RightParen, RightBrace, LeftBracket, RightBracket, Dot, Not, Question, Colon, PlusPlus, MinusMinus, Plus, Minus}
use Rattle.jn_trees.specs.declared.expression.Literal.{Literal}
use Rattle.jn_trees.specs.declared.expression.Literal.TheVariants.{Number as NumberLiteral, Str as StrLiteral, True as TrueLiteral, False as FalseLiteral, Null as NullLiteral}
use Rattle.jn_trees.specs.declared.expression.UnaryOperator.{UnaryOperator}
use Rattle.jn_trees.specs.declared.expression.UnaryOperator.TheVariants.{Plus as PlusSign, Minus as MinusSign, Not as NotSign}
use Rattle.jn_trees.specs.declared.expression.Step.{Step}
use Rattle.jn_trees.specs.declared.expression.Step.TheVariants.{Increment, Decrement}
use Rattle.jn_trees.specs.Trees.{Tree, Trees, LiteralTree, NameTree, ThisTree, ParenTree, FieldTree, CallTree, OwnCallTree, SuperCallTree, IndexTree, NewTree, NewArrayTree, ArrayOfTree, PostfixTree, PrefixTree, UnaryTree, CastTree, BinaryTree, InstanceOfTree, ConditionalTree, AssignTree, NoTrees, MoreTrees}
use Rattle.jn_trees.specs.Spelling.{literal_token, step_token, sign_token, operator_token, assign_token, spell, spell_list, spell_more}
use Rattle.jn_trees.specs.WellFormed.{nesting, nesting_all, rank, is_left_side, is_castable, Good, AllGood, loosest_power, primary_rank, postfix_rank, unary_rank, operator_rank, conditional_rank, assignment_rank}
use Rattle.jn_trees.specs.Longest.{Try}
use Rattle.jn_parse_expr_law.specs.Follow.{reach, reach_of}
use Rattle.jn_parse_expr_law.specs.Reader.{TryAll, Reader, bind_all, bind_items, add_first, items_behind, items_from, all_items, close_arguments, close_elements, arguments_in, elements_in, arguments, called}
use Rattle.jn_parse_expr_law.proofs.Sound.{some_power}
use Rattle.jn_parse_expr_law.proofs.Spines.{ReadsAt, exact_of}

-- what is well formed is read, with what the reader's nesting allows
pub record CompleteReader (R : Reader) (d : ℕ) : Type 0 where
  pub left : (t : Tree) (rest : List TokenKind) → Good t → is_left_side t ≡ true → nesting t ≤ d → ReadsAt primary_rank t rest (R.left (spell t ++ rest))
  pub operand : (k : ℕ) (t : Tree) (rest : List TokenKind) → k ≤ loosest_power → Good t → rank t ≤ operator_rank k → nesting t ≤ d → ReadsAt (operator_rank k) t rest (R.operand k (spell t ++ rest))
  pub conditional : (t : Tree) (rest : List TokenKind) → Good t → rank t ≤ conditional_rank → nesting t ≤ d → ReadsAt conditional_rank t rest (R.conditional (spell t ++ rest))
  pub whole : (t : Tree) (rest : List TokenKind) → Good t → nesting t ≤ d → ReadsAt assignment_rank t rest (R.whole (spell t ++ rest))

-- what trees begin with
abbrev pub begins : List TokenKind → Bool
begins (Id n ∷ ts) = true
begins (Number n ∷ ts) = true
begins (Str n ∷ ts) = true
begins (True ∷ ts) = true
begins (False ∷ ts) = true
begins (Null ∷ ts) = true
begins (This ∷ ts) = true
begins (Super ∷ ts) = true
begins (New ∷ ts) = true
begins (LeftParen ∷ ts) = true
begins (Plus ∷ ts) = true
begins (Minus ∷ ts) = true
begins (Not ∷ ts) = true
begins (PlusPlus ∷ ts) = true
begins (MinusMinus ∷ ts) = true
begins _ = false

literal_begins : (l : Literal) (rest : List TokenKind) → begins (literal_token l ∷ rest) ≡ true
literal_begins (NumberLiteral n) rest = refl
literal_begins (StrLiteral n) rest = refl
literal_begins TrueLiteral rest = refl
literal_begins FalseLiteral rest = refl
literal_begins NullLiteral rest = refl

sign_begins : (o : UnaryOperator) (rest : List TokenKind) → begins (sign_token o ∷ rest) ≡ true
sign_begins PlusSign rest = refl
sign_begins MinusSign rest = refl
sign_begins NotSign rest = refl

step_begins : (s : Step) (rest : List TokenKind) → begins (step_token s ∷ rest) ≡ true
step_begins Increment rest = refl
step_begins Decrement rest = refl

pub begins_tree : (t : Tree) (rest : List TokenKind) → begins (spell t ++ rest) ≡ true
begins_tree (LiteralTree l) rest = literal_begins l rest
begins_tree (NameTree n) rest = refl
begins_tree ThisTree rest = refl
begins_tree (ParenTree e) rest = refl
begins_tree (FieldTree p n) rest = ap begins (append_assoc (spell p) (Dot ∷ Id n ∷ []) rest) ∙ begins_tree p (Dot ∷ Id n ∷ rest)
begins_tree (CallTree p n es) rest = ap begins (append_assoc (spell p) (Dot ∷ Id n ∷ LeftParen ∷ spell_list RightParen es) rest) ∙ begins_tree p (Dot ∷ Id n ∷ LeftParen ∷ (spell_list RightParen es ++ rest))
begins_tree (OwnCallTree n es) rest = refl
begins_tree (SuperCallTree n es) rest = refl
begins_tree (IndexTree p e) rest = ap begins (append_assoc (spell p) (LeftBracket ∷ (spell e ++ RightBracket ∷ [])) rest) ∙ begins_tree p (LeftBracket ∷ ((spell e ++ RightBracket ∷ []) ++ rest))
begins_tree (NewTree n es) rest = refl
begins_tree (NewArrayTree ns b e) rest = refl
begins_tree (ArrayOfTree ns b es) rest = refl
begins_tree (PostfixTree p s) rest = ap begins (append_assoc (spell p) (step_token s ∷ []) rest) ∙ begins_tree p (step_token s ∷ rest)
begins_tree (PrefixTree s p) rest = step_begins s (spell p ++ rest)
begins_tree (UnaryTree o e) rest = sign_begins o (spell e ++ rest)
begins_tree (CastTree n e) rest = refl
begins_tree (BinaryTree l o r) rest = ap begins (append_assoc (spell l) (operator_token o ∷ spell r) rest) ∙ begins_tree l (operator_token o ∷ (spell r ++ rest))
begins_tree (InstanceOfTree e n) rest = ap begins (append_assoc (spell e) (Instanceof ∷ Id n ∷ []) rest) ∙ begins_tree e (Instanceof ∷ Id n ∷ rest)
begins_tree (ConditionalTree c a b) rest = ap begins (append_assoc (spell c) (Question ∷ (spell a ++ Colon ∷ spell b)) rest) ∙ begins_tree c (Question ∷ ((spell a ++ Colon ∷ spell b) ++ rest))
begins_tree (AssignTree l o r) rest = ap begins (append_assoc (spell l) (assign_token o ∷ spell r) rest) ∙ begins_tree l (assign_token o ∷ (spell r ++ rest))

-- operands of casts
castable_low : (t : Tree) → rank t ≤ postfix_rank → is_castable t ≡ true
castable_low (UnaryTree o e) k = absurd (omega (arith, k))
castable_low (PrefixTree s q) k = absurd (omega (arith, k))
castable_low (BinaryTree l o r) k = absurd (omega (arith, some_power o, k))
castable_low (InstanceOfTree e n) k = absurd (omega (arith, k))
castable_low (ConditionalTree c a b) k = absurd (omega (arith, k))
castable_low (AssignTree l o r) k = absurd (omega (arith, k))
castable_low _ k = refl

pub left_side_low : (t : Tree) → is_left_side t ≡ true → rank t ≤ primary_rank
left_side_low (NameTree n) e = omega arith
left_side_low (FieldTree p n) e = omega arith
left_side_low (IndexTree p i) e = omega arith
left_side_low _ e = cc

literal_reach : (l : Literal) → reach (literal_token l) ≡ 0
literal_reach (NumberLiteral n) = refl
literal_reach (StrLiteral n) = refl
literal_reach TrueLiteral = refl
literal_reach FalseLiteral = refl
literal_reach NullLiteral = refl

signed_reach : (o : UnaryOperator) (e : Tree) → is_castable (UnaryTree o e) ≡ true → reach (sign_token o) ≡ 0
signed_reach PlusSign e c = cc
signed_reach MinusSign e c = cc
signed_reach NotSign e c = refl

pub castable_begins : (t : Tree) (rest : List TokenKind) → Good t → is_castable t ≡ true → reach_of (spell t ++ rest) ≡ 0
castable_begins (LiteralTree l) rest g c = literal_reach l
castable_begins (NameTree n) rest g c = refl
castable_begins ThisTree rest g c = refl
castable_begins (ParenTree e) rest g c = refl
castable_begins (FieldTree p n) rest g c = ap reach_of (append_assoc (spell p) (Dot ∷ Id n ∷ []) rest) ∙ castable_begins p (Dot ∷ Id n ∷ rest) g.0 (castable_low p (omega (arith, g.1)))
castable_begins (CallTree p n es) rest g c = ap reach_of (append_assoc (spell p) (Dot ∷ Id n ∷ LeftParen ∷ spell_list RightParen es) rest) ∙ castable_begins p (Dot ∷ Id n ∷ LeftParen ∷ (spell_list RightParen es ++ rest)) g.0 (castable_low p (omega (arith, g.1)))
castable_begins (OwnCallTree n es) rest g c = refl
castable_begins (SuperCallTree n es) rest g c = refl
castable_begins (IndexTree p e) rest g c = ap reach_of (append_assoc (spell p) (LeftBracket ∷ (spell e ++ RightBracket ∷ [])) rest) ∙ castable_begins p (LeftBracket ∷ ((spell e ++ RightBracket ∷ []) ++ rest)) g.0 (castable_low p (omega (arith, g.1)))
castable_begins (NewTree n es) rest g c = refl
castable_begins (NewArrayTree ns b e) rest g c = refl
castable_begins (ArrayOfTree ns b es) rest g c = refl
castable_begins (PostfixTree p s) rest g c = ap reach_of (append_assoc (spell p) (step_token s ∷ []) rest) ∙ castable_begins p (step_token s ∷ rest) g.0 (castable_low p (let k = left_side_low p g.1 in omega (arith, k)))
castable_begins (UnaryTree o e) rest g c = signed_reach o e c
castable_begins (CastTree n e) rest g c = refl
castable_begins _ rest g c = cc

castable_signed : (o : UnaryOperator) (e : Tree) → rank (UnaryTree o e) ≤ unary_rank
castable_signed o e = omega arith

pub castable_rank : (t : Tree) → is_castable t ≡ true → rank t ≤ unary_rank
castable_rank (UnaryTree o e) c = castable_signed o e
castable_rank (PrefixTree s p) c = omega arith
castable_rank (BinaryTree l o r) c = cc
castable_rank (InstanceOfTree e n) c = cc
castable_rank (ConditionalTree c a b) k = cc
castable_rank (AssignTree l o r) c = cc
castable_rank _ c = omega arith

pub some_nesting : (t : Tree) → 0 < nesting t
some_nesting (LiteralTree l) = omega arith
some_nesting (NameTree n) = omega arith
some_nesting ThisTree = omega arith
some_nesting _ = omega arith

-- lists: no expression goes on with what closes one
abbrev pub Ends : TokenKind → Type 0
Ends end = (assignment_rank < reach end) × ((more : List TokenKind → TryAll) (t : Tree) (rest : List TokenKind) → items_behind more t (end ∷ rest) ≡ Some (MoreTrees t NoTrees, end ∷ rest))

abbrev count : Trees → ℕ
count NoTrees = 0
count (MoreTrees t ts) = suc (count ts)

count_below : (end : TokenKind) (es : Trees) → count es < length (spell_more end es)
count_below end NoTrees = omega arith
count_below end (MoreTrees t ts) = let ih = count_below end ts in omega (arith, ih, length-append (spell t) (spell_more end ts))

from_exact : (R : Reader) (d : ℕ) → CompleteReader R d → (end : TokenKind) → Ends end → (es : Trees) (n : ℕ) (t : Tree) (rest : List TokenKind) → Good t → AllGood es → nesting t ≤ d → nesting_all es ≤ d → count es < n
    → items_from R.whole n (spell t ++ (spell_more end es ++ rest)) ≡ Some (MoreTrees t es, end ∷ rest)
from_exact R d h end ends es zero t rest g gs m ms lt = absurd (omega (arith, lt))
from_exact R d h end ends NoTrees (suc n) t rest g gs m ms lt =
    ap (λ o. bind_all o (items_behind (items_from R.whole n))) (exact_of assignment_rank t (end ∷ rest) (R.whole (spell t ++ end ∷ rest)) (h.whole t (end ∷ rest) g m) ends.0)
    ∙ ends.1 (items_from R.whole n) t rest
from_exact R d h end ends (MoreTrees u us) (suc n) t rest g gs m ms lt =
    let more = spell_more end (MoreTrees u us) ++ rest in
    ap (λ o. bind_all o (items_behind (items_from R.whole n))) (exact_of assignment_rank t more (R.whole (spell t ++ more)) (h.whole t more g m) (omega arith))
    ∙ ap (λ x. add_first t (items_from R.whole n x)) (append_assoc (spell u) (spell_more end us) rest)
    ∙ ap (λ o. add_first t o) (from_exact R d h end ends us n u rest gs.0 gs.1 (omega (arith, ms)) (omega (arith, ms)) (omega (arith, lt)))

items_at : (one : List TokenKind → Try) (ts : List TokenKind) → all_items one ts ≡ items_from one (suc (length ts)) ts
unfolding all_items
items_at one ts = refl

items_exact : (R : Reader) (d : ℕ) → CompleteReader R d → (end : TokenKind) → Ends end → (t : Tree) (ts : Trees) (rest : List TokenKind) → Good t → AllGood ts → nesting t ≤ d → nesting_all ts ≤ d
    → all_items R.whole (spell t ++ (spell_more end ts ++ rest)) ≡ Some (MoreTrees t ts, end ∷ rest)
items_exact R d h end ends t ts rest g gs m ms =
    let all = spell t ++ (spell_more end ts ++ rest) in
    let long : count ts < length all = omega (arith, count_below end ts, length-append (spell t) (spell_more end ts ++ rest), length-append (spell_more end ts) rest) in
    items_at R.whole all ∙ from_exact R d h end ends ts (suc (length all)) t rest g gs m ms (omega (arith, long))

arguments_at : (one : List TokenKind → Try) (ts : List TokenKind) → begins ts ≡ true → arguments_in one ts ≡ bind_items (all_items one ts) close_arguments
arguments_at one [] e = refl
arguments_at one (RightParen ∷ ts) e = cc
arguments_at one (_ ∷ ts) e = refl

elements_at : (one : List TokenKind → Try) (ts : List TokenKind) → begins ts ≡ true → elements_in one ts ≡ bind_items (all_items one ts) close_elements
elements_at one [] e = refl
elements_at one (RightBrace ∷ ts) e = cc
elements_at one (_ ∷ ts) e = refl

round : Ends RightParen
round = (omega arith, λ more t rest. refl)

curly : Ends RightBrace
curly = (omega arith, λ more t rest. refl)

pub in_exact : (R : Reader) (d : ℕ) → CompleteReader R d → (es : Trees) (rest : List TokenKind) → AllGood es → nesting_all es ≤ d → arguments_in R.whole (spell_list RightParen es ++ rest) ≡ Some (es, rest)
in_exact R d h NoTrees rest g m = refl
in_exact R d h (MoreTrees t ts) rest g m =
    let more = spell_more RightParen ts ++ rest in
    ap (λ x. arguments_in R.whole x) (append_assoc (spell t) (spell_more RightParen ts) rest)
    ∙ arguments_at R.whole (spell t ++ more) (begins_tree t more)
    ∙ ap (λ o. bind_items o close_arguments) (items_exact R d h RightParen round t ts rest g.0 g.1 (omega (arith, m)) (omega (arith, m)))

pub elements_exact : (R : Reader) (d : ℕ) → CompleteReader R d → (es : Trees) (rest : List TokenKind) → AllGood es → nesting_all es ≤ d → elements_in R.whole (spell_list RightBrace es ++ rest) ≡ Some (es, rest)
elements_exact R d h NoTrees rest g m = refl
elements_exact R d h (MoreTrees t ts) rest g m =
    let more = spell_more RightBrace ts ++ rest in
    ap (λ x. elements_in R.whole x) (append_assoc (spell t) (spell_more RightBrace ts) rest)
    ∙ elements_at R.whole (spell t ++ more) (begins_tree t more)
    ∙ ap (λ o. bind_items o close_elements) (items_exact R d h RightBrace curly t ts rest g.0 g.1 (omega (arith, m)) (omega (arith, m)))

no_arguments : (one : List TokenKind → Try) (ts : List TokenKind) → 0 < reach_of ts → arguments one ts ≡ None
no_arguments one [] lt = refl
no_arguments one (LeftParen ∷ ts) lt = absurd (omega (arith, lt))
no_arguments one (_ ∷ ts) lt = refl

pub called_exact : (t : Tree) (f : Trees → Tree) (one : List TokenKind → Try) (ts : List TokenKind) → 0 < reach_of ts → called t f ts (arguments one ts) ≡ (t, ts)
called_exact t f one ts lt = ap (λ o. called t f ts o) (no_arguments one ts lt)
