-- Locals and statements are taken whole.
use Rattle.std.proofs.Common.{◌≡◌, ℕ, List, [], ◌∷◌, ◌++◌, refl, sym, ap, ◌∙◌, subst, arith, append_assoc, Option, Some, None, Bool, true, false}
use Rattle.jn_base.specs.declared.number.NameNo.{NameNo}
use Rattle.jn_trees.specs.declared.token.TokenKind.{TokenKind}
use Rattle.jn_trees.specs.declared.token.TokenKind.TheVariants.{Id, Str, Number, Abstract, Boolean, Break, Class, Continue, Do, Else as ElseWord, Extends, Final, For, If, Implements, Import, Instanceof, Int, Interface, New, Package, Private, Protected, Public, Return, Static, Super, This, Void, While, True, False, Null, LeftParen, RightParen, LeftBrace, RightBrace, LeftBracket, RightBracket, Semicolon, Comma, Dot, At, Assign, Greater, Less, Not, Question, Colon, EqualEqual, LessEqual, GreaterEqual, NotEqual, AndAnd, OrOr, PlusPlus, MinusMinus, Plus, Minus, Star, Slash, Percent, PlusAssign, MinusAssign, StarAssign, SlashAssign, PercentAssign}
use Rattle.jn_follow.specs.declared.frame.Frame.{Frame}
use Rattle.jn_follow.specs.declared.frame.Frame.TheVariants.{Start, Lines, Types, TypeMarked, ClassWord, InterfaceWord, ClassNamed, Extended, InterfaceNamed, Listed, Dotted, ImportDotted, ImportDot, Members, Marked, MemberNamed, MemberDeclared, MethodEnd, Parameters, Parameter, ParameterTyped, MoreParameters, TypeEnd, ArrayMarked, Declared, MoreDeclared, Body, Statement as AStatement, Else, Returned, ThisFirst, SuperFirst, LocalMarked, NameFirst, BracketFirst, ForInit, ForDeclared, ForCondition, ForUpdate, MoreEffects, Operand, Operator, Inner, InnerNamed, Created, ArrayCreated, ClassCreated, Size, Items, MoreItems, Name, OpenParen, CloseParen, OpenBracket, CloseBracket, OpenBrace, End, Other, Point, Again}
use Rattle.jn_follow.specs.declared.frame.Mode.{Mode}
use Rattle.jn_follow.specs.declared.frame.Mode.TheVariants.{Effect, Whole, Part}
use Rattle.jn_follow.specs.declared.frame.Stage.{Stage}
use Rattle.jn_follow.specs.declared.frame.Stage.TheVariants.{Named, Element, Primary, Casting, Called, Array, Done}
use Rattle.jn_trees.specs.declared.context.Context.{Context}
use Rattle.jn_trees.specs.Trees.{BaseTree, ClassBase, IntBase, BooleanBase, Tree, Trees, NameTree, ThisTree, NoTrees, MoreTrees, LocalMark, AnnotationMark, FinalMark, TypeUseTree, DeclaratorTree, LocalTree, InitTree, ExpressionsInit, DeclarationInit, Statement, Statements, BlockStatement, EmptyStatement, ExpressionStatement, BreakStatement, ContinueStatement, ReturnStatement, LocalStatement, IfStatement, IfElseStatement, WhileStatement, DoStatement, ForStatement, ForEachStatement, ThisCallStatement, SuperCallStatement, NoStatements, MoreStatements}
use Rattle.jn_trees.specs.Spelling.{base_token, spell_annotations, spell, spell_list, spell_more, spell_marks, spell_brackets, spell_type_use, spell_value, spell_declarator, spell_more_declarators, spell_local, spell_init, spell_optional, spell_statement, spell_body}
use Rattle.jn_trees.specs.WellFormed.{Good, AllGood, is_effect, GoodEffects, GoodOptional, GoodDeclarators, GoodLocal, GoodInit, ends_open, under, in_block, loop_body, body_context, GoodStatement, GoodStatements, GoodBody}
use Rattle.jn_follow.specs.Follow.{Next, more, only, named, local_end, effect_end, statement, later, is_no_else, closes, bind, run}
use Rattle.jn_follow.proofs.Steps.{more_more, Same, by_left, passed}
use Rattle.jn_follow.proofs.Fronts.{Begins, begins_number, begins_paren, Goes, goes_dot, Starts, starts_begins, starts_a_name, starts_a_this, starts_a_super, is_name, is_this, Agree, spine, fronts}
use Rattle.jn_follow.proofs.Operands.{list_taken, whole_taken, effect_taken}

not_true : {A : Type 0} → false ≡ true → A
not_true h = cc

-- types
pub array_taken : (names : List NameNo) (ks : List TokenKind) (st : List Frame) → run ((spell_annotations names ++ LeftBracket ∷ RightBracket ∷ []) ++ ks) (ArrayMarked ∷ st) ≡ run ks st
array_taken [] ks st = refl
array_taken (n ∷ names) ks st = array_taken names ks st

pub brackets_taken : (a : Option (List NameNo)) (n : NameNo) (ks : List TokenKind) (st : List Frame) → run (spell_brackets a ++ Id n ∷ ks) (TypeEnd ∷ Name ∷ st) ≡ run ks st
brackets_taken None n ks st = refl
brackets_taken (Some []) n ks st = refl
brackets_taken (Some (x ∷ names)) n ks st = array_taken names (Id n ∷ ks) (Name ∷ st)

first_taken : (f : Bool) (a : Option (List NameNo)) (n : NameNo) (ks : List TokenKind) (st : List Frame) → run (spell_brackets a ++ Id n ∷ ks) (NameFirst f ∷ st) ≡ run ks (local_end f ++ st)
first_taken f None n ks st = refl
first_taken f (Some []) n ks st = refl
first_taken f (Some (x ∷ names)) n ks st = array_taken names (Id n ∷ ks) (Name ∷ (local_end f ++ st))

-- declarators
pub value_taken : (v : Option Tree) (ds : List DeclaratorTree) (ks : List TokenKind) (st : List Frame) → GoodOptional v → run (spell_more_declarators ds ++ Semicolon ∷ ks) (MoreDeclared ∷ st) ≡ run (Semicolon ∷ ks) st → run (spell_value v ++ (spell_more_declarators ds ++ Semicolon ∷ ks)) (Declared ∷ st) ≡ run (Semicolon ∷ ks) st
value_taken None [] ks st g h = refl
value_taken None (d ∷ ds) ks st g h = h
value_taken (Some e) [] ks st g h = whole_taken e Semicolon ks (MoreDeclared ∷ st) g refl
value_taken (Some e) (d ∷ ds) ks st g h = whole_taken e Comma ((spell_declarator d ++ spell_more_declarators ds) ++ Semicolon ∷ ks) (MoreDeclared ∷ st) g refl ∙ h

pub more_declared_taken : (ds : List DeclaratorTree) (ks : List TokenKind) (st : List Frame) → GoodDeclarators ds → run (spell_more_declarators ds ++ Semicolon ∷ ks) (MoreDeclared ∷ st) ≡ run (Semicolon ∷ ks) st
more_declared_taken [] ks st g = refl
more_declared_taken (d ∷ ds) ks st g =
    by_left (spell_value d.value) (spell_more_declarators ds) (Semicolon ∷ ks) (Declared ∷ st)
    ∙ value_taken d.value ds ks st g.0 (more_declared_taken ds ks st g.1)

-- after the name of a local of a block, of a `for`, and of a field
pub local_value : (v : Option Tree) (ds : List DeclaratorTree) (ks : List TokenKind) (st : List Frame) → GoodOptional v → GoodDeclarators ds → run (spell_value v ++ (spell_more_declarators ds ++ Semicolon ∷ ks)) (Declared ∷ End ∷ st) ≡ run ks st
local_value v ds ks st g h = value_taken v ds ks (End ∷ st) g (more_declared_taken ds ks (End ∷ st) h)

for_value : (v : Option Tree) (ds : List DeclaratorTree) (ks : List TokenKind) (st : List Frame) → GoodOptional v → GoodDeclarators ds → run (spell_value v ++ (spell_more_declarators ds ++ Semicolon ∷ ks)) (ForDeclared ∷ st) ≡ run ks (ForCondition ∷ st)
for_value None [] ks st g h = refl
for_value None (d ∷ ds) ks st g h = local_value None (d ∷ ds) ks (ForCondition ∷ st) tt h
for_value (Some e) ds ks st g h = local_value (Some e) ds ks (ForCondition ∷ st) g h

-- marks, type and name of a local
marked_taken : (f : Bool) (ms : List LocalMark) (b : BaseTree) (a : Option (List NameNo)) (n : NameNo) (ks : List TokenKind) (st : List Frame) → run (spell_marks ms ++ (base_token b ∷ (spell_brackets a ++ Id n ∷ ks))) (LocalMarked f ∷ st) ≡ run ks (local_end f ++ st)
marked_taken f [] (ClassBase c) a n ks st = brackets_taken a n ks (local_end f ++ st)
marked_taken f [] IntBase a n ks st = brackets_taken a n ks (local_end f ++ st)
marked_taken f [] BooleanBase a n ks st = brackets_taken a n ks (local_end f ++ st)
marked_taken f (AnnotationMark m ∷ ms) b a n ks st = marked_taken f ms b a n ks st
marked_taken f (FinalMark ∷ ms) b a n ks st = marked_taken f ms b a n ks st

regroup : (ms ts vs ds ks : List TokenKind) (n : NameNo) → ((ms ++ (ts ++ ((Id n ∷ vs) ++ ds))) ++ Semicolon ∷ []) ++ ks ≡ ms ++ (ts ++ Id n ∷ (vs ++ (ds ++ Semicolon ∷ ks)))
regroup ms ts vs ds ks n = simp append_assoc

-- the tokens of a local after its name
abbrev pub local_rest : LocalTree → List TokenKind → List TokenKind
local_rest l ks = spell_value l.first.value ++ (spell_more_declarators l.more ++ Semicolon ∷ ks)

local_tokens : (l : LocalTree) (ks : List TokenKind) → (spell_local l ++ Semicolon ∷ []) ++ ks ≡ spell_marks l.marks ++ (spell_type_use l.type_use ++ Id l.first.name ∷ local_rest l ks)
local_tokens l ks = regroup (spell_marks l.marks) (spell_type_use l.type_use) (spell_value l.first.value) (spell_more_declarators l.more) ks l.first.name

block_start : (c : Context) → c.direct ≡ true → (ms : List LocalMark) (b : BaseTree) (a : Option (List NameNo)) (n : NameNo) (ks : List TokenKind) (st : List Frame) → run (spell_marks ms ++ (base_token b ∷ (spell_brackets a ++ Id n ∷ ks))) (AStatement c ∷ st) ≡ run ks (Declared ∷ End ∷ st)
block_start c h [] (ClassBase m) a n ks st = ap (λ x. bind (more (named x) st) (run (spell_brackets a ++ Id n ∷ ks))) h ∙ first_taken false a n ks st
block_start c h [] IntBase a n ks st = ap (λ x. bind (more (only x (Some (TypeEnd ∷ Name ∷ Declared ∷ End ∷ []))) st) (run (spell_brackets a ++ Id n ∷ ks))) h ∙ brackets_taken a n ks (Declared ∷ End ∷ st)
block_start c h [] BooleanBase a n ks st = ap (λ x. bind (more (only x (Some (TypeEnd ∷ Name ∷ Declared ∷ End ∷ []))) st) (run (spell_brackets a ++ Id n ∷ ks))) h ∙ brackets_taken a n ks (Declared ∷ End ∷ st)
block_start c h (AnnotationMark m ∷ ms) b a n ks st = ap (λ x. bind (more (only x (Some (Name ∷ LocalMarked false ∷ []))) st) (run (Id m ∷ (spell_marks ms ++ (base_token b ∷ (spell_brackets a ++ Id n ∷ ks)))))) h ∙ marked_taken false ms b a n ks st
block_start c h (FinalMark ∷ ms) b a n ks st = ap (λ x. bind (more (only x (Some (LocalMarked false ∷ []))) st) (run (spell_marks ms ++ (base_token b ∷ (spell_brackets a ++ Id n ∷ ks))))) h ∙ marked_taken false ms b a n ks st

for_start : (ms : List LocalMark) (b : BaseTree) (a : Option (List NameNo)) (n : NameNo) (ks : List TokenKind) (st : List Frame) → run (spell_marks ms ++ (base_token b ∷ (spell_brackets a ++ Id n ∷ ks))) (ForInit ∷ st) ≡ run ks (ForDeclared ∷ st)
for_start [] (ClassBase m) a n ks st = first_taken true a n ks st
for_start [] IntBase a n ks st = brackets_taken a n ks (ForDeclared ∷ st)
for_start [] BooleanBase a n ks st = brackets_taken a n ks (ForDeclared ∷ st)
for_start (AnnotationMark m ∷ ms) b a n ks st = marked_taken true ms b a n ks st
for_start (FinalMark ∷ ms) b a n ks st = marked_taken true ms b a n ks st

local_taken : (c : Context) → c.direct ≡ true → (l : LocalTree) (ks : List TokenKind) (st : List Frame) → GoodLocal l → run ((spell_local l ++ Semicolon ∷ []) ++ ks) (AStatement c ∷ st) ≡ run ks st
local_taken c h l ks st g =
    ap (λ x. run x (AStatement c ∷ st)) (local_tokens l ks)
    ∙ block_start c h l.marks l.type_use.base l.type_use.array l.first.name (local_rest l ks) st
    ∙ local_value l.first.value l.more ks st g.1.0 g.1.1

-- a name, an index, `this` at the front of a statement
first_goes : (f : Bool) (k : TokenKind) (ks : List TokenKind) (st : List Frame) → Goes k → run (k ∷ ks) (NameFirst f ∷ st) ≡ run (k ∷ ks) (Operator Effect Named ∷ (effect_end f ++ st))
first_goes f k ks st goes_dot = refl
first_goes f k ks st _ = refl

named_goes : (b : Bool) (k : TokenKind) (ks : List TokenKind) (st : List Frame) → Goes k → bind (more (named b) st) (run (k ∷ ks)) ≡ run (k ∷ ks) (Operator Effect Named ∷ End ∷ st)
named_goes true k ks st g = first_goes false k ks st g
named_goes false k ks st g = refl

named_call : (b : Bool) (ks : List TokenKind) (st : List Frame) → bind (more (named b) st) (run (LeftParen ∷ ks)) ≡ run (LeftParen ∷ ks) (Operator Effect Named ∷ End ∷ st)
named_call true ks st = refl
named_call false ks st = refl

bracket_starts : (f : Bool) (st : List Frame) (k : TokenKind) (ks : List TokenKind) → Starts k → Same (BracketFirst f ∷ st) (Operand Whole ∷ CloseBracket ∷ Operator Effect Element ∷ (effect_end f ++ st)) (k ∷ ks)
bracket_starts f st k ks (starts_begins _ (begins_number n)) = refl
bracket_starts f st k ks (starts_begins _ _) = refl
bracket_starts f st k ks (starts_a_name n) = refl
bracket_starts f st k ks starts_a_this = refl
bracket_starts f st k ks starts_a_super = refl

named_element : (b : Bool) (e : Tree) (ks : List TokenKind) (st : List Frame) → bind (more (named b) st) (run (LeftBracket ∷ (spell e ++ ks))) ≡ run (LeftBracket ∷ (spell e ++ ks)) (Operator Effect Named ∷ End ∷ st)
named_element true e ks st = fronts (BracketFirst false ∷ st) (Operand Whole ∷ CloseBracket ∷ Operator Effect Element ∷ End ∷ st) (bracket_starts false st) e ks
named_element false e ks st = refl

this_goes : (leading : Bool) (k : TokenKind) (ks : List TokenKind) (st : List Frame) → Goes k → Same (ThisFirst leading ∷ End ∷ st) (Operator Effect Primary ∷ End ∷ st) (k ∷ ks)
this_goes leading k ks st goes_dot = refl
this_goes leading k ks st _ = refl

statement_begins : (c : Context) (k : TokenKind) (ks : List TokenKind) (st : List Frame) → Begins k → Same (AStatement c ∷ st) (Operand Effect ∷ End ∷ st) (k ∷ ks)
statement_begins c k ks st (begins_number n) = refl
statement_begins c k ks st _ = refl

statement_agree : (c : Context) (st : List Frame) → Agree (AStatement c ∷ st) (Operand Effect ∷ End ∷ st)
statement_agree c st = record {
  start = λ k ks b. statement_begins c k ks st b;
  name = λ n k ks g. named_goes c.direct k ks st g;
  call = λ n ks. named_call c.direct ks st;
  element = λ n e ks. named_element c.direct e ks st;
  self = λ k ks g. this_goes c.leading k ks st g;
  self_element = λ ks. refl;
  parent = λ ks. refl;
}

for_begins : (k : TokenKind) (ks : List TokenKind) (st : List Frame) → Begins k → Same (ForInit ∷ st) (Operand Effect ∷ MoreEffects ∷ End ∷ ForCondition ∷ st) (k ∷ ks)
for_begins k ks st (begins_number n) = refl
for_begins k ks st _ = refl

for_agree : (st : List Frame) → Agree (ForInit ∷ st) (Operand Effect ∷ MoreEffects ∷ End ∷ ForCondition ∷ st)
for_agree st = record {
  start = λ k ks b. for_begins k ks st b;
  name = λ n k ks g. first_goes true k ks st g;
  call = λ n ks. refl;
  element = λ n e ks. fronts (BracketFirst true ∷ st) (Operand Whole ∷ CloseBracket ∷ Operator Effect Element ∷ MoreEffects ∷ End ∷ ForCondition ∷ st) (bracket_starts true st) e ks;
  self = λ k ks g. refl;
  self_element = λ ks. refl;
  parent = λ ks. refl;
}

effect_no_name : (e : Tree) → is_effect e ≡ true → is_name e ≡ true → ⊥
effect_no_name (NameTree n) h i = not_true h
effect_no_name _ h i = not_true i

effect_no_this : (e : Tree) → is_effect e ≡ true → is_this e ≡ true → ⊥
effect_no_this ThisTree h i = not_true h
effect_no_this _ h i = not_true i

expression_taken : (c : Context) (e : Tree) (ks : List TokenKind) (st : List Frame) → Good e → is_effect e ≡ true → run ((spell e ++ Semicolon ∷ []) ++ ks) (AStatement c ∷ st) ≡ run ks st
expression_taken c e ks st g h =
    by_left (spell e) (Semicolon ∷ []) ks (AStatement c ∷ st)
    ∙ spine (AStatement c ∷ st) (Operand Effect ∷ End ∷ st) (statement_agree c st) e (Semicolon ∷ ks) (λ n i. absurd (effect_no_name e h i)) (λ i. absurd (effect_no_this e h i))
    ∙ effect_taken e Semicolon ks (End ∷ st) g h refl

-- expressions of a `for`: of the init or the update
abbrev pub last_token : Bool → TokenKind
last_token false = Semicolon
last_token true = RightParen

abbrev pub last_frame : Bool → Frame
last_frame false = End
last_frame true = CloseParen

effect_more : (b : Bool) (e : Tree) (es : Trees) (ks : List TokenKind) (st : List Frame) → Good e → is_effect e ≡ true → run (spell e ++ (spell_more (last_token b) es ++ ks)) (Operand Effect ∷ st) ≡ run (spell_more (last_token b) es ++ ks) st
effect_more false e NoTrees ks st g h = effect_taken e Semicolon ks st g h refl
effect_more true e NoTrees ks st g h = effect_taken e RightParen ks st g h refl
effect_more b e (MoreTrees t ts) ks st g h = effect_taken e Comma ((spell t ++ spell_more (last_token b) ts) ++ ks) st g h refl

effects_more : (b : Bool) (es : Trees) (ks : List TokenKind) (st : List Frame) → GoodEffects es → run (spell_more (last_token b) es ++ ks) (MoreEffects ∷ last_frame b ∷ st) ≡ run ks st
effects_more false NoTrees ks st g = refl
effects_more true NoTrees ks st g = refl
effects_more b (MoreTrees t ts) ks st g =
    by_left (spell t) (spell_more (last_token b) ts) ks (Operand Effect ∷ MoreEffects ∷ last_frame b ∷ st)
    ∙ effect_more b t ts ks (MoreEffects ∷ last_frame b ∷ st) g.0 g.1
    ∙ effects_more b ts ks st g.2

init_taken : (i : InitTree) (ks : List TokenKind) (st : List Frame) → GoodInit i → run (spell_init i ++ ks) (ForInit ∷ st) ≡ run ks (ForCondition ∷ st)
init_taken (ExpressionsInit NoTrees) ks st g = refl
init_taken (ExpressionsInit (MoreTrees e es)) ks st g =
    by_left (spell e) (spell_more Semicolon es) ks (ForInit ∷ st)
    ∙ spine (ForInit ∷ st) (Operand Effect ∷ MoreEffects ∷ End ∷ ForCondition ∷ st) (for_agree st) e (spell_more Semicolon es ++ ks) (λ n i. absurd (effect_no_name e g.1 i)) (λ i. absurd (effect_no_this e g.1 i))
    ∙ effect_more false e es ks (MoreEffects ∷ End ∷ ForCondition ∷ st) g.0 g.1
    ∙ effects_more false es ks (ForCondition ∷ st) g.2
init_taken (DeclarationInit l) ks st g =
    ap (λ x. run x (ForInit ∷ st)) (local_tokens l ks)
    ∙ for_start l.marks l.type_use.base l.type_use.array l.first.name (local_rest l ks) st
    ∙ for_value l.first.value l.more ks st g.1.0 g.1.1

condition_starts : (st : List Frame) (k : TokenKind) (ks : List TokenKind) → Starts k → Same (ForCondition ∷ st) (Operand Whole ∷ End ∷ ForUpdate ∷ st) (k ∷ ks)
condition_starts st k ks (starts_begins _ (begins_number n)) = refl
condition_starts st k ks (starts_begins _ _) = refl
condition_starts st k ks (starts_a_name n) = refl
condition_starts st k ks starts_a_this = refl
condition_starts st k ks starts_a_super = refl

condition_taken : (c : Option Tree) (ks : List TokenKind) (st : List Frame) → GoodOptional c → run (spell_optional c ++ Semicolon ∷ ks) (ForCondition ∷ st) ≡ run ks (ForUpdate ∷ st)
condition_taken None ks st g = refl
condition_taken (Some e) ks st g =
    fronts (ForCondition ∷ st) (Operand Whole ∷ End ∷ ForUpdate ∷ st) (condition_starts st) e (Semicolon ∷ ks)
    ∙ whole_taken e Semicolon ks (End ∷ ForUpdate ∷ st) g refl

update_starts : (st : List Frame) (k : TokenKind) (ks : List TokenKind) → Starts k → Same (ForUpdate ∷ st) (Operand Effect ∷ MoreEffects ∷ st) (k ∷ ks)
update_starts st k ks (starts_begins _ (begins_number n)) = refl
update_starts st k ks (starts_begins _ _) = refl
update_starts st k ks (starts_a_name n) = refl
update_starts st k ks starts_a_this = refl
update_starts st k ks starts_a_super = refl

update_taken : (us : Trees) (ks : List TokenKind) (st : List Frame) → GoodEffects us → run (spell_list RightParen us ++ ks) (ForUpdate ∷ CloseParen ∷ st) ≡ run ks st
update_taken NoTrees ks st g = refl
update_taken (MoreTrees e es) ks st g =
    by_left (spell e) (spell_more RightParen es) ks (ForUpdate ∷ CloseParen ∷ st)
    ∙ fronts (ForUpdate ∷ CloseParen ∷ st) (Operand Effect ∷ MoreEffects ∷ CloseParen ∷ st) (update_starts (CloseParen ∷ st)) e (spell_more RightParen es ++ ks)
    ∙ effect_more true e es ks (MoreEffects ∷ CloseParen ∷ st) g.0 g.1
    ∙ effects_more true es ks st g.2

return_starts : (st : List Frame) (k : TokenKind) (ks : List TokenKind) → Starts k → Same (Returned ∷ st) (Operand Whole ∷ End ∷ st) (k ∷ ks)
return_starts st k ks (starts_begins _ (begins_number n)) = refl
return_starts st k ks (starts_begins _ _) = refl
return_starts st k ks (starts_a_name n) = refl
return_starts st k ks starts_a_this = refl
return_starts st k ks starts_a_super = refl

return_taken : (e : Option Tree) (ks : List TokenKind) (st : List Frame) → GoodOptional e → run ((spell_optional e ++ Semicolon ∷ []) ++ ks) (Returned ∷ st) ≡ run ks st
return_taken None ks st g = refl
return_taken (Some e) ks st g =
    by_left (spell e) (Semicolon ∷ []) ks (Returned ∷ st)
    ∙ fronts (Returned ∷ st) (Operand Whole ∷ End ∷ st) (return_starts st) e (Semicolon ∷ ks)
    ∙ whole_taken e Semicolon ks (End ∷ st) g refl

-- what a statement begins with
pub data Opens : TokenKind → Type 0 where
  opens_brace : Opens LeftBrace
  opens_end : Opens Semicolon
  opens_break : Opens Break
  opens_continue : Opens Continue
  opens_return : Opens Return
  opens_at : Opens At
  opens_final : Opens Final
  opens_int : Opens Int
  opens_boolean : Opens Boolean
  opens_if : Opens If
  opens_while : Opens While
  opens_do : Opens Do
  opens_for : Opens For
  opens_starts : (k : TokenKind) → Starts k → Opens k

local_fronts : (a b : List Frame) → ((k : TokenKind) (ks : List TokenKind) → Opens k → Same a b (k ∷ ks)) → (ms : List LocalMark) (base : BaseTree) (xs ks : List TokenKind) → Same a b (spell_marks ms ++ (base_token base ∷ (xs ++ ks)))
local_fronts a b h [] (ClassBase n) xs ks = h (Id n) (xs ++ ks) (opens_starts (Id n) (starts_a_name n))
local_fronts a b h [] IntBase xs ks = h Int (xs ++ ks) opens_int
local_fronts a b h [] BooleanBase xs ks = h Boolean (xs ++ ks) opens_boolean
local_fronts a b h (AnnotationMark m ∷ ms) base xs ks = h At (Id m ∷ (spell_marks ms ++ (base_token base ∷ (xs ++ ks)))) opens_at
local_fronts a b h (FinalMark ∷ ms) base xs ks = h Final (spell_marks ms ++ (base_token base ∷ (xs ++ ks))) opens_final

statement_fronts : (a b : List Frame) → ((k : TokenKind) (ks : List TokenKind) → Opens k → Same a b (k ∷ ks)) → (s : Statement) (ks : List TokenKind) → Same a b (spell_statement s ++ ks)
statement_fronts a b h (BlockStatement ss) ks = h LeftBrace (spell_body ss ++ ks) opens_brace
statement_fronts a b h EmptyStatement ks = h Semicolon ks opens_end
statement_fronts a b h (ExpressionStatement e) ks = by_left (spell e) (Semicolon ∷ []) ks a ∙ fronts a b (λ k rest s. h k rest (opens_starts k s)) e (Semicolon ∷ ks) ∙ sym (by_left (spell e) (Semicolon ∷ []) ks b)
statement_fronts a b h BreakStatement ks = h Break (Semicolon ∷ ks) opens_break
statement_fronts a b h ContinueStatement ks = h Continue (Semicolon ∷ ks) opens_continue
statement_fronts a b h (ReturnStatement e) ks = h Return ((spell_optional e ++ Semicolon ∷ []) ++ ks) opens_return
statement_fronts a b h (LocalStatement l) ks = subst (λ x. Same a b x) (sym (local_tokens l ks)) (local_fronts a b h l.marks l.type_use.base (spell_brackets l.type_use.array) (Id l.first.name ∷ local_rest l ks))
statement_fronts a b h (IfStatement c s) ks = h If (LeftParen ∷ ((spell c ++ RightParen ∷ spell_statement s) ++ ks)) opens_if
statement_fronts a b h (IfElseStatement c s u) ks = h If (LeftParen ∷ ((spell c ++ RightParen ∷ (spell_statement s ++ ElseWord ∷ spell_statement u)) ++ ks)) opens_if
statement_fronts a b h (WhileStatement c s) ks = h While (LeftParen ∷ ((spell c ++ RightParen ∷ spell_statement s) ++ ks)) opens_while
statement_fronts a b h (DoStatement s c) ks = h Do ((spell_statement s ++ While ∷ LeftParen ∷ (spell c ++ RightParen ∷ Semicolon ∷ [])) ++ ks) opens_do
statement_fronts a b h (ForStatement i c us s) ks = h For (LeftParen ∷ ((spell_init i ++ (spell_optional c ++ Semicolon ∷ (spell_list RightParen us ++ spell_statement s))) ++ ks)) opens_for
statement_fronts a b h (ForEachStatement ms u n e s) ks = h For (LeftParen ∷ ((spell_marks ms ++ (spell_type_use u ++ Id n ∷ Colon ∷ (spell e ++ RightParen ∷ spell_statement s))) ++ ks)) opens_for
statement_fronts a b h (ThisCallStatement es) ks = h This (LeftParen ∷ ((spell_list RightParen es ++ Semicolon ∷ []) ++ ks)) (opens_starts This starts_a_this)
statement_fronts a b h (SuperCallStatement es) ks = h Super (LeftParen ∷ ((spell_list RightParen es ++ Semicolon ∷ []) ++ ks)) (opens_starts Super starts_a_super)

body_opens : (c : Context) (st : List Frame) (k : TokenKind) (ks : List TokenKind) → Opens k → Same (Body c ∷ st) (AStatement c ∷ Body (later c) ∷ st) (k ∷ ks)
body_opens c st k ks opens_brace = refl
body_opens c st k ks (opens_starts _ (starts_begins _ (begins_number n))) = ap (λ x. bind x (run ks)) (more_more (statement c k) (Body (later c) ∷ []) st)
body_opens c st k ks (opens_starts _ (starts_begins _ _)) = ap (λ x. bind x (run ks)) (more_more (statement c k) (Body (later c) ∷ []) st)
body_opens c st k ks (opens_starts _ (starts_a_name n)) = ap (λ x. bind x (run ks)) (more_more (statement c (Id n)) (Body (later c) ∷ []) st)
body_opens c st k ks (opens_starts _ starts_a_this) = refl
body_opens c st k ks (opens_starts _ starts_a_super) = refl
body_opens c st k ks _ = ap (λ x. bind x (run ks)) (more_more (statement c k) (Body (later c) ∷ []) st)

-- what may still stand in front of a statement's end: an `else` for each `if` that has none
abbrev pub pending : Context → Statement → List Frame → List Frame
pending c (IfStatement e s) st = pending (under c) s (Else (under c) ∷ st)
pending c (IfElseStatement e s u) st = pending (under c) u st
pending c (WhileStatement e s) st = pending loop_body s st
pending c (ForStatement i e us s) st = pending loop_body s st
pending c (ForEachStatement ms u n e s) st = pending loop_body s st
pending c _ st = st

closed_pending : (c : Context) (s : Statement) (st : List Frame) → ends_open s ≡ false → pending c s st ≡ st
closed_pending c (IfStatement e s) st h = not_true (sym h)
closed_pending c (IfElseStatement e s u) st h = closed_pending (under c) u st h
closed_pending c (WhileStatement e s) st h = closed_pending loop_body s st h
closed_pending c (ForStatement i e us s) st h = closed_pending loop_body s st h
closed_pending c (ForEachStatement ms u n e s) st h = closed_pending loop_body s st h
closed_pending c EmptyStatement st h = refl
closed_pending c _ st h = refl

past : (c : Context) (s : Statement) (st : List Frame) (k : TokenKind) (ks : List TokenKind) → is_no_else k ≡ true → run (k ∷ ks) (pending c s st) ≡ run (k ∷ ks) st
past c (IfStatement e s) st k ks h = past (under c) s (Else (under c) ∷ st) k ks h ∙ passed (Else (under c)) k ks st h
past c (IfElseStatement e s u) st k ks h = past (under c) u st k ks h
past c (WhileStatement e s) st k ks h = past loop_body s st k ks h
past c (ForStatement i e us s) st k ks h = past loop_body s st k ks h
past c (ForEachStatement ms u n e s) st k ks h = past loop_body s st k ks h
past c EmptyStatement st k ks h = refl
past c _ st k ks h = refl

opens_no_else : (k : TokenKind) → Opens k → is_no_else k ≡ true
opens_no_else k opens_brace = refl
opens_no_else k (opens_starts _ (starts_begins _ (begins_number n))) = refl
opens_no_else k (opens_starts _ (starts_begins _ _)) = refl
opens_no_else k (opens_starts _ (starts_a_name n)) = refl
opens_no_else k (opens_starts _ starts_a_this) = refl
opens_no_else k (opens_starts _ starts_a_super) = refl
opens_no_else k _ = refl

past_body : (c : Context) (s : Statement) (ss : Statements) (ks : List TokenKind) (st : List Frame) → run (spell_body ss ++ ks) (pending c s st) ≡ run (spell_body ss ++ ks) st
past_body c s NoStatements ks st = past c s st RightBrace ks refl
past_body c s (MoreStatements t ts) ks st =
    by_left (spell_statement t) (spell_body ts) ks (pending c s st)
    ∙ statement_fronts (pending c s st) st (λ k rest o. past c s st k rest (opens_no_else k o)) t (spell_body ts ++ ks)
    ∙ sym (by_left (spell_statement t) (spell_body ts) ks st)

abbrev pub in_body : Bool → Context
in_body b = record { in_loop = b; direct = true; leading = false }

in_loop_only : (c : Context) (b : Bool) (k : TokenKind) (ks : List TokenKind) (st : List Frame) → c.in_loop ≡ true → bind (more (only c.in_loop (Some (End ∷ []))) st) (run (Semicolon ∷ ks)) ≡ run ks st
in_loop_only c b k ks st h = ap (λ x. bind (more (only x (Some (End ∷ []))) st) (run (Semicolon ∷ ks))) h

-- `(e)` and what stands after it
condition_closed : (e : Tree) (ys zs : List TokenKind) (st : List Frame) → Good e → run ((spell e ++ RightParen ∷ ys) ++ zs) (Operand Whole ∷ CloseParen ∷ st) ≡ run (ys ++ zs) st
condition_closed e ys zs st g = by_left (spell e) (RightParen ∷ ys) zs (Operand Whole ∷ CloseParen ∷ st) ∙ whole_taken e RightParen (ys ++ zs) (CloseParen ∷ st) g refl

for_group : (ws xs ys zs : List TokenKind) → (ws ++ (xs ++ ys)) ++ zs ≡ ws ++ (xs ++ (ys ++ zs))
for_group ws xs ys zs = simp append_assoc

for_tokens : (ms : List LocalMark) (u : TypeUseTree) (n : NameNo) (ys zs : List TokenKind) (st : List Frame) → run ((spell_marks ms ++ (spell_type_use u ++ Id n ∷ ys)) ++ zs) (ForInit ∷ st) ≡ run (ys ++ zs) (ForDeclared ∷ st)
for_tokens ms u n ys zs st =
    ap (λ x. run x (ForInit ∷ st)) (for_group (spell_marks ms) (spell_type_use u) (Id n ∷ ys) zs)
    ∙ for_start ms u.base u.array n (ys ++ zs) st

mutual
  pub statement_taken : (c : Context) (s : Statement) (ks : List TokenKind) (st : List Frame) → GoodStatement c s → run (spell_statement s ++ ks) (AStatement c ∷ st) ≡ run ks (pending c s st)
  statement_taken c (BlockStatement ss) ks st g = statements_taken c.in_loop ss ks st g
  statement_taken c EmptyStatement ks st g = refl
  statement_taken c (ExpressionStatement e) ks st g = expression_taken c e ks st g.0 g.1
  statement_taken c BreakStatement ks st g = in_loop_only c true Break ks st g
  statement_taken c ContinueStatement ks st g = in_loop_only c true Continue ks st g
  statement_taken c (ReturnStatement e) ks st g = return_taken e ks st g
  statement_taken c (LocalStatement l) ks st g = local_taken c g.1 l ks st g.0
  statement_taken c (IfStatement e s) ks st g =
      condition_closed e (spell_statement s) ks (AStatement (under c) ∷ Else (under c) ∷ st) g.0
      ∙ statement_taken (under c) s ks (Else (under c) ∷ st) g.1
  statement_taken c (IfElseStatement e s u) ks st g =
      condition_closed e (spell_statement s ++ ElseWord ∷ spell_statement u) ks (AStatement (under c) ∷ Else (under c) ∷ st) g.0
      ∙ by_left (spell_statement s) (ElseWord ∷ spell_statement u) ks (AStatement (under c) ∷ Else (under c) ∷ st)
      ∙ statement_taken (under c) s (ElseWord ∷ (spell_statement u ++ ks)) (Else (under c) ∷ st) g.1
      ∙ ap (λ x. run (ElseWord ∷ (spell_statement u ++ ks)) x) (closed_pending (under c) s (Else (under c) ∷ st) g.2)
      ∙ statement_taken (under c) u ks st g.3
  statement_taken c (WhileStatement e s) ks st g =
      condition_closed e (spell_statement s) ks (AStatement loop_body ∷ st) g.0
      ∙ statement_taken loop_body s ks st g.1
  statement_taken c (DoStatement s e) ks st g =
      let rest : List TokenKind = LeftParen ∷ ((spell e ++ RightParen ∷ Semicolon ∷ []) ++ ks) in
      let ends : List Frame = Again ∷ OpenParen ∷ Operand Whole ∷ CloseParen ∷ End ∷ st in
      by_left (spell_statement s) (While ∷ LeftParen ∷ (spell e ++ RightParen ∷ Semicolon ∷ [])) ks (AStatement loop_body ∷ ends)
      ∙ statement_taken loop_body s (While ∷ rest) ends g.0
      ∙ past loop_body s ends While rest refl
      ∙ condition_closed e (Semicolon ∷ []) ks (End ∷ st) g.1
  statement_taken c (ForStatement i e us s) ks st g =
      let ends : List Frame = CloseParen ∷ AStatement loop_body ∷ st in
      by_left (spell_init i) (spell_optional e ++ Semicolon ∷ (spell_list RightParen us ++ spell_statement s)) ks (ForInit ∷ ends)
      ∙ init_taken i ((spell_optional e ++ Semicolon ∷ (spell_list RightParen us ++ spell_statement s)) ++ ks) ends g.0
      ∙ by_left (spell_optional e) (Semicolon ∷ (spell_list RightParen us ++ spell_statement s)) ks (ForCondition ∷ ends)
      ∙ condition_taken e ((spell_list RightParen us ++ spell_statement s) ++ ks) ends g.1
      ∙ by_left (spell_list RightParen us) (spell_statement s) ks (ForUpdate ∷ ends)
      ∙ update_taken us (spell_statement s ++ ks) (AStatement loop_body ∷ st) g.2
      ∙ statement_taken loop_body s ks st g.3
  statement_taken c (ForEachStatement ms u n e s) ks st g =
      let ends : List Frame = CloseParen ∷ AStatement loop_body ∷ st in
      for_tokens ms u n (Colon ∷ (spell e ++ RightParen ∷ spell_statement s)) ks ends
      ∙ condition_closed e (spell_statement s) ks (AStatement loop_body ∷ st) g.1
      ∙ statement_taken loop_body s ks st g.2
  statement_taken c (ThisCallStatement es) ks st g =
      ap (λ b. bind (more (only b (Some (Items false ∷ []))) (End ∷ st)) (run ((spell_list RightParen es ++ Semicolon ∷ []) ++ ks))) g.1
      ∙ by_left (spell_list RightParen es) (Semicolon ∷ []) ks (Items false ∷ End ∷ st)
      ∙ list_taken false es (Semicolon ∷ ks) (End ∷ st) g.0
  statement_taken c (SuperCallStatement es) ks st g =
      ap (λ b. bind (more (only b (Some (Items false ∷ []))) (End ∷ st)) (run ((spell_list RightParen es ++ Semicolon ∷ []) ++ ks))) g.1
      ∙ by_left (spell_list RightParen es) (Semicolon ∷ []) ks (Items false ∷ End ∷ st)
      ∙ list_taken false es (Semicolon ∷ ks) (End ∷ st) g.0

  pub statements_taken : (b : Bool) (ss : Statements) (ks : List TokenKind) (st : List Frame) → GoodStatements (in_body b) ss → run (spell_body ss ++ ks) (Body (in_body b) ∷ st) ≡ run ks st
  statements_taken b NoStatements ks st g = refl
  statements_taken b (MoreStatements s ss) ks st g =
      by_left (spell_statement s) (spell_body ss) ks (Body (in_body b) ∷ st)
      ∙ statement_fronts (Body (in_body b) ∷ st) (AStatement (in_body b) ∷ Body (in_body b) ∷ st) (body_opens (in_body b) st) s (spell_body ss ++ ks)
      ∙ statement_taken (in_body b) s (spell_body ss ++ ks) (Body (in_body b) ∷ st) g.0
      ∙ past_body (in_body b) s ss ks (Body (in_body b) ∷ st)
      ∙ statements_taken b ss ks st g.1

-- the body of a method or a constructor
pub body_taken : (leading : Bool) (ss : Statements) (ks : List TokenKind) (st : List Frame) → GoodBody leading ss → run (spell_body ss ++ ks) (Body (body_context leading) ∷ st) ≡ run ks st
body_taken leading NoStatements ks st g = refl
body_taken leading (MoreStatements s ss) ks st g =
    by_left (spell_statement s) (spell_body ss) ks (Body (body_context leading) ∷ st)
    ∙ statement_fronts (Body (body_context leading) ∷ st) (AStatement (body_context leading) ∷ Body (in_body false) ∷ st) (body_opens (body_context leading) st) s (spell_body ss ++ ks)
    ∙ statement_taken (body_context leading) s (spell_body ss ++ ks) (Body (in_body false) ∷ st) g.0
    ∙ past_body (body_context leading) s ss ks (Body (in_body false) ∷ st)
    ∙ statements_taken false ss ks st g.2
