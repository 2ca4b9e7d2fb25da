-- What a well-formed statement spells is read, and as far as it goes.
use Rattle.std.proofs.Common.{◌≡◌, ℕ, zero, suc, ◌<◌, ◌≤◌, List, [], ◌∷◌, ◌++◌, length, refl, sym, ap, ◌∙◌, subst, arith, append_assoc, length-append, Option, Some, None, Bool, true, false, cond, ◌&&◌}
use Rattle.jn_trees.specs.declared.token.TokenKind.{TokenKind}
use Rattle.jn_trees.specs.declared.token.TokenKind.TheVariants.{Id, Else, While, LeftParen, RightParen, RightBrace, Semicolon, Colon}
use Rattle.jn_trees.specs.declared.context.Context.{Context}
use Rattle.jn_trees.specs.Trees.{BaseTree, ClassBase, IntBase, BooleanBase, Tree, Trees, NoTrees, MoreTrees, LocalMark, AnnotationMark, FinalMark, DeclaratorTree, LocalTree, ParameterTree, InitTree, ExpressionsInit, DeclarationInit, Statement, Statements, BlockStatement, EmptyStatement, ExpressionStatement, BreakStatement, ContinueStatement, ReturnStatement, LocalStatement, IfStatement, IfElseStatement, WhileStatement, DoStatement, ForStatement, ForEachStatement, ThisCallStatement, SuperCallStatement, NoStatements, MoreStatements}
use Rattle.jn_trees.specs.Spelling.{base_token, spell, spell_list, spell_more, spell_marks, spell_brackets, spell_type_use, spell_value, spell_declarator, spell_more_declarators, spell_local, spell_parameter, spell_init, spell_optional, spell_statement, spell_body}
use Rattle.jn_trees.specs.WellFormed.{Good, AllGood, nesting, nesting_all, is_effect, GoodEffects, GoodOptional, nesting_optional, GoodLocal, nesting_local, GoodInit, nesting_init, nesting_statement, nesting_body, ends_open, under, in_block, loop_body, GoodStatement, GoodStatements}
use Rattle.jn_trees.specs.Longest.{Try, TryStatement}
use Rattle.jn_parse_expr_law.specs.Reader.{arguments_in}
use Rattle.jn_parse_stmt_law.specs.Parts.{then_read, ended, closed, read_parameter, local_behind, are_effects, if_effects, read_initial, read_optional}
use Rattle.jn_parse_stmt_law.specs.Fronts.{starts_else, ReadsStatement}
use Rattle.jn_parse_stmt_law.specs.StatementReader.{around, in_parens, effect_statement, local_statement, simple_from, simple, loop_word, return_statement, constructor_call, with_else, if_end, if_statement, while_statement, do_end, do_statement, for_rest, for_local, for_named, for_from, for_statement, block_from, read_block, block_statement, statement_at, statement_by}
use Rattle.jn_parse_stmt_law.proofs.Begins.{begins, begins_tree, no_parameter, simple_there, optional_there}
use Rattle.jn_parse_stmt_law.proofs.Fronts.{parameter_exact}
use Rattle.jn_parse_stmt_law.proofs.Wholes.{Whole, exact_tree, arguments_exact, initial_exact, begins_list, quiet_semicolon}
use Rattle.jn_parse_stmt_law.proofs.Declarators.{first_of, spell_behind, front_exact, local_behind_exact}
use Rattle.jn_parse_stmt_law.proofs.StatementsSound.{AllRead, SoundStatement, by_sound}

pub exactly : (s : Statement) (rest : List TokenKind) (o : TryStatement) → ReadsStatement s rest o → (starts_else rest ≡ true → ends_open s ≡ false) → o ≡ Some (s, rest)
exactly s rest None f c = absurd f
exactly s rest (Some r) f c = ap (λ x. Some x) (f.1 c)

reads_by : (s : Statement) (rest : List TokenKind) (o p : TryStatement) → o ≡ p → ReadsStatement s rest p → ReadsStatement s rest o
reads_by s rest o p e f = subst (λ x. ReadsStatement s rest x) (sym e) f

reads_exact : (s : Statement) (rest : List TokenKind) (o : TryStatement) → o ≡ Some (s, rest) → ReadsStatement s rest o
reads_exact s rest o e = reads_by s rest o (Some (s, rest)) e (omega arith, λ x. refl)

-- a body inside a statement that ends with it
around_reads : (f : Statement → Statement) → ((s : Statement) → ends_open s ≡ ends_open (f s)) → (s : Statement) (rest : List TokenKind) (o : TryStatement) → ReadsStatement s rest o → ReadsStatement (f s) rest (around f o)
around_reads f same s rest None h = absurd h
around_reads f same s rest (Some r) h = (h.0, λ e. ap (λ (y : Statement × List TokenKind). (f y.0, y.1)) (h.1 (λ x. same s ∙ e x)))

-- what statements begin with: neither `else` nor the end of a block
abbrev pub stands : List TokenKind → Bool
stands [] = false
stands (Else ∷ ts) = false
stands (RightBrace ∷ ts) = false
stands _ = true

begins_stands : (ts : List TokenKind) → begins ts ≡ true → stands ts ≡ true
begins_stands [] e = cc
begins_stands (Else ∷ ts) e = cc
begins_stands (RightBrace ∷ ts) e = cc
begins_stands _ e = refl

base_stands : (b : BaseTree) (ts : List TokenKind) → stands (base_token b ∷ ts) ≡ true
base_stands (ClassBase n) ts = refl
base_stands IntBase ts = refl
base_stands BooleanBase ts = refl

marks_stand : (marks : List LocalMark) (b : BaseTree) (tail rest : List TokenKind) → stands ((spell_marks marks ++ base_token b ∷ tail) ++ rest) ≡ true
marks_stand [] b tail rest = base_stands b (tail ++ rest)
marks_stand (AnnotationMark n ∷ marks) b tail rest = refl
marks_stand (FinalMark ∷ marks) b tail rest = refl

-- what stands after the base of a declaration's type
abbrev behind_base : LocalTree → List TokenKind
behind_base l = spell_brackets l.type_use.array ++ (spell_declarator l.first ++ spell_more_declarators l.more)

pub statement_stands : (s : Statement) (rest : List TokenKind) → stands (spell_statement s ++ rest) ≡ true
statement_stands (ExpressionStatement e) rest =
    ap stands (append_assoc (spell e) (Semicolon ∷ []) rest) ∙ begins_stands (spell e ++ Semicolon ∷ rest) (begins_tree e (Semicolon ∷ rest) (refl, refl))
statement_stands (LocalStatement l) rest = ap stands (append_assoc (spell_local l) (Semicolon ∷ []) rest) ∙ marks_stand l.marks l.type_use.base (behind_base l) (Semicolon ∷ rest)
statement_stands _ rest = refl

pub no_else : (ts : List TokenKind) → stands ts ≡ true → starts_else ts ≡ false
no_else (Else ∷ ts) e = cc
no_else _ e = refl

quiet : (s : Statement) (ts : List TokenKind) → starts_else ts ≡ false → starts_else ts ≡ true → ends_open s ≡ false
quiet s ts e f = absurd (let same : false ≡ true = sym e ∙ f in cc)

body_quiet : (ss : Statements) (rest : List TokenKind) → starts_else (spell_body ss ++ rest) ≡ false
body_quiet NoStatements rest = refl
body_quiet (MoreStatements s ss) rest = ap starts_else (append_assoc (spell_statement s) (spell_body ss) rest) ∙ no_else (spell_statement s ++ (spell_body ss ++ rest)) (statement_stands s (spell_body ss ++ rest))

-- numbers of statements
abbrev count : Statements → ℕ
count NoStatements = 0
count (MoreStatements s ss) = suc (count ss)

pub some_tokens : (s : Statement) → 0 < length (spell_statement s)
some_tokens (ExpressionStatement e) = omega (arith, length-append (spell e) (Semicolon ∷ []))
some_tokens (LocalStatement l) = omega (arith, length-append (spell_local l) (Semicolon ∷ []))
some_tokens _ = omega arith

count_below : (ss : Statements) → count ss < length (spell_body ss)
count_below NoStatements = omega arith
count_below (MoreStatements s ss) = let ih = count_below ss in omega (arith, ih, some_tokens s, length-append (spell_statement s) (spell_body ss))

some_depth : (s : Statement) → 0 < nesting_statement s
some_depth (BlockStatement ss) = omega arith
some_depth _ = omega arith

block_step : (one : List TokenKind → TryStatement) (n : ℕ) (ts : List TokenKind) → stands ts ≡ true → block_from one (suc n) ts ≡ then_read (one ts) (λ s us. then_read (block_from one n us) (λ ss vs. Some (MoreStatements s ss, vs)))
block_step one n (RightBrace ∷ ts) e = cc
block_step one n _ e = refl

-- effects
effects_all : (es : Trees) → GoodEffects es → AllGood es
effects_all NoTrees g = tt
effects_all (MoreTrees t es) g = (g.0, effects_all es g.2)

effects_yes : (es : Trees) → GoodEffects es → are_effects es ≡ true
effects_yes NoTrees g = refl
effects_yes (MoreTrees t es) g = ap (λ b. b && are_effects es) g.1 ∙ effects_yes es g.2

-- a declaration is told by no word
base_there : (whole : List TokenKind → Try) (one : Context → List TokenKind → TryStatement) (c : Context) (b : BaseTree) (ts : List TokenKind) → statement_at whole one c (base_token b ∷ ts) ≡ simple whole c.direct (base_token b ∷ ts)
base_there whole one c (ClassBase n) ts = refl
base_there whole one c IntBase ts = refl
base_there whole one c BooleanBase ts = refl

local_there : (whole : List TokenKind → Try) (one : Context → List TokenKind → TryStatement) (c : Context) (marks : List LocalMark) (b : BaseTree) (tail rest : List TokenKind)
    → statement_at whole one c ((spell_marks marks ++ base_token b ∷ tail) ++ rest) ≡ simple whole c.direct ((spell_marks marks ++ base_token b ∷ tail) ++ rest)
local_there whole one c [] b tail rest = base_there whole one c b (tail ++ rest)
local_there whole one c (AnnotationMark n ∷ marks) b tail rest = refl
local_there whole one c (FinalMark ∷ marks) b tail rest = refl

-- `if` and `else`
abbrev IsThere : TryStatement → Type 0
IsThere None = ⊥
IsThere (Some r) = Unit {0}

else_there : (e : Tree) (s : Statement) (b : Bool) (ts : List TokenKind) (o : TryStatement) → IsThere (cond b (Some (IfStatement e s, Else ∷ ts)) (with_else e s ts o))
else_there e s true ts o = tt
else_there e s false ts None = tt
else_there e s false ts (Some r) = tt

if_there : (one : List TokenKind → TryStatement) (e : Tree) (s : Statement) (ts : List TokenKind) → IsThere (if_end one e s ts)
if_there one e s (Else ∷ ts) = else_there e s (ends_open s) ts (one ts)
if_there one e s _ = tt

abbrev Shorter : List TokenKind → TryStatement → Type 0
Shorter ts o = AllRead (λ s us. length us ≤ length ts) o

shorter_of : (c : Context) (d : ℕ) (ts : List TokenKind) (o : TryStatement) → SoundStatement c d ts o → Shorter ts o
shorter_of c d ts None h = tt
shorter_of c d ts (Some r) h = omega (arith, ap (length {A = TokenKind}) h.0, length-append (spell_statement r.0) r.1)

else_shorter : (e : Tree) (s : Statement) (b : Bool) (ts : List TokenKind) (o : TryStatement) → Shorter ts o → Shorter (Else ∷ ts) (cond b (Some (IfStatement e s, Else ∷ ts)) (with_else e s ts o))
else_shorter e s true ts o h = omega arith
else_shorter e s false ts None h = omega arith
else_shorter e s false ts (Some r) h = omega (arith, h)

if_shorter : (one : List TokenKind → TryStatement) → ((ts : List TokenKind) → Shorter ts (one ts)) → (e : Tree) (s : Statement) (ts : List TokenKind) → Shorter ts (if_end one e s ts)
if_shorter one h e s (Else ∷ ts) = else_shorter e s (ends_open s) ts (one ts) (h ts)
if_shorter one h e s _ = omega arith

if_stops : (one : List TokenKind → TryStatement) (e : Tree) (s : Statement) (ts : List TokenKind) → (starts_else ts ≡ true → ⊥) → if_end one e s ts ≡ Some (IfStatement e s, ts)
if_stops one e s (Else ∷ ts) h = absurd (h refl)
if_stops one e s _ h = refl

if_reads : (one : List TokenKind → TryStatement) → ((ts : List TokenKind) → Shorter ts (one ts)) → (e : Tree) (s : Statement) (rest : List TokenKind) (o : TryStatement) → ReadsStatement s rest o → ReadsStatement (IfStatement e s) rest (then_read o (if_end one e))
if_reads one h e s rest None f = absurd f
if_reads one h e s rest (Some r) f =
    (elim (if_end one e r.0 r.1) as (λ o. Shorter r.1 o → if_end one e r.0 r.1 ≡ o → IsThere o → ReadsStatement (IfStatement e s) rest o) [
      | None ↦ λ _ _ none. absurd none
      | Some q ↦ λ short is _. (
        omega (arith, short, f.0),
        λ ends.
            let plain : starts_else rest ≡ true → ⊥ = λ x. (let none : true ≡ false = ends x in cc) in
            let same : r ≡ (s, rest) = f.1 (λ x. absurd (plain x)) in
            let end : if_end one e r.0 r.1 ≡ Some (IfStatement e s, rest) = ap (λ (x : Statement × List TokenKind). if_end one e x.0 x.1) same ∙ if_stops one e s rest plain in
            let both : ◌≡◌ {A = TryStatement} (Some q) (Some (IfStatement e s, rest)) = sym is ∙ end in
            cc,
      )
    ])
    (if_shorter one h e r.0 r.1) refl (if_there one e r.0 r.1)

if_else_reads : (one : List TokenKind → TryStatement) (e : Tree) (s u : Statement) (rest : List TokenKind) → ends_open s ≡ false → ReadsStatement u rest (one (spell_statement u ++ rest)) → ReadsStatement (IfElseStatement e s u) rest (if_end one e s (Else ∷ (spell_statement u ++ rest)))
if_else_reads one e s u rest ends f =
    let ts = spell_statement u ++ rest in
    subst (λ o. ReadsStatement (IfElseStatement e s u) rest o) (sym (ap (λ b. cond b (Some (IfStatement e s, Else ∷ ts)) (with_else e s ts (one ts))) ends))
    ((elim (one ts) as (λ o. ReadsStatement u rest o → ReadsStatement (IfElseStatement e s u) rest (with_else e s ts o))
    [ None ↦ λ x. absurd x | Some r ↦ λ x. (x.0, λ k. ap (λ (y : Statement × List TokenKind). (IfElseStatement e s y.0, y.1)) (x.1 k)) ]) f)

-- statements one level deeper
pub record Inner (d : ℕ) (one : Context → List TokenKind → TryStatement) : Type 0 where
  pub sound : (c : Context) (ts : List TokenKind) → SoundStatement c d ts (one c ts)
  pub reads : (c : Context) (s : Statement) (rest : List TokenKind) → GoodStatement c s → nesting_statement s ≤ d → ReadsStatement s rest (one c (spell_statement s ++ rest))

module _ (d : ℕ) (whole : List TokenKind → Try) (w : Whole d whole) where
  parens_exact : (e : Tree) (us : List TokenKind) → Good e → nesting e ≤ d → in_parens whole (LeftParen ∷ (spell e ++ RightParen ∷ us)) ≡ Some (e, us)
  parens_exact e us g m = ap (λ o. then_read o closed) (exact_tree d whole w e (RightParen ∷ us) g m (omega arith))

  optional_exact : (o : Option Tree) (us : List TokenKind) → GoodOptional o → nesting_optional o ≤ d → read_optional whole (spell_optional o ++ Semicolon ∷ us) ≡ Some (o, us)
  optional_exact None us g m = refl
  optional_exact (Some e) us g m =
      optional_there whole (spell e ++ Semicolon ∷ us) (begins_tree e (Semicolon ∷ us) (refl, refl)) ∙ ap (λ o. then_read o (λ e us. ended (Some e) us)) (exact_tree d whole w e (Semicolon ∷ us) g m (omega arith))

  effects_exact : (es : Trees) (us : List TokenKind) → GoodEffects es → nesting_all es ≤ d → then_read (arguments_in whole (spell_list RightParen es ++ us)) if_effects ≡ Some (es, us)
  effects_exact es us g m = ap (λ o. then_read o if_effects) (arguments_exact d whole w es us (effects_all es g) m) ∙ ap (λ b. cond b (Some (es, us)) None) (effects_yes es g)

  initial_effects : (es : Trees) (us : List TokenKind) → GoodEffects es → nesting_all es ≤ d → then_read (read_initial whole (spell_list Semicolon es ++ us)) if_effects ≡ Some (es, us)
  initial_effects es us g m = ap (λ o. then_read o if_effects) (initial_exact d whole w es us (effects_all es g) m) ∙ ap (λ b. cond b (Some (es, us)) None) (effects_yes es g)

  -- simple statements
  module _ (one : Context → List TokenKind → TryStatement) (c : Context) where
    expression_exact : (e : Tree) (rest : List TokenKind) → Good e → is_effect e ≡ true → nesting e ≤ d → statement_at whole one c ((spell e ++ Semicolon ∷ []) ++ rest) ≡ Some (ExpressionStatement e, rest)
    expression_exact e rest g effect m =
        let ts = spell e ++ Semicolon ∷ rest in
        let there : begins ts ≡ true = begins_tree e (Semicolon ∷ rest) (refl, refl) in
        ap (λ x. statement_at whole one c x) (append_assoc (spell e) (Semicolon ∷ []) rest)
        ∙ simple_there whole one c ts there
        ∙ ap (λ o. simple_from whole c.direct ts o) (no_parameter ts there)
        ∙ ap (λ o. then_read o effect_statement) (exact_tree d whole w e (Semicolon ∷ rest) g m (omega arith))
        ∙ ap (λ b. cond b (Some (ExpressionStatement e, rest)) None) effect

    local_statement_exact : (l : LocalTree) (rest : List TokenKind) → GoodLocal l → c.direct ≡ true → nesting_local l ≤ d → statement_at whole one c ((spell_local l ++ Semicolon ∷ []) ++ rest) ≡ Some (LocalStatement l, rest)
    local_statement_exact l rest g direct m =
        let us = Semicolon ∷ rest in
        let ts = spell_local l ++ us in
        ap (λ x. statement_at whole one c x) (append_assoc (spell_local l) (Semicolon ∷ []) rest)
        ∙ local_there whole one c l.marks l.type_use.base (behind_base l) us
        ∙ ap (λ o. simple_from whole c.direct ts o) (front_exact l us g)
        ∙ ap (λ b. cond b (local_statement (local_behind whole (first_of l) (spell_behind l us))) None) direct
        ∙ ap local_statement (local_behind_exact d whole w l us g m (omega arith, refl))

    return_exact : (o : Option Tree) (rest : List TokenKind) → GoodOptional o → nesting_optional o ≤ d → return_statement whole ((spell_optional o ++ Semicolon ∷ []) ++ rest) ≡ Some (ReturnStatement o, rest)
    return_exact o rest g m = ap (λ x. return_statement whole x) (append_assoc (spell_optional o) (Semicolon ∷ []) rest) ∙ ap (λ r. then_read r (λ e us. Some (ReturnStatement e, us))) (optional_exact o rest g m)

  call_exact : (f : Trees → Statement) (leading : Bool) (es : Trees) (rest : List TokenKind) → AllGood es → leading ≡ true → nesting_all es ≤ d → constructor_call whole leading f ((spell_list RightParen es ++ Semicolon ∷ []) ++ rest) ≡ Some (f es, rest)
  call_exact f leading es rest g leads m =
      ap (λ x. constructor_call whole leading f x) (append_assoc (spell_list RightParen es) (Semicolon ∷ []) rest)
      ∙ ap (λ b. constructor_call whole b f (spell_list RightParen es ++ Semicolon ∷ rest)) leads
      ∙ ap (λ o. then_read o (λ es us. ended (f es) us)) (arguments_exact d whole w es (Semicolon ∷ rest) g m)

  -- what a `for` begins with
  no_colon : (one : List TokenKind → TryStatement) (p : ParameterTree) (v : Option Tree) (ds : List DeclaratorTree) (rest : List TokenKind)
      → for_named whole one p (spell_value v ++ (spell_more_declarators ds ++ Semicolon ∷ rest)) ≡ for_local whole one (local_behind whole p (spell_value v ++ (spell_more_declarators ds ++ Semicolon ∷ rest)))
  no_colon one p None [] rest = refl
  no_colon one p None (x ∷ ds) rest = refl
  no_colon one p (Some e) ds rest = refl

  no_front : (es : Trees) (rest : List TokenKind) → read_parameter (spell_list Semicolon es ++ rest) ≡ None
  no_front NoTrees rest = refl
  no_front (MoreTrees t es) rest = no_parameter ((spell t ++ spell_more Semicolon es) ++ rest) (begins_list Semicolon t es rest (quiet_semicolon es rest))

  init_exact : (one : List TokenKind → TryStatement) (i : InitTree) (rest : List TokenKind) → GoodInit i → nesting_init i ≤ d → for_statement whole one (LeftParen ∷ (spell_init i ++ rest)) ≡ for_rest whole one i rest
  init_exact one (ExpressionsInit es) rest g m =
      ap (λ o. for_from whole one (spell_list Semicolon es ++ rest) o) (no_front es rest) ∙ ap (λ o. then_read o (λ es us. for_rest whole one (ExpressionsInit es) us)) (initial_effects es rest g m)
  init_exact one (DeclarationInit l) rest g m =
      let us = Semicolon ∷ rest in
      ap (λ x. for_from whole one x (read_parameter x)) (append_assoc (spell_local l) (Semicolon ∷ []) rest)
      ∙ ap (λ o. for_from whole one (spell_local l ++ us) o) (front_exact l us g)
      ∙ no_colon one (first_of l) l.first.value l.more rest
      ∙ ap (λ r. for_local whole one r) (local_behind_exact d whole w l us g m (omega arith, refl))

  rest_exact : (one : List TokenKind → TryStatement) (i : InitTree) (e : Option Tree) (es : Trees) (rest : List TokenKind) → GoodOptional e → nesting_optional e ≤ d → GoodEffects es → nesting_all es ≤ d
      → for_rest whole one i (spell_optional e ++ Semicolon ∷ (spell_list RightParen es ++ rest)) ≡ around (ForStatement i e es) (one rest)
  rest_exact one i e es rest g m k n =
      ap (λ o. then_read o (λ c us. then_read (then_read (arguments_in whole us) if_effects) (λ es vs. around (ForStatement i c es) (one vs)))) (optional_exact e (spell_list RightParen es ++ rest) g m)
      ∙ ap (λ o. then_read o (λ es vs. around (ForStatement i e es) (one vs))) (effects_exact es rest k n)

  module _ (one : Context → List TokenKind → TryStatement) (r : Inner d one) where
    shorter : (c : Context) (ts : List TokenKind) → Shorter ts (one c ts)
    shorter c ts = shorter_of c d ts (one c ts) (r.sound c ts)

    block_exact : (c : Context) (ss : Statements) (n : ℕ) (rest : List TokenKind) → GoodStatements c ss → nesting_body ss ≤ d → count ss < n → block_from (one c) n (spell_body ss ++ rest) ≡ Some (ss, rest)
    block_exact c ss zero rest g m lt = absurd (omega (arith, lt))
    block_exact c NoStatements (suc n) rest g m lt = refl
    block_exact c (MoreStatements s ss) (suc n) rest g m lt =
        let more = spell_body ss ++ rest in
        ap (λ x. block_from (one c) (suc n) x) (append_assoc (spell_statement s) (spell_body ss) rest)
        ∙ block_step (one c) n (spell_statement s ++ more) (statement_stands s more)
        ∙ ap (λ o. then_read o (λ t us. then_read (block_from (one c) n us) (λ ts vs. Some (MoreStatements t ts, vs))))
        (exactly s more (one c (spell_statement s ++ more)) (r.reads c s more g.0 (omega (arith, m))) (quiet s more (body_quiet ss rest)))
        ∙ ap (λ o. then_read o (λ ts vs. Some (MoreStatements s ts, vs))) (block_exact c ss n rest g.1 (omega (arith, m)) (omega (arith, lt)))

    read_block_exact : (c : Context) (ss : Statements) (rest : List TokenKind) → GoodStatements c ss → nesting_body ss ≤ d → read_block (one c) (spell_body ss ++ rest) ≡ Some (ss, rest)
    unfolding read_block
    read_block_exact c ss rest g m =
        let long : count ss < suc (length (spell_body ss ++ rest)) = omega (arith, count_below ss, length-append (spell_body ss) rest) in
        block_exact c ss (suc (length (spell_body ss ++ rest))) rest g m long

    do_exact : (s : Statement) (e : Tree) (rest : List TokenKind) → GoodStatement loop_body s → nesting_statement s ≤ d → Good e → nesting e ≤ d
        → do_statement whole (one loop_body) ((spell_statement s ++ While ∷ LeftParen ∷ (spell e ++ RightParen ∷ Semicolon ∷ [])) ++ rest) ≡ Some (DoStatement s e, rest)
    do_exact s e rest g m k n =
        let tail = While ∷ LeftParen ∷ (spell e ++ RightParen ∷ Semicolon ∷ rest) in
        ap (λ x. do_statement whole (one loop_body) x)
        (append_assoc (spell_statement s) (While ∷ LeftParen ∷ (spell e ++ RightParen ∷ Semicolon ∷ [])) rest ∙ ap (λ x. spell_statement s ++ While ∷ LeftParen ∷ x) (append_assoc (spell e) (RightParen ∷ Semicolon ∷ []) rest))
        ∙ ap (λ o. then_read o (do_end whole)) (exactly s tail (one loop_body (spell_statement s ++ tail)) (r.reads loop_body s tail g m) (quiet s tail refl))
        ∙ ap (λ o. then_read o (λ e us. ended (DoStatement s e) us)) (parens_exact e (Semicolon ∷ rest) k n)

    at_reads : (c : Context) (s : Statement) (rest : List TokenKind) → GoodStatement c s → nesting_statement s ≤ suc d → ReadsStatement s rest (statement_at whole one c (spell_statement s ++ rest))
    at_reads c (BlockStatement ss) rest g m =
        reads_exact (BlockStatement ss) rest (block_statement (one (in_block c)) (spell_body ss ++ rest)) (ap (λ o. then_read o (λ ss us. Some (BlockStatement ss, us))) (read_block_exact (in_block c) ss rest g (omega (arith, m))))
    at_reads c EmptyStatement rest g m = (omega arith, λ x. refl)
    at_reads c (ExpressionStatement e) rest g m = reads_exact (ExpressionStatement e) rest (statement_at whole one c ((spell e ++ Semicolon ∷ []) ++ rest)) (expression_exact one c e rest g.0 g.1 (omega (arith, m)))
    at_reads c BreakStatement rest g m = reads_exact BreakStatement rest (loop_word c.in_loop BreakStatement (Semicolon ∷ rest)) (ap (λ b. cond b (Some (BreakStatement, rest)) None) g)
    at_reads c ContinueStatement rest g m = reads_exact ContinueStatement rest (loop_word c.in_loop ContinueStatement (Semicolon ∷ rest)) (ap (λ b. cond b (Some (ContinueStatement, rest)) None) g)
    at_reads c (ReturnStatement e) rest g m = reads_exact (ReturnStatement e) rest (return_statement whole ((spell_optional e ++ Semicolon ∷ []) ++ rest)) (return_exact one c e rest g (omega (arith, m)))
    at_reads c (LocalStatement l) rest g m = reads_exact (LocalStatement l) rest (statement_at whole one c ((spell_local l ++ Semicolon ∷ []) ++ rest)) (local_statement_exact one c l rest g.0 g.1 (omega (arith, m)))
    at_reads c (IfStatement e s) rest g m =
        let more = spell_statement s ++ rest in
        reads_by (IfStatement e s) rest (if_statement whole (one (under c)) (LeftParen ∷ ((spell e ++ RightParen ∷ spell_statement s) ++ rest))) (then_read (one (under c) more) (if_end (one (under c)) e))
        (ap (λ x. if_statement whole (one (under c)) (LeftParen ∷ x)) (append_assoc (spell e) (RightParen ∷ spell_statement s) rest)
        ∙ ap (λ o. then_read o (λ e us. then_read (one (under c) us) (if_end (one (under c)) e))) (parens_exact e more g.0 (omega (arith, m))))
        (if_reads (one (under c)) (shorter (under c)) e s rest (one (under c) more) (r.reads (under c) s rest g.1 (omega (arith, m))))
    at_reads c (IfElseStatement e s u) rest g m =
        let last = spell_statement u ++ rest in
        let more = spell_statement s ++ Else ∷ last in
        reads_by (IfElseStatement e s u) rest (if_statement whole (one (under c)) (LeftParen ∷ ((spell e ++ RightParen ∷ (spell_statement s ++ Else ∷ spell_statement u)) ++ rest))) (if_end (one (under c)) e s (Else ∷ last))
        (ap (λ x. if_statement whole (one (under c)) (LeftParen ∷ x)) (append_assoc (spell e) (RightParen ∷ (spell_statement s ++ Else ∷ spell_statement u)) rest ∙ ap (λ x. spell e ++ RightParen ∷ x) (append_assoc (spell_statement s) (Else ∷ spell_statement u) rest))
        ∙ ap (λ o. then_read o (λ e us. then_read (one (under c) us) (if_end (one (under c)) e))) (parens_exact e more g.0 (omega (arith, m)))
        ∙ ap (λ o. then_read o (if_end (one (under c)) e)) (exactly s (Else ∷ last) (one (under c) more) (r.reads (under c) s (Else ∷ last) g.1 (omega (arith, m))) (λ _. g.2)))
        (if_else_reads (one (under c)) e s u rest g.2 (r.reads (under c) u rest g.3 (omega (arith, m))))
    at_reads c (WhileStatement e s) rest g m =
        let more = spell_statement s ++ rest in
        reads_by (WhileStatement e s) rest (while_statement whole (one loop_body) (LeftParen ∷ ((spell e ++ RightParen ∷ spell_statement s) ++ rest))) (around (WhileStatement e) (one loop_body more))
        (ap (λ x. while_statement whole (one loop_body) (LeftParen ∷ x)) (append_assoc (spell e) (RightParen ∷ spell_statement s) rest)
        ∙ ap (λ o. then_read o (λ e us. around (WhileStatement e) (one loop_body us))) (parens_exact e more g.0 (omega (arith, m))))
        (around_reads (WhileStatement e) (λ x. refl) s rest (one loop_body more) (r.reads loop_body s rest g.1 (omega (arith, m))))
    at_reads c (DoStatement s e) rest g m =
        reads_exact (DoStatement s e) rest (do_statement whole (one loop_body) ((spell_statement s ++ While ∷ LeftParen ∷ (spell e ++ RightParen ∷ Semicolon ∷ [])) ++ rest)) (do_exact s e rest g.0 (omega (arith, m)) g.1 (omega (arith, m)))
    at_reads c (ForStatement i e es s) rest g m =
        let last = spell_statement s ++ rest in
        let more = spell_optional e ++ Semicolon ∷ (spell_list RightParen es ++ last) in
        reads_by (ForStatement i e es s) rest (for_statement whole (one loop_body) (LeftParen ∷ ((spell_init i ++ (spell_optional e ++ Semicolon ∷ (spell_list RightParen es ++ spell_statement s))) ++ rest))) (around (ForStatement i e es) (one loop_body last))
        (ap (λ x. for_statement whole (one loop_body) (LeftParen ∷ x)) (regroup (spell_init i) (spell_optional e) (spell_list RightParen es) (spell_statement s) rest)
        ∙ init_exact (one loop_body) i more g.0 (omega (arith, m))
        ∙ rest_exact (one loop_body) i e es last g.1 (omega (arith, m)) g.2 (omega (arith, m)))
        (around_reads (ForStatement i e es) (λ x. refl) s rest (one loop_body last) (r.reads loop_body s rest g.3 (omega (arith, m))))
      where
        regroup : (a b u s v : List TokenKind) → (a ++ (b ++ Semicolon ∷ (u ++ s))) ++ v ≡ a ++ (b ++ Semicolon ∷ (u ++ (s ++ v)))
        regroup a b u s v = simp (append_assoc) refl
    at_reads c (ForEachStatement marks u n e s) rest g m =
        let p : ParameterTree = record { marks = marks; type_use = u; name = n } in
        let last = spell_statement s ++ rest in
        let more = spell e ++ RightParen ∷ last in
        reads_by (ForEachStatement marks u n e s) rest (for_statement whole (one loop_body) (LeftParen ∷ ((spell_marks marks ++ (spell_type_use u ++ Id n ∷ Colon ∷ (spell e ++ RightParen ∷ spell_statement s))) ++ rest))) (around (ForEachStatement marks u n e) (one loop_body last))
        (ap (λ x. for_statement whole (one loop_body) (LeftParen ∷ x)) (regroup (spell_marks marks) (spell_type_use u) (Id n) (spell e) (spell_statement s) rest)
        ∙ ap (λ o. for_from whole (one loop_body) (spell_parameter p ++ Colon ∷ more) o) (parameter_exact p (Colon ∷ more) g.0)
        ∙ ap (λ o. then_read (then_read o closed) (λ e us. around (ForEachStatement marks u n e) (one loop_body us))) (exact_tree d whole w e (RightParen ∷ last) g.1 (omega (arith, m)) (omega arith)))
        (around_reads (ForEachStatement marks u n e) (λ x. refl) s rest (one loop_body last) (r.reads loop_body s rest g.2 (omega (arith, m))))
      where
        regroup : (a b : List TokenKind) (n : TokenKind) (e s v : List TokenKind) → (a ++ (b ++ n ∷ Colon ∷ (e ++ RightParen ∷ s))) ++ v ≡ (a ++ (b ++ n ∷ [])) ++ Colon ∷ (e ++ RightParen ∷ (s ++ v))
        regroup a b n e s v = simp (append_assoc) refl
    at_reads c (ThisCallStatement es) rest g m = reads_exact (ThisCallStatement es) rest (constructor_call whole c.leading ThisCallStatement ((spell_list RightParen es ++ Semicolon ∷ []) ++ rest)) (call_exact ThisCallStatement c.leading es rest g.0 g.1 (omega (arith, m)))
    at_reads c (SuperCallStatement es) rest g m = reads_exact (SuperCallStatement es) rest (constructor_call whole c.leading SuperCallStatement ((spell_list RightParen es ++ Semicolon ∷ []) ++ rest)) (call_exact SuperCallStatement c.leading es rest g.0 g.1 (omega (arith, m)))

pub by_reads : (whole : ℕ → List TokenKind → Try) → ((d : ℕ) → Whole d (whole d)) → (d : ℕ) (c : Context) (s : Statement) (rest : List TokenKind) → GoodStatement c s → nesting_statement s ≤ d → ReadsStatement s rest (statement_by whole d c (spell_statement s ++ rest))
by_reads whole w zero c s rest g m = absurd (omega (arith, some_depth s, m))
by_reads whole w (suc d) c s rest g m = at_reads d (whole d) (w d) (statement_by whole d) (record { sound = by_sound whole w d; reads = by_reads whole w d }) c s rest g m
