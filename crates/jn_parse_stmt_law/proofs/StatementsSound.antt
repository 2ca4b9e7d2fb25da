-- What the statement reader reads is spelled so, and is well formed.
use Rattle.std.proofs.Common.{◌≡◌, ℕ, zero, suc, ◌≤◌, List, [], ◌∷◌, ◌++◌, length, refl, sym, ap, ◌∙◌, arith, append_assoc, Option, Some, None, Bool, true, false, cond, ◌&&◌}
use Rattle.jn_trees.specs.declared.token.TokenKind.{TokenKind}
use Rattle.jn_trees.specs.declared.token.TokenKind.TheVariants.{Id, Break, Continue, Do, Else, For, If, Return, Super, This, While, LeftParen, RightParen, LeftBrace, RightBrace, Semicolon, Colon}
use Rattle.jn_trees.specs.declared.context.Context.{Context}
use Rattle.jn_trees.specs.Trees.{Tree, Trees, NoTrees, MoreTrees, LocalTree, ParameterTree, InitTree, ExpressionsInit, DeclarationInit, Statement, Statements, BlockStatement, ExpressionStatement, BreakStatement, ContinueStatement, ReturnStatement, LocalStatement, IfStatement, WhileStatement, DoStatement, ForStatement, ForEachStatement, ThisCallStatement, SuperCallStatement, MoreStatements}
use Rattle.jn_trees.specs.Spelling.{spell, spell_list, spell_marks, spell_type_use, spell_local, spell_parameter, spell_init, spell_optional, spell_statement, spell_body}
use Rattle.jn_trees.specs.WellFormed.{Good, AllGood, nesting, nesting_all, is_effect, GoodEffects, GoodOptional, nesting_optional, GoodInit, nesting_init, nesting_statement, nesting_body, ends_open, under, in_block, loop_body, GoodStatement, GoodStatements, assignment_rank}
use Rattle.jn_trees.specs.Longest.{Try, TryStatement, StatementFront}
use Rattle.jn_parse_expr_law.specs.Reader.{TryAll, arguments_in}
use Rattle.jn_parse_expr_law.proofs.Sound.{Spells, in_sound}
use Rattle.jn_parse_stmt_law.specs.Parts.{Read, then_read, ended, closed, read_parameter, local_behind, are_effects, if_effects, read_initial, read_optional}
use Rattle.jn_parse_stmt_law.specs.Fronts.{SoundParameter, SoundLocal}
use Rattle.jn_parse_stmt_law.specs.StatementReader.{around, in_parens, effect_statement, local_statement, simple_from, simple, loop_word, return_statement, constructor_call, with_else, if_end, if_statement, while_statement, do_end, do_statement, for_each, for_rest, for_local, for_named, for_from, for_statement, block_from, read_block, block_statement, statement_at, statement_by}
use Rattle.jn_parse_stmt_law.proofs.Fronts.{parameter_sound}
use Rattle.jn_parse_stmt_law.proofs.Wholes.{Whole, initial_sound}
use Rattle.jn_parse_stmt_law.proofs.Declarators.{local_behind_sound}

-- what holds of all that is read
abbrev pub AllRead : {A : Type 0} → (A → List TokenKind → Type 0) → Read A → Type 0
AllRead P None = Unit {0}
AllRead P (Some r) = P r.0 r.1

pub then_all : {A B : Type 0} (P : A → List TokenKind → Type 0) (Q : B → List TokenKind → Type 0) (o : Read A) (f : A → List TokenKind → Read B) → AllRead P o → ((a : A) (ts : List TokenKind) → P a ts → AllRead Q (f a ts)) → AllRead Q (then_read o f)
then_all P Q None f h k = tt
then_all P Q (Some r) f h k = k r.0 r.1 h

cond_all : {A : Type 0} (Q : A → List TokenKind → Type 0) (b : Bool) (o : Read A) → (b ≡ true → AllRead Q o) → AllRead Q (cond b o None)
cond_all Q true o h = h refl
cond_all Q false o h = tt

ended_all : {A : Type 0} (Q : A → List TokenKind → Type 0) (a : A) (ts : List TokenKind) → ((us : List TokenKind) → ts ≡ Semicolon ∷ us → Q a us) → AllRead Q (ended a ts)
ended_all Q a (Semicolon ∷ ts) h = h ts refl
ended_all Q a _ h = tt

closed_all : {A : Type 0} (Q : A → List TokenKind → Type 0) (a : A) (ts : List TokenKind) → ((us : List TokenKind) → ts ≡ RightParen ∷ us → Q a us) → AllRead Q (closed a ts)
closed_all Q a (RightParen ∷ ts) h = h ts refl
closed_all Q a _ h = tt

around_all : (P Q : Statement → List TokenKind → Type 0) (f : Statement → Statement) (o : TryStatement) → AllRead P o → ((s : Statement) (ts : List TokenKind) → P s ts → Q (f s) ts) → AllRead Q (around f o)
around_all P Q f None h k = tt
around_all P Q f (Some r) h k = k r.0 r.1 h

-- what a statement that is read there is
abbrev Fronts : Context → ℕ → List TokenKind → Statement → List TokenKind → Type 0
Fronts c d ts s rest = StatementFront c d ts (s, rest)

abbrev pub SoundStatement : Context → ℕ → List TokenKind → TryStatement → Type 0
SoundStatement c d ts o = AllRead (Fronts c d ts) o

abbrev FrontTree : ℕ → List TokenKind → Tree → List TokenKind → Type 0
FrontTree d ts e us = Spells assignment_rank d ts (e, us)

abbrev FrontList : TokenKind → ℕ → List TokenKind → Trees → List TokenKind → Type 0
FrontList end d ts es us = (ts ≡ spell_list end es ++ us) × AllGood es × (nesting_all es ≤ d)

abbrev FrontEffects : TokenKind → ℕ → List TokenKind → Trees → List TokenKind → Type 0
FrontEffects end d ts es us = (ts ≡ spell_list end es ++ us) × GoodEffects es × (nesting_all es ≤ d)

abbrev FrontOptional : ℕ → List TokenKind → Option Tree → List TokenKind → Type 0
FrontOptional d ts o us = (ts ≡ spell_optional o ++ Semicolon ∷ us) × GoodOptional o × (nesting_optional o ≤ d)

abbrev FrontClosed : ℕ → List TokenKind → Tree → List TokenKind → Type 0
FrontClosed d ts e us = (ts ≡ spell e ++ RightParen ∷ us) × Good e × (nesting e ≤ d)

-- effects
and_left : (a b : Bool) → a && b ≡ true → a ≡ true
and_left true b e = refl
and_left false b e = e

and_right : (a b : Bool) → a && b ≡ true → b ≡ true
and_right true b e = e
and_right false b e = cc

effects_good : (es : Trees) → AllGood es → are_effects es ≡ true → GoodEffects es
effects_good NoTrees g e = tt
effects_good (MoreTrees t es) g e = (g.0, and_left (is_effect t) (are_effects es) e, effects_good es g.1 (and_right (is_effect t) (are_effects es) e))

effects_sound : (end : TokenKind) (d : ℕ) (ts : List TokenKind) (o : TryAll) → AllRead (FrontList end d ts) o → AllRead (FrontEffects end d ts) (then_read o if_effects)
effects_sound end d ts o h =
    then_all (FrontList end d ts) (FrontEffects end d ts) o if_effects h (λ es us k. cond_all (FrontEffects end d ts) (are_effects es) (Some (es, us)) (λ all. (k.0, effects_good es k.1 all, k.2)))

module _ (d : ℕ) (whole : List TokenKind → Try) (w : Whole d whole) where
  closed_sound : (ts : List TokenKind) → AllRead (FrontClosed d ts) (then_read (whole ts) closed)
  closed_sound ts = then_all (FrontTree d ts) (FrontClosed d ts) (whole ts) closed (w.sound ts) (λ e us s. closed_all (FrontClosed d ts) e us (λ vs k. (s.0 ∙ ap (λ x. spell e ++ x) k, s.1, s.3)))

  parens_sound : (ts : List TokenKind) → AllRead (λ e us. (ts ≡ LeftParen ∷ (spell e ++ RightParen ∷ us)) × Good e × (nesting e ≤ d)) (in_parens whole ts)
  parens_sound (LeftParen ∷ ts) =
      then_all (FrontTree d ts) (λ e us. (LeftParen ∷ ts ≡ LeftParen ∷ (spell e ++ RightParen ∷ us)) × Good e × (nesting e ≤ d)) (whole ts) closed (w.sound ts)
      (λ e us s. closed_all (λ e us. (LeftParen ∷ ts ≡ LeftParen ∷ (spell e ++ RightParen ∷ us)) × Good e × (nesting e ≤ d)) e us (λ vs k. (ap (λ x. LeftParen ∷ x) (s.0 ∙ ap (λ x. spell e ++ x) k), s.1, s.3)))
  parens_sound _ = tt

  optional_sound : (ts : List TokenKind) → AllRead (FrontOptional d ts) (read_optional whole ts)
  optional_sound (Semicolon ∷ ts) = (refl, tt, omega arith)
  optional_sound ts =
      then_all (FrontTree d ts) (FrontOptional d ts) (whole ts) (λ e us. ended (Some e) us) (w.sound ts) (λ e us s. ended_all (FrontOptional d ts) (Some e) us (λ vs k. (s.0 ∙ ap (λ x. spell e ++ x) k, s.1, s.3)))

  -- expression statements and declarations of locals
  effect_sound : (c : Context) (ts : List TokenKind) (e : Tree) (us : List TokenKind) → FrontTree d ts e us → SoundStatement c (suc d) ts (effect_statement e us)
  effect_sound c ts e us s =
      cond_all (Fronts c (suc d) ts) (is_effect e) (ended (ExpressionStatement e) us)
      (λ effect. ended_all (Fronts c (suc d) ts) (ExpressionStatement e) us (λ vs k. (s.0 ∙ ap (λ x. spell e ++ x) k ∙ sym (append_assoc (spell e) (Semicolon ∷ []) vs), (s.1, effect), omega (arith, s.3))))

  local_ended : (c : Context) → c.direct ≡ true → (ts : List TokenKind) (l : LocalTree) (us : List TokenKind) → SoundLocal d ts (Some (l, us)) → SoundStatement c (suc d) ts (local_statement (l, us))
  local_ended c direct ts l us s =
      ended_all (Fronts c (suc d) ts) (LocalStatement l) us (λ vs k. (s.0 ∙ ap (λ x. spell_local l ++ x) k ∙ sym (append_assoc (spell_local l) (Semicolon ∷ []) vs), (s.1, direct), omega (arith, s.2)))

  simple_from_sound : (c : Context) (ts : List TokenKind) (o : Read ParameterTree) → SoundParameter ts o → SoundStatement c (suc d) ts (simple_from whole c.direct ts o)
  simple_from_sound c ts None h = then_all (FrontTree d ts) (Fronts c (suc d) ts) (whole ts) effect_statement (w.sound ts) (effect_sound c ts)
  simple_from_sound c ts (Some p) h =
      let l = local_behind whole p.0 p.1 in
      cond_all (Fronts c (suc d) ts) c.direct (local_statement l) (λ direct. local_ended c direct ts l.0 l.1 (local_behind_sound d whole w ts p.0 p.1 h))

  simple_sound : (c : Context) (ts : List TokenKind) → SoundStatement c (suc d) ts (simple whole c.direct ts)
  simple_sound c ts = simple_from_sound c ts (read_parameter ts) (parameter_sound ts)

  return_sound : (c : Context) (ts : List TokenKind) → SoundStatement c (suc d) (Return ∷ ts) (return_statement whole ts)
  return_sound c ts =
      then_all (FrontOptional d ts) (Fronts c (suc d) (Return ∷ ts)) (read_optional whole ts) (λ e us. Some (ReturnStatement e, us)) (optional_sound ts)
      (λ e us s. (ap (λ x. Return ∷ x) (s.0 ∙ sym (append_assoc (spell_optional e) (Semicolon ∷ []) us)), s.1, omega (arith, s.2)))

  this_sound : (c : Context) (ts : List TokenKind) → SoundStatement c (suc d) (This ∷ LeftParen ∷ ts) (constructor_call whole c.leading ThisCallStatement ts)
  this_sound c ts =
      let Q = Fronts c (suc d) (This ∷ LeftParen ∷ ts) in
      cond_all Q c.leading (then_read (arguments_in whole ts) (λ es us. ended (ThisCallStatement es) us))
      (λ leading. then_all (FrontList RightParen d ts) Q (arguments_in whole ts) (λ es us. ended (ThisCallStatement es) us) (in_sound d whole w.sound ts)
      (λ es us s. ended_all Q (ThisCallStatement es) us
      (λ vs k. (ap (λ x. This ∷ LeftParen ∷ x) (s.0 ∙ ap (λ x. spell_list RightParen es ++ x) k ∙ sym (append_assoc (spell_list RightParen es) (Semicolon ∷ []) vs)), (s.1, leading), omega (arith, s.2)))))

  super_sound : (c : Context) (ts : List TokenKind) → SoundStatement c (suc d) (Super ∷ LeftParen ∷ ts) (constructor_call whole c.leading SuperCallStatement ts)
  super_sound c ts =
      let Q = Fronts c (suc d) (Super ∷ LeftParen ∷ ts) in
      cond_all Q c.leading (then_read (arguments_in whole ts) (λ es us. ended (SuperCallStatement es) us))
      (λ leading. then_all (FrontList RightParen d ts) Q (arguments_in whole ts) (λ es us. ended (SuperCallStatement es) us) (in_sound d whole w.sound ts)
      (λ es us s. ended_all Q (SuperCallStatement es) us
      (λ vs k. (ap (λ x. Super ∷ LeftParen ∷ x) (s.0 ∙ ap (λ x. spell_list RightParen es ++ x) k ∙ sym (append_assoc (spell_list RightParen es) (Semicolon ∷ []) vs)), (s.1, leading), omega (arith, s.2)))))

  -- `if (e) s` stands before ts
  abbrev Stood : Context → List TokenKind → Tree → Statement → List TokenKind → Type 0
  Stood c us e s ts = (us ≡ If ∷ LeftParen ∷ (spell e ++ RightParen ∷ (spell_statement s ++ ts))) × Good e × (nesting e ≤ d) × GoodStatement (under c) s × (nesting_statement s ≤ d)

  if_alone : (c : Context) (us : List TokenKind) (e : Tree) (s : Statement) (ts : List TokenKind) → Stood c us e s ts → Fronts c (suc d) us (IfStatement e s) ts
  if_alone c us e s ts h = (h.0 ∙ sym (ap (λ x. If ∷ LeftParen ∷ x) (append_assoc (spell e) (RightParen ∷ spell_statement s) ts)), (h.1, h.3), omega (arith, h.2, h.4))

  else_sound : (c : Context) (us : List TokenKind) (e : Tree) (s : Statement) (ts : List TokenKind) (o : TryStatement) → Stood c us e s (Else ∷ ts) → SoundStatement (under c) d ts o → (b : Bool) → ends_open s ≡ b
      → SoundStatement c (suc d) us (cond b (Some (IfStatement e s, Else ∷ ts)) (with_else e s ts o))
  else_sound c us e s ts o h k true open_end = if_alone c us e s (Else ∷ ts) h
  else_sound c us e s ts None h k false open_end = if_alone c us e s (Else ∷ ts) h
  else_sound c us e s ts (Some r) h k false open_end =
      (h.0 ∙ ap (λ x. If ∷ LeftParen ∷ (spell e ++ RightParen ∷ (spell_statement s ++ Else ∷ x))) k.0 ∙ sym (regroup (spell e) (spell_statement s) (spell_statement r.0) r.1), (h.1, h.3, open_end, k.1), omega (arith, h.2, h.4, k.2))
    where
      regroup : (a b u v : List TokenKind) → If ∷ LeftParen ∷ ((a ++ RightParen ∷ (b ++ Else ∷ u)) ++ v) ≡ If ∷ LeftParen ∷ (a ++ RightParen ∷ (b ++ Else ∷ (u ++ v)))
      regroup a b u v = ap (λ x. If ∷ LeftParen ∷ x) (append_assoc a (RightParen ∷ (b ++ Else ∷ u)) v ∙ ap (λ x. a ++ RightParen ∷ x) (append_assoc b (Else ∷ u) v))

  module _ (one : Context → List TokenKind → TryStatement) (sound : (c : Context) (ts : List TokenKind) → SoundStatement c d ts (one c ts)) where
    if_end_sound : (c : Context) (us : List TokenKind) (e : Tree) (s : Statement) (ts : List TokenKind) → Stood c us e s ts → SoundStatement c (suc d) us (if_end (one (under c)) e s ts)
    if_end_sound c us e s (Else ∷ ts) h = else_sound c us e s ts (one (under c) ts) h (sound (under c) ts) (ends_open s) refl
    if_end_sound c us e s [] h = if_alone c us e s [] h
    if_end_sound c us e s (x ∷ ts) h = if_alone c us e s (x ∷ ts) h

    if_sound : (c : Context) (ts : List TokenKind) → SoundStatement c (suc d) (If ∷ ts) (if_statement whole (one (under c)) ts)
    if_sound c ts =
        let Q = Fronts c (suc d) (If ∷ ts) in
        then_all _ Q (in_parens whole ts) (λ e us. then_read (one (under c) us) (if_end (one (under c)) e)) (parens_sound ts)
        (λ e us s. then_all (Fronts (under c) d us) Q (one (under c) us) (if_end (one (under c)) e) (sound (under c) us)
        (λ b vs k. if_end_sound c (If ∷ ts) e b vs (ap (λ x. If ∷ x) (s.0 ∙ ap (λ x. LeftParen ∷ (spell e ++ RightParen ∷ x)) k.0), s.1, s.2, k.1, k.2)))

    while_sound : (c : Context) (ts : List TokenKind) → SoundStatement c (suc d) (While ∷ ts) (while_statement whole (one loop_body) ts)
    while_sound c ts =
        let Q = Fronts c (suc d) (While ∷ ts) in
        then_all _ Q (in_parens whole ts) (λ e us. around (WhileStatement e) (one loop_body us)) (parens_sound ts)
        (λ e us s. around_all (Fronts loop_body d us) Q (WhileStatement e) (one loop_body us) (sound loop_body us)
        (λ b vs k. (ap (λ x. While ∷ x) (s.0 ∙ ap (λ x. LeftParen ∷ x) (ap (λ x. spell e ++ RightParen ∷ x) k.0 ∙ sym (append_assoc (spell e) (RightParen ∷ spell_statement b) vs))), (s.1, k.1), omega (arith, s.2, k.2))))

    do_end_sound : (c : Context) (ts : List TokenKind) (s : Statement) (us : List TokenKind) → Fronts loop_body d ts s us → SoundStatement c (suc d) (Do ∷ ts) (do_end whole s us)
    do_end_sound c ts s (While ∷ us) h =
        let Q = Fronts c (suc d) (Do ∷ ts) in
        then_all _ Q (in_parens whole us) (λ e vs. ended (DoStatement s e) vs) (parens_sound us)
        (λ e vs k. ended_all Q (DoStatement s e) vs
        (λ xs m. (ap (λ x. Do ∷ x) (h.0 ∙ ap (λ x. spell_statement s ++ While ∷ x) (k.0 ∙ ap (λ x. LeftParen ∷ (spell e ++ RightParen ∷ x)) m) ∙ sym (regroup (spell_statement s) (spell e) xs)), (h.1, k.1), omega (arith, h.2, k.2))))
      where
        regroup : (a b v : List TokenKind) → (a ++ While ∷ LeftParen ∷ (b ++ RightParen ∷ Semicolon ∷ [])) ++ v ≡ a ++ While ∷ LeftParen ∷ (b ++ RightParen ∷ Semicolon ∷ v)
        regroup a b v = append_assoc a (While ∷ LeftParen ∷ (b ++ RightParen ∷ Semicolon ∷ [])) v ∙ ap (λ x. a ++ While ∷ LeftParen ∷ x) (append_assoc b (RightParen ∷ Semicolon ∷ []) v)
    do_end_sound c ts s _ h = tt

    do_sound : (c : Context) (ts : List TokenKind) → SoundStatement c (suc d) (Do ∷ ts) (do_statement whole (one loop_body) ts)
    do_sound c ts = then_all (Fronts loop_body d ts) (Fronts c (suc d) (Do ∷ ts)) (one loop_body ts) (do_end whole) (sound loop_body ts) (do_end_sound c ts)

    -- after the colon
    for_each_sound : (c : Context) (us : List TokenKind) (p : ParameterTree) (ts : List TokenKind) → SoundParameter us (Some (p, Colon ∷ ts)) → SoundStatement c (suc d) (For ∷ LeftParen ∷ us) (for_each whole (one loop_body) p ts)
    for_each_sound c us p ts h =
        let Q = Fronts c (suc d) (For ∷ LeftParen ∷ us) in
        then_all (FrontClosed d ts) Q (then_read (whole ts) closed) (λ e vs. around (ForEachStatement p.marks p.type_use p.name e) (one loop_body vs)) (closed_sound ts)
        (λ e vs s. around_all (Fronts loop_body d vs) Q (ForEachStatement p.marks p.type_use p.name e) (one loop_body vs) (sound loop_body vs)
        (λ b xs k. (ap (λ x. For ∷ LeftParen ∷ x) (h.0 ∙ ap (λ x. spell_parameter p ++ Colon ∷ x) (s.0 ∙ ap (λ x. spell e ++ RightParen ∷ x) k.0) ∙ sym (regroup (spell_marks p.marks) (spell_type_use p.type_use) (Id p.name) (spell e) (spell_statement b) xs)), (h.1, s.1, k.1), omega (arith, s.2, k.2))))
      where
        regroup : (a b : List TokenKind) (n : TokenKind) (e s v : List TokenKind) → (a ++ (b ++ n ∷ Colon ∷ (e ++ RightParen ∷ s))) ++ v ≡ (a ++ (b ++ n ∷ [])) ++ Colon ∷ (e ++ RightParen ∷ (s ++ v))
        regroup a b n e s v = simp (append_assoc) refl

    -- after the first semicolon
    for_rest_sound : (c : Context) (us : List TokenKind) (i : InitTree) (ts : List TokenKind) → us ≡ spell_init i ++ ts → GoodInit i → nesting_init i ≤ d → SoundStatement c (suc d) (For ∷ LeftParen ∷ us) (for_rest whole (one loop_body) i ts)
    for_rest_sound c us i ts h g m =
        let Q = Fronts c (suc d) (For ∷ LeftParen ∷ us) in
        then_all (FrontOptional d ts) Q (read_optional whole ts) (λ e vs. then_read (then_read (arguments_in whole vs) if_effects) (λ es xs. around (ForStatement i e es) (one loop_body xs))) (optional_sound ts)
        (λ e vs s. then_all (FrontEffects RightParen d vs) Q (then_read (arguments_in whole vs) if_effects) (λ es xs. around (ForStatement i e es) (one loop_body xs)) (effects_sound RightParen d vs (arguments_in whole vs) (in_sound d whole w.sound vs))
        (λ es xs k. around_all (Fronts loop_body d xs) Q (ForStatement i e es) (one loop_body xs) (sound loop_body xs)
        (λ b ys j. (
          ap (λ x. For ∷ LeftParen ∷ x) (h ∙ ap (λ x. spell_init i ++ x) (s.0 ∙ ap (λ x. spell_optional e ++ Semicolon ∷ x) (k.0 ∙ ap (λ x. spell_list RightParen es ++ x) j.0)) ∙ sym (regroup (spell_init i) (spell_optional e) (spell_list RightParen es) (spell_statement b) ys)),
          (g, s.1, k.1, j.1),
          omega (arith, m, s.2, k.2, j.2),
        ))))
      where
        regroup : (a b u s v : List TokenKind) → (a ++ (b ++ Semicolon ∷ (u ++ s))) ++ v ≡ a ++ (b ++ Semicolon ∷ (u ++ (s ++ v)))
        regroup a b u s v = simp (append_assoc) refl

    for_local_sound : (c : Context) (us : List TokenKind) (l : LocalTree) (ts : List TokenKind) → SoundLocal d us (Some (l, ts)) → SoundStatement c (suc d) (For ∷ LeftParen ∷ us) (for_local whole (one loop_body) (l, ts))
    for_local_sound c us l ts h =
        then_all (λ i vs. (us ≡ spell_init i ++ vs) × GoodInit i × (nesting_init i ≤ d)) (Fronts c (suc d) (For ∷ LeftParen ∷ us)) (ended (DeclarationInit l) ts) (for_rest whole (one loop_body))
        (ended_all (λ i vs. (us ≡ spell_init i ++ vs) × GoodInit i × (nesting_init i ≤ d)) (DeclarationInit l) ts (λ vs k. (h.0 ∙ ap (λ x. spell_local l ++ x) k ∙ sym (append_assoc (spell_local l) (Semicolon ∷ []) vs), h.1, h.2)))
        (λ i vs s. for_rest_sound c us i vs s.0 s.1 s.2)

    for_named_sound : (c : Context) (us : List TokenKind) (p : ParameterTree) (ts : List TokenKind) → SoundParameter us (Some (p, ts)) → SoundStatement c (suc d) (For ∷ LeftParen ∷ us) (for_named whole (one loop_body) p ts)
    for_named_sound c us p (Colon ∷ ts) h = for_each_sound c us p ts h
    for_named_sound c us p ts h = for_local_sound c us (local_behind whole p ts).0 (local_behind whole p ts).1 (local_behind_sound d whole w us p ts h)

    for_from_sound : (c : Context) (us : List TokenKind) (o : Read ParameterTree) → SoundParameter us o → SoundStatement c (suc d) (For ∷ LeftParen ∷ us) (for_from whole (one loop_body) us o)
    for_from_sound c us None h =
        then_all (FrontEffects Semicolon d us) (Fronts c (suc d) (For ∷ LeftParen ∷ us)) (then_read (read_initial whole us) if_effects) (λ es vs. for_rest whole (one loop_body) (ExpressionsInit es) vs)
        (effects_sound Semicolon d us (read_initial whole us) (initial_sound d whole w us))
        (λ es vs s. for_rest_sound c us (ExpressionsInit es) vs s.0 s.1 s.2)
    for_from_sound c us (Some p) h = for_named_sound c us p.0 p.1 h

    for_sound : (c : Context) (ts : List TokenKind) → SoundStatement c (suc d) (For ∷ ts) (for_statement whole (one loop_body) ts)
    for_sound c (LeftParen ∷ ts) = for_from_sound c ts (read_parameter ts) (parameter_sound ts)
    for_sound c _ = tt

    -- blocks
    abbrev FrontBlock : Context → List TokenKind → Statements → List TokenKind → Type 0
    FrontBlock c ts ss us = (ts ≡ spell_body ss ++ us) × GoodStatements c ss × (nesting_body ss ≤ d)

    block_sound : (c : Context) (n : ℕ) (ts : List TokenKind) → AllRead (FrontBlock c ts) (block_from (one c) n ts)
    block_sound c zero ts = tt
    block_sound c (suc n) (RightBrace ∷ ts) = (refl, tt, omega arith)
    block_sound c (suc n) ts =
        then_all (Fronts c d ts) (FrontBlock c ts) (one c ts) (λ s us. then_read (block_from (one c) n us) (λ ss vs. Some (MoreStatements s ss, vs))) (sound c ts)
        (λ s us h. then_all (FrontBlock c us) (FrontBlock c ts) (block_from (one c) n us) (λ ss vs. Some (MoreStatements s ss, vs)) (block_sound c n us)
        (λ ss vs k. (h.0 ∙ ap (λ x. spell_statement s ++ x) k.0 ∙ sym (append_assoc (spell_statement s) (spell_body ss) vs), (h.1, k.1), omega (arith, h.2, k.2))))

    read_block_sound : (c : Context) (ts : List TokenKind) → AllRead (FrontBlock c ts) (read_block (one c) ts)
    unfolding read_block
    read_block_sound c ts = block_sound c (suc (length ts)) ts

    block_statement_sound : (c : Context) (ts : List TokenKind) → SoundStatement c (suc d) (LeftBrace ∷ ts) (block_statement (one (in_block c)) ts)
    block_statement_sound c ts =
        then_all (FrontBlock (in_block c) ts) (Fronts c (suc d) (LeftBrace ∷ ts)) (read_block (one (in_block c)) ts) (λ ss us. Some (BlockStatement ss, us)) (read_block_sound (in_block c) ts)
        (λ ss us h. (ap (λ x. LeftBrace ∷ x) h.0, h.1, omega (arith, h.2)))

    word_sound : (c : Context) (k : TokenKind) (s : Statement) (ts : List TokenKind) → spell_statement s ≡ k ∷ Semicolon ∷ [] → (c.in_loop ≡ true → GoodStatement c s) → nesting_statement s ≤ suc d → SoundStatement c (suc d) (k ∷ ts) (loop_word c.in_loop s ts)
    word_sound c k s ts is good small =
        cond_all (Fronts c (suc d) (k ∷ ts)) c.in_loop (ended s ts) (λ loop. ended_all (Fronts c (suc d) (k ∷ ts)) s ts (λ us e. (ap (λ x. k ∷ x) e ∙ sym (ap (λ x. x ++ us) is), good loop, small)))

    at_sound : (c : Context) (ts : List TokenKind) → SoundStatement c (suc d) ts (statement_at whole one c ts)
    at_sound c (LeftBrace ∷ ts) = block_statement_sound c ts
    at_sound c (Semicolon ∷ ts) = (refl, tt, omega arith)
    at_sound c (Break ∷ ts) = word_sound c Break BreakStatement ts refl (λ e. e) (omega arith)
    at_sound c (Continue ∷ ts) = word_sound c Continue ContinueStatement ts refl (λ e. e) (omega arith)
    at_sound c (Return ∷ ts) = return_sound c ts
    at_sound c (If ∷ ts) = if_sound c ts
    at_sound c (While ∷ ts) = while_sound c ts
    at_sound c (Do ∷ ts) = do_sound c ts
    at_sound c (For ∷ ts) = for_sound c ts
    at_sound c (This ∷ LeftParen ∷ ts) = this_sound c ts
    at_sound c (Super ∷ LeftParen ∷ ts) = super_sound c ts
    at_sound c ts = simple_sound c ts

pub by_sound : (whole : ℕ → List TokenKind → Try) → ((d : ℕ) → Whole d (whole d)) → (d : ℕ) (c : Context) (ts : List TokenKind) → SoundStatement c d ts (statement_by whole d c ts)
by_sound whole w zero c ts = tt
by_sound whole w (suc d) c ts = at_sound d (whole d) (w d) (statement_by whole d) (by_sound whole w d) c ts
