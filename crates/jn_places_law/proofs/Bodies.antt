-- Bodies whose sources differ in places differ in places alone.
use Rattle.std.proofs.Common.{◌≡◌, ℕ, suc, ◌+◌, Bool, true, false, cond, List, [], ◌∷◌, ◌++◌, length, Option, Some, None, refl, sym, ap, ◌∙◌}
use Rattle.std.specs.Prelude.{drop, option_map}
use Rattle.jn_base.specs.declared.place.Span.{Span}
use Rattle.jn_points.specs.declared.point.BaseType.{BaseType}
use Rattle.jn_points.specs.declared.point.BaseType.TheVariants.{Ref}
use Rattle.jn_points.specs.declared.point.Operand.{Operand}
use Rattle.jn_points.specs.declared.point.PointKind.{PointKind}
use Rattle.jn_points.specs.declared.point.PointKind.TheVariants.{CtorCall, FieldWrite, Return}
use Rattle.jn_points.specs.declared.program.Body.{Body}
use Rattle.jn_points.specs.declared.program.Method.{Method}
use Rattle.jn_points.specs.declared.program.Program.{Program}
use Rattle.jn_points.specs.BaseTyping.{given_bases}
use Rattle.jn_points.specs.Lookup.{class_info, class_of, ctor_of, method_at, params_of, parent_of, static_of}
use Rattle.jn_points.specs.Members.{constructor_of, declared_field}
use Rattle.jn_trees.specs.declared.token.Token.{Token}
use Rattle.jn_trees.specs.declared.token.TokenKind.TheVariants.{LeftParen, RightParen, Semicolon, This, Super, If, Else, While, For, Id, Colon}
use Rattle.jn_trees.specs.Trees.{Tree, Trees, NoTrees, DeclaratorTree, LocalTree, InitTree, ExpressionsInit, DeclarationInit, Statement, Statements, BlockStatement, EmptyStatement, ExpressionStatement, BreakStatement, ContinueStatement, ReturnStatement, LocalStatement, IfStatement, IfElseStatement, WhileStatement, DoStatement, ForStatement, ForEachStatement, ThisCallStatement, SuperCallStatement, NoStatements, MoreStatements}
use Rattle.jn_trees.specs.Spelling.{spell, spell_marks, spell_type_use, spell_declarator, spell_init, spell_optional, spell_list, spell_statement}
use Rattle.jn_places.specs.Placed.{PlacedMember, PlacedParameter, PlacedStatements, PlacedDeclarator}
use Rattle.jn_places.specs.Places.{behind, over, place, place_list, place_optional, place_declarator, place_next_declarator, spell_next_declarator, place_more_declarators, place_local, place_init, place_statement, place_body}
use Rattle.jn_lowering.specs.Fragments.{Part, does, to, parts, then}
use Rattle.jn_lowering.specs.Temporaries.{no_temporaries}
use Rattle.jn_lowering.specs.Scopes.{Scope, count, parent_class}
use Rattle.jn_lowering.specs.Forms.{Value, Lowered, field_no}
use Rattle.jn_lowering.specs.Calls.{Operands, is_static, method_no, this_operand}
use Rattle.jn_lowering.specs.Expressions.{lower, operands, span_of}
use Rattle.jn_lowering.specs.Locals.{State, declared, all_declared, declared_by, declared_first, parameters_from, with_temporaries}
use Rattle.jn_lowering.specs.Statements.{Step, back, fresh, no_step, statements, step, through}
use Rattle.jn_lowering.specs.Bodies.{calls_own, is_under_object, class, parent, name_span, first_parameter, at_entry, local_count, called_ctor, arguments, ctor_call, unwritten_call, construction, initializer_value, writes_field, initializes, initializers_of, initializers, own_initializers, body_of_parts, call_of, fields_of, whole, registers_of, body_of_source}
use Rattle.jn_places_law.specs.Bare.{bare, Alike, bare_body, bare_kind, bare_method, bare_operand, no_span}
use Rattle.jn_places_law.proofs.Lookups.{method_at_is, class_bare, ctor_bare, static_bare, parent_is}
use Rattle.jn_places_law.specs.Erased.{bare_trees, bare_scope, bare_fragment, bare_value, bare_row, bare_state, bare_step}
use Rattle.jn_places_law.proofs.Forms.{parts_bare, then_bare}
use Rattle.jn_places_law.proofs.Meanings.{count_bare, constructor_is, declared_field_is, parent_class_is, static_is}
use Rattle.jn_places_law.proofs.Expressions.{alike, row}
use Rattle.jn_places_law.proofs.Places.{placed, listed}
use Rattle.jn_places_law.proofs.Statements.{ends, both_alike, back_alike, statements_alike}

-- how many locals

more_length : (ts us : List Token) (ds : List DeclaratorTree) → length (place_more_declarators ts ds) ≡ length (place_more_declarators us ds)
more_length ts us [] = refl
more_length ts us (d ∷ ds) = ap suc (more_length (behind ts (spell_next_declarator d)) (behind us (spell_next_declarator d)) ds)

local_count_same : (ts us : List Token) (l : LocalTree) → declared_by (place_local ts l) ≡ declared_by (place_local us l)
local_count_same ts us l = ap (λ n. 1 + n) (more_length (behind (behind (behind ts (spell_marks l.marks)) (spell_type_use l.type_use)) (spell_declarator l.first)) (behind (behind (behind us (spell_marks l.marks)) (spell_type_use l.type_use)) (spell_declarator l.first)) l.more)

init_count : (ts us : List Token) (i : InitTree) → declared_first (place_init ts i) ≡ declared_first (place_init us i)
init_count ts us (ExpressionsInit es) = refl
init_count ts us (DeclarationInit l) = local_count_same ts us l

sum : {a b c d : ℕ} → a ≡ b → c ≡ d → a + c ≡ b + d
sum {a} {b} {c} {d} h k = ap (λ n. n + c) h ∙ ap (λ n. b + n) k

mutual
  declared_same : (ts us : List Token) (x : Statement) → declared (place_statement ts x) ≡ declared (place_statement us x)
  declared_same ts us (BlockStatement ss) = all_same (drop 1 ts) (drop 1 us) ss
  declared_same ts us EmptyStatement = refl
  declared_same ts us (ExpressionStatement e) = refl
  declared_same ts us BreakStatement = refl
  declared_same ts us ContinueStatement = refl
  declared_same ts us (ReturnStatement e) = refl
  declared_same ts us (LocalStatement l) = local_count_same ts us l
  declared_same ts us (IfStatement c s) = declared_same (behind (behind ts (If ∷ LeftParen ∷ [])) (spell c ++ RightParen ∷ [])) (behind (behind us (If ∷ LeftParen ∷ [])) (spell c ++ RightParen ∷ [])) s
  declared_same ts us (IfElseStatement c s u) =
      sum (declared_same (behind (behind ts (If ∷ LeftParen ∷ [])) (spell c ++ RightParen ∷ [])) (behind (behind us (If ∷ LeftParen ∷ [])) (spell c ++ RightParen ∷ [])) s)
      (declared_same (behind (behind (behind ts (If ∷ LeftParen ∷ [])) (spell c ++ RightParen ∷ [])) (spell_statement s ++ Else ∷ [])) (behind (behind (behind us (If ∷ LeftParen ∷ [])) (spell c ++ RightParen ∷ [])) (spell_statement s ++ Else ∷ [])) u)
  declared_same ts us (WhileStatement c s) = declared_same (behind (behind ts (While ∷ LeftParen ∷ [])) (spell c ++ RightParen ∷ [])) (behind (behind us (While ∷ LeftParen ∷ [])) (spell c ++ RightParen ∷ [])) s
  declared_same ts us (DoStatement s c) = declared_same (drop 1 ts) (drop 1 us) s
  declared_same ts us (ForStatement i c es s) =
      sum (init_count (behind ts (For ∷ LeftParen ∷ [])) (behind us (For ∷ LeftParen ∷ [])) i)
      (declared_same (behind (behind (behind (behind ts (For ∷ LeftParen ∷ [])) (spell_init i)) (spell_optional c ++ Semicolon ∷ [])) (spell_list RightParen es)) (behind (behind (behind (behind us (For ∷ LeftParen ∷ [])) (spell_init i)) (spell_optional c ++ Semicolon ∷ [])) (spell_list RightParen es)) s)
  declared_same ts us (ForEachStatement ms u n e s) =
      ap (λ k. 3 + k) (declared_same (behind (behind (behind (behind (behind ts (For ∷ LeftParen ∷ [])) (spell_marks ms)) (spell_type_use u)) (Id n ∷ Colon ∷ [])) (spell e ++ RightParen ∷ [])) (behind (behind (behind (behind (behind us (For ∷ LeftParen ∷ [])) (spell_marks ms)) (spell_type_use u)) (Id n ∷ Colon ∷ [])) (spell e ++ RightParen ∷ [])) s)
  declared_same ts us (ThisCallStatement es) = refl
  declared_same ts us (SuperCallStatement es) = refl

  all_same : (ts us : List Token) (xs : Statements) → all_declared (place_body ts xs) ≡ all_declared (place_body us xs)
  all_same ts us NoStatements = refl
  all_same ts us (MoreStatements x xs) = sum (declared_same ts us x) (all_same (behind ts (spell_statement x)) (behind us (spell_statement x)) xs)

pub params_bare : (m : Option Method) → params_of (option_map bare_method m) ≡ params_of m
params_bare None = refl
params_bare (Some m) = refl

pub count_same : (ts us : List Token) (es : Trees) → count (place_list ts es) ≡ count (place_list us es)
count_same ts us es = sym (count_bare (place_list ts es)) ∙ ap count (listed ts us es) ∙ count_bare (place_list us es)

pub own_same : (ts us : List Token) (xs : Statements) → calls_own (place_body ts xs) ≡ calls_own (place_body us xs)
own_same ts us NoStatements = refl
own_same ts us (MoreStatements (BlockStatement ss) xs) = refl
own_same ts us (MoreStatements EmptyStatement xs) = refl
own_same ts us (MoreStatements (ExpressionStatement e) xs) = refl
own_same ts us (MoreStatements BreakStatement xs) = refl
own_same ts us (MoreStatements ContinueStatement xs) = refl
own_same ts us (MoreStatements (ReturnStatement e) xs) = refl
own_same ts us (MoreStatements (LocalStatement l) xs) = refl
own_same ts us (MoreStatements (IfStatement q s) xs) = refl
own_same ts us (MoreStatements (IfElseStatement q s u) xs) = refl
own_same ts us (MoreStatements (WhileStatement q s) xs) = refl
own_same ts us (MoreStatements (DoStatement s q) xs) = refl
own_same ts us (MoreStatements (ForStatement i q es s) xs) = refl
own_same ts us (MoreStatements (ForEachStatement ms u n e s) xs) = refl
own_same ts us (MoreStatements (ThisCallStatement es) xs) = refl
own_same ts us (MoreStatements (SuperCallStatement es) xs) = refl

module _ (P Q : Program) (h : Alike P Q) (m : ℕ) where
  pub class_same : class P m ≡ class Q m
  class_same = sym (ap class_of (method_at_is P m) ∙ class_bare (method_at P m)) ∙ ap (λ z. class_of (method_at z m)) h ∙ (ap class_of (method_at_is Q m) ∙ class_bare (method_at Q m))

  pub ctor_same : ctor_of (method_at P m) ≡ ctor_of (method_at Q m)
  ctor_same = sym (ap ctor_of (method_at_is P m) ∙ ctor_bare (method_at P m)) ∙ ap (λ z. ctor_of (method_at z m)) h ∙ (ap ctor_of (method_at_is Q m) ∙ ctor_bare (method_at Q m))

  pub static_same : static_of (method_at P m) ≡ static_of (method_at Q m)
  static_same = sym (ap static_of (method_at_is P m) ∙ static_bare (method_at P m)) ∙ ap (λ z. static_of (method_at z m)) h ∙ (ap static_of (method_at_is Q m) ∙ static_bare (method_at Q m))

  pub params_same : params_of (method_at P m) ≡ params_of (method_at Q m)
  params_same = sym (ap params_of (method_at_is P m) ∙ params_bare (method_at P m)) ∙ ap (λ z. params_of (method_at z m)) h ∙ (ap params_of (method_at_is Q m) ∙ params_bare (method_at Q m))

  pub parents_same : parent_of (class_info P (class P m)) ≡ parent_of (class_info Q (class Q m))
  parents_same = sym (parent_is P (class P m)) ∙ ap (λ z. parent_of (class_info z (class P m))) h ∙ parent_is Q (class P m) ∙ ap (λ c. parent_of (class_info Q c)) class_same

  pub parent_same : parent P m ≡ parent Q m
  parent_same = sym (parent_class_is P (class P m)) ∙ ap (λ z. parent_class z (parent_of (class_info z (class P m)))) h ∙ parent_class_is Q (class P m) ∙ ap (λ c. parent_class Q (parent_of (class_info Q c))) class_same

  ctor_of_same : (k n : ℕ) → constructor_of P k n ≡ constructor_of Q k n
  ctor_of_same k n = sym (constructor_is P k n) ∙ ap (λ z. constructor_of z k n) h ∙ constructor_is Q k n

  pub field_same : (n : ℕ) → declared_field P (class P m) n (class P m) ≡ declared_field Q (class Q m) n (class Q m)
  field_same n = sym (declared_field_is P (class P m) n (class P m)) ∙ ap (λ z. declared_field z (class P m) n (class P m)) h ∙ declared_field_is Q (class P m) n (class P m) ∙ ap (λ c. declared_field Q c n c) class_same

  pub is_static_same : (f : ℕ) → is_static P f ≡ is_static Q f
  is_static_same f = sym (static_is P f) ∙ ap (λ z. is_static z f) h ∙ static_is Q f

  module _ (first : ℕ) where
    rest_alike : (st r : State) (ts us : List Token) (xs : Statements) → bare_state st ≡ bare_state r → bare_step (statements P (class P m) first st (place_body ts xs)) ≡ bare_step (statements Q (class Q m) first r (place_body us xs))
    rest_alike st r ts us xs k = statements_alike P Q (class P m) first h st r ts us xs k ∙ ap (λ c. bare_step (statements Q c first r (place_body us xs))) class_same

    -- ---- the call of another constructor

    arguments_alike : (st r : State) (ts us : List Token) (es : Trees) → bare_state st ≡ bare_state r → bare_row (arguments P m first st (place_list ts es)) ≡ bare_row (arguments Q m first r (place_list us es))
    arguments_alike st r ts us es k =
        row P (class P m) first st.scope st.temporaries (place_list ts es)
        ∙ ap (λ z. operands z (class P m) first (bare_scope st.scope) st.temporaries (bare_trees (place_list ts es))) h
        ∙ ap (λ (x : State). operands (bare Q) (class P m) first x.scope x.temporaries (bare_trees (place_list ts es))) k
        ∙ ap (operands (bare Q) (class P m) first (bare_scope r.scope) r.temporaries) (listed ts us es)
        ∙ ap (λ c. operands (bare Q) c first (bare_scope r.scope) r.temporaries (bare_trees (place_list us es))) class_same
        ∙ sym (row Q (class Q m) first r.scope r.temporaries (place_list us es))

    called_bare : (R : Program) (k : Option ℕ) (own : Bool) (span : Span) (args : Operands) → bare_fragment (called_ctor R m first k own span args) ≡ called_ctor P m first k own no_span (bare_row args)
    called_bare R None own span args = refl
    called_bare R (Some k) own span args = then_bare args.fragment (does span (CtorCall (method_no k) args.values own))

    abbrev call_step : State → Option ℕ → Bool → Span → Operands → Step
    call_step st k own span args = step (with_temporaries st args.behind) (called_ctor P m first k own span args)

    ctor_call_alike : (st r : State) (own : Bool) (j k : ℕ) (span at : Span) (ts us : List Token) (es : Trees) → bare_state st ≡ bare_state r → j ≡ k → bare_step (ctor_call P m first st own j (place_list ts es) span) ≡ bare_step (ctor_call Q m first r own k (place_list us es) at)
    ctor_call_alike st r own j k span at ts us es e g =
        back_alike st r (call_step st (constructor_of P j (count (place_list ts es))) own span (arguments P m first (fresh st) (place_list ts es))) (call_step r (constructor_of Q k (count (place_list us es))) own at (arguments Q m first (fresh r) (place_list us es))) e
        (ap (step (with_temporaries (bare_state st) (arguments P m first (fresh st) (place_list ts es)).behind)) (called_bare P (constructor_of P j (count (place_list ts es))) own span (arguments P m first (fresh st) (place_list ts es)))
        ∙ ap (λ x. call_step x (constructor_of P j (count (place_list ts es))) own no_span (bare_row (arguments P m first (fresh st) (place_list ts es)))) e
        ∙ ap (call_step (bare_state r) (constructor_of P j (count (place_list ts es))) own no_span) (arguments_alike (fresh st) (fresh r) ts us es (ap fresh e))
        ∙ ap (λ x. call_step (bare_state r) x own no_span (bare_row (arguments Q m first (fresh r) (place_list us es)))) (ctor_of_same j (count (place_list ts es)) ∙ ap (constructor_of Q j) (count_same ts us es) ∙ ap (λ x. constructor_of Q x (count (place_list us es))) g)
        ∙ sym (ap (step (with_temporaries (bare_state r) (arguments Q m first (fresh r) (place_list us es)).behind)) (called_bare Q (constructor_of Q k (count (place_list us es))) own at (arguments Q m first (fresh r) (place_list us es)))))

    pub either : (b d : Bool) (x y z w : Step) → b ≡ d → bare_step x ≡ bare_step z → bare_step y ≡ bare_step w → bare_step (cond b x y) ≡ bare_step (cond d z w)
    either b d x y z w e k g = ap (λ t. bare_step (cond t x y)) e ∙ cases d
      where
        cases : (d : Bool) → bare_step (cond d x y) ≡ bare_step (cond d z w)
        cases true = k
        cases false = g

    unwritten_alike : (st r : State) → bare_state st ≡ bare_state r → bare_step (unwritten_call P m first st) ≡ bare_step (unwritten_call Q m first r)
    unwritten_alike st r k =
        either (is_under_object (parent_of (class_info P (class P m)))) (is_under_object (parent_of (class_info Q (class Q m))))
        (no_step st) (ctor_call P m first st false (parent P m) (place_list [] NoTrees) (name_span P m)) (no_step r) (ctor_call Q m first r false (parent Q m) (place_list [] NoTrees) (name_span Q m))
        (ap is_under_object parents_same) (ap no_step k) (ctor_call_alike st r false (parent P m) (parent Q m) (name_span P m) (name_span Q m) [] [] NoTrees k parent_same)

    pub construction_alike : (st r : State) (ts us : List Token) (xs : Statements) → bare_state st ≡ bare_state r → bare_step (construction P m first st (place_body ts xs)) ≡ bare_step (construction Q m first r (place_body us xs))
    construction_alike st r ts us NoStatements k = unwritten_alike st r k
    construction_alike st r ts us (MoreStatements (BlockStatement ss) xs) k = unwritten_alike st r k
    construction_alike st r ts us (MoreStatements EmptyStatement xs) k = unwritten_alike st r k
    construction_alike st r ts us (MoreStatements (ExpressionStatement e) xs) k = unwritten_alike st r k
    construction_alike st r ts us (MoreStatements BreakStatement xs) k = unwritten_alike st r k
    construction_alike st r ts us (MoreStatements ContinueStatement xs) k = unwritten_alike st r k
    construction_alike st r ts us (MoreStatements (ReturnStatement e) xs) k = unwritten_alike st r k
    construction_alike st r ts us (MoreStatements (LocalStatement l) xs) k = unwritten_alike st r k
    construction_alike st r ts us (MoreStatements (IfStatement q s) xs) k = unwritten_alike st r k
    construction_alike st r ts us (MoreStatements (IfElseStatement q s u) xs) k = unwritten_alike st r k
    construction_alike st r ts us (MoreStatements (WhileStatement q s) xs) k = unwritten_alike st r k
    construction_alike st r ts us (MoreStatements (DoStatement s q) xs) k = unwritten_alike st r k
    construction_alike st r ts us (MoreStatements (ForStatement i q es s) xs) k = unwritten_alike st r k
    construction_alike st r ts us (MoreStatements (ForEachStatement ms u n e s) xs) k = unwritten_alike st r k
    construction_alike st r ts us (MoreStatements (ThisCallStatement es) xs) k = ctor_call_alike st r true (class P m) (class Q m) (over ts (spell_statement (ThisCallStatement es))) (over us (spell_statement (ThisCallStatement es))) (behind ts (This ∷ LeftParen ∷ [])) (behind us (This ∷ LeftParen ∷ [])) es k class_same
    construction_alike st r ts us (MoreStatements (SuperCallStatement es) xs) k = ctor_call_alike st r false (parent P m) (parent Q m) (over ts (spell_statement (SuperCallStatement es))) (over us (spell_statement (SuperCallStatement es))) (behind ts (Super ∷ LeftParen ∷ [])) (behind us (Super ∷ LeftParen ∷ [])) es k parent_same

    -- ---- initializers

    ends_to : (kind other : Operand → PointKind) → ((o : Operand) → bare_kind (kind o) ≡ other (bare_operand o)) → (st : State) (span : Span) (v : Value) → bare_step (ends kind st span v) ≡ ends other (bare_state st) no_span (bare_value v)
    ends_to kind other same st span v =
        ap (step (with_temporaries (bare_state st) v.behind)) (then_bare v.fragment (does span (kind v.operand)))
        ∙ ap (λ p. step (with_temporaries (bare_state st) v.behind) (then (bare_fragment v.fragment) (does no_span p))) (same v.operand)

    initial_alike : (st r : State) (ts us : List Token) (e : Tree) → bare_state st ≡ bare_state r → bare_value (initializer_value P m first st (place ts e)) ≡ bare_value (initializer_value Q m first r (place us e))
    initial_alike st r ts us e k =
        ap (λ (l : Lowered). l.value) (alike P Q (class P m) first [] [] (fresh st).temporaries (place ts e) (place us e) h refl (placed ts us e))
        ∙ ap (λ (x : State). bare_value (lower Q (class P m) first [] (fresh x).temporaries (place us e)).value) k
        ∙ ap (λ c. bare_value (lower Q c first [] (fresh r).temporaries (place us e)).value) class_same

    writes_alike : (f : Option ℕ) (name other : Span) (st r : State) (ts us : List Token) (e : Tree) → bare_state st ≡ bare_state r → bare_step (writes_field P m first f name st (place ts e)) ≡ bare_step (writes_field Q m first f other r (place us e))
    writes_alike None name other st r ts us e k = ap no_step k
    writes_alike (Some f) name other st r ts us e k =
        either (is_static P f) (is_static Q f) (no_step st) (back st (ends (λ o. FieldWrite (this_operand name) (field_no f) o) st (through name (span_of (place ts e))) (initializer_value P m first st (place ts e)))) (no_step r) (back r (ends (λ o. FieldWrite (this_operand other) (field_no f) o) r (through other (span_of (place us e))) (initializer_value Q m first r (place us e)))) (is_static_same f) (ap no_step k)
        (back_alike st r (ends (λ o. FieldWrite (this_operand name) (field_no f) o) st (through name (span_of (place ts e))) (initializer_value P m first st (place ts e))) (ends (λ o. FieldWrite (this_operand other) (field_no f) o) r (through other (span_of (place us e))) (initializer_value Q m first r (place us e))) k
        (ends_to (λ o. FieldWrite (this_operand name) (field_no f) o) (λ o. FieldWrite (this_operand no_span) (field_no f) o) (λ o. refl) st (through name (span_of (place ts e))) (initializer_value P m first st (place ts e))
        ∙ ap (λ x. ends (λ o. FieldWrite (this_operand no_span) (field_no f) o) x no_span (bare_value (initializer_value P m first st (place ts e)))) k
        ∙ ap (ends (λ o. FieldWrite (this_operand no_span) (field_no f) o) (bare_state r) no_span) (initial_alike st r ts us e k)
        ∙ sym (ends_to (λ o. FieldWrite (this_operand other) (field_no f) o) (λ o. FieldWrite (this_operand no_span) (field_no f) o) (λ o. refl) r (through other (span_of (place us e))) (initializer_value Q m first r (place us e)))))

    initializes_alike : (name other : Span) (n : ℕ) (st r : State) (ts us : List Token) (e : Option Tree) → bare_state st ≡ bare_state r → bare_step (initializes P m first name n st (place_optional ts e)) ≡ bare_step (initializes Q m first other n r (place_optional us e))
    initializes_alike name other n st r ts us None k = ap no_step k
    initializes_alike name other n st r ts us (Some e) k =
        writes_alike (declared_field P (class P m) n (class P m)) name other st r ts us e k
        ∙ ap (λ f. bare_step (writes_field Q m first f other r (place us e))) (field_same n)

    abbrev one : Program → State → PlacedDeclarator → Step
    one R st d = initializes R m first d.name.span d.name.name.0 st d.value

    one_alike : (st r : State) (ts us : List Token) (d : DeclaratorTree) → bare_state st ≡ bare_state r → bare_step (one P st (place_declarator ts d)) ≡ bare_step (one Q r (place_declarator us d))
    one_alike st r ts us d k = initializes_alike (place_declarator ts d).name.span (place_declarator us d).name.span d.name.0 st r (drop 1 (drop 1 ts)) (drop 1 (drop 1 us)) d.value k

    more_alike : (st r : State) (ts us : List Token) (ds : List DeclaratorTree) → bare_state st ≡ bare_state r → bare_step (initializers_of P m first st (place_more_declarators ts ds)) ≡ bare_step (initializers_of Q m first r (place_more_declarators us ds))
    more_alike st r ts us [] k = ap no_step k
    more_alike st r ts us (d ∷ ds) k =
        both_alike (one P st (place_next_declarator ts d)) (initializers_of P m first (one P st (place_next_declarator ts d)).behind (place_more_declarators (behind ts (spell_next_declarator d)) ds))
        (one Q r (place_next_declarator us d)) (initializers_of Q m first (one Q r (place_next_declarator us d)).behind (place_more_declarators (behind us (spell_next_declarator d)) ds))
        (one_alike st r (drop 1 ts) (drop 1 us) d k)
        (more_alike (one P st (place_next_declarator ts d)).behind (one Q r (place_next_declarator us d)).behind (behind ts (spell_next_declarator d)) (behind us (spell_next_declarator d)) ds (ap (λ (x : Step). x.behind) (one_alike st r (drop 1 ts) (drop 1 us) d k)))

    -- those of one member
    pub fields_alike : (st r : State) (ts us vs ws : List Token) (d : DeclaratorTree) (ds : List DeclaratorTree) → bare_state st ≡ bare_state r → bare_step (initializers_of P m first st (place_declarator ts d ∷ place_more_declarators vs ds)) ≡ bare_step (initializers_of Q m first r (place_declarator us d ∷ place_more_declarators ws ds))
    fields_alike st r ts us vs ws d ds k =
        both_alike (one P st (place_declarator ts d)) (initializers_of P m first (one P st (place_declarator ts d)).behind (place_more_declarators vs ds))
        (one Q r (place_declarator us d)) (initializers_of Q m first (one Q r (place_declarator us d)).behind (place_more_declarators ws ds))
        (one_alike st r ts us d k)
        (more_alike (one P st (place_declarator ts d)).behind (one Q r (place_declarator us d)).behind vs ws ds (ap (λ (x : Step). x.behind) (one_alike st r ts us d k)))

    -- ---- the whole body

    abbrev form : Span → Step → Step → Step → Step
    form span x y z = step z.behind (parts (to x.fragment (Part 0) (Part 0) ∷ to y.fragment (Part 1) (Part 1) ∷ to z.fragment (Part 3) (Part 3) ∷ to (does span (Return None)) (Part 3) (Part 3) ∷ []))

    each : (span : Span) (x y z : Step) → bare_step (form span x y z) ≡ form no_span (bare_step x) (bare_step y) (bare_step z)
    each span x y z = ap (step (bare_state z.behind)) (parts_bare (to x.fragment (Part 0) (Part 0) ∷ to y.fragment (Part 1) (Part 1) ∷ to z.fragment (Part 3) (Part 3) ∷ to (does span (Return None)) (Part 3) (Part 3) ∷ []))

    parts_alike : (x y z a b c : Step) → bare_step x ≡ bare_step a → bare_step y ≡ bare_step b → bare_step z ≡ bare_step c → bare_step (body_of_parts P m first x y z) ≡ bare_step (body_of_parts Q m first a b c)
    parts_alike x y z a b c e k g = each (name_span P m) x y z ∙ ap (λ s. form no_span s (bare_step y) (bare_step z)) e ∙ ap (λ s. form no_span (bare_step a) s (bare_step z)) k ∙ ap (form no_span (bare_step a) (bare_step b)) g ∙ sym (each (name_span Q m) a b c)

    abbrev whole_by : Program → Bool → State → PlacedStatements → List PlacedMember → Step
    whole_by R b st xs members = body_of_parts R m first (call_of R m first b st xs) (fields_of R m first b (call_of R m first b st xs).behind xs members) (statements R (class R m) first (fields_of R m first b (call_of R m first b st xs).behind xs members).behind xs)

    whole_alike : (st r : State) (ts us : List Token) (xs : Statements) (members others : List PlacedMember) → bare_state st ≡ bare_state r →
        ((a b : State) → bare_state a ≡ bare_state b → bare_step (initializers P m first a members) ≡ bare_step (initializers Q m first b others)) →
        bare_step (whole P m first st (place_body ts xs) members) ≡ bare_step (whole Q m first r (place_body us xs) others)
    whole_alike st r ts us xs members others k g =
        cases (ctor_of (method_at P m))
        ∙ ap (λ b. bare_step (whole_by Q b r (place_body us xs) others)) ctor_same
      where
        cases : (b : Bool) → bare_step (whole_by P b st (place_body ts xs) members) ≡ bare_step (whole_by Q b r (place_body us xs) others)
        cases false = parts_alike (no_step st) (no_step st) (statements P (class P m) first st (place_body ts xs)) (no_step r) (no_step r) (statements Q (class Q m) first r (place_body us xs)) (ap no_step k) (ap no_step k) (rest_alike st r ts us xs k)
        cases true =
            parts_alike (construction P m first st (place_body ts xs)) (own_initializers P m first (construction P m first st (place_body ts xs)).behind (place_body ts xs) members) (statements P (class P m) first (own_initializers P m first (construction P m first st (place_body ts xs)).behind (place_body ts xs) members).behind (place_body ts xs)) (construction Q m first r (place_body us xs)) (own_initializers Q m first (construction Q m first r (place_body us xs)).behind (place_body us xs) others) (statements Q (class Q m) first (own_initializers Q m first (construction Q m first r (place_body us xs)).behind (place_body us xs) others).behind (place_body us xs))
            (construction_alike st r ts us xs k) (either (calls_own (place_body ts xs)) (calls_own (place_body us xs)) (no_step (construction P m first st (place_body ts xs)).behind) (initializers P m first (construction P m first st (place_body ts xs)).behind members) (no_step (construction Q m first r (place_body us xs)).behind) (initializers Q m first (construction Q m first r (place_body us xs)).behind others) (own_same ts us xs) (ap no_step (ap (λ (x : Step). x.behind) (construction_alike st r ts us xs k))) (g (construction P m first st (place_body ts xs)).behind (construction Q m first r (place_body us xs)).behind (ap (λ (x : Step). x.behind) (construction_alike st r ts us xs k)))) (rest_alike (own_initializers P m first (construction P m first st (place_body ts xs)).behind (place_body ts xs) members).behind (own_initializers Q m first (construction Q m first r (place_body us xs)).behind (place_body us xs) others).behind ts us xs (ap (λ (x : Step). x.behind) (either (calls_own (place_body ts xs)) (calls_own (place_body us xs)) (no_step (construction P m first st (place_body ts xs)).behind) (initializers P m first (construction P m first st (place_body ts xs)).behind members) (no_step (construction Q m first r (place_body us xs)).behind) (initializers Q m first (construction Q m first r (place_body us xs)).behind others) (own_same ts us xs) (ap no_step (ap (λ (x : Step). x.behind) (construction_alike st r ts us xs k))) (g (construction P m first st (place_body ts xs)).behind (construction Q m first r (place_body us xs)).behind (ap (λ (x : Step). x.behind) (construction_alike st r ts us xs k))))))

  abbrev entry : Scope → List BaseType → State
  entry s bases = record { scope = s; locals = bases; temporaries = no_temporaries }

  abbrev by_step : Step → ℕ → Body
  by_step x n = record { method = method_no m; regs = registers_of x.behind; locals = n; points = x.fragment.points 0 0 0 }

  given_same : given_bases P m ≡ given_bases Q m
  given_same =
      ap (λ b. cond b (params_of (method_at P m)) (Ref (record { 0 = class P m }) ∷ params_of (method_at P m))) static_same
      ∙ ap (λ ps. cond (static_of (method_at Q m)) ps (Ref (record { 0 = class P m }) ∷ ps)) params_same
      ∙ ap (λ (c : ℕ). cond (static_of (method_at Q m)) (params_of (method_at Q m)) (Ref (record { 0 = c }) ∷ params_of (method_at Q m))) class_same

  pub count_alike : (ts us : List Token) (xs : Statements) → local_count P m (place_body ts xs) ≡ local_count Q m (place_body us xs)
  count_alike ts us xs = sum (ap length given_same) (all_same ts us xs)

  pub entry_alike : (ps qs : List PlacedParameter) → ((r : ℕ) (bases : List BaseType) → parameters_from r ps bases ≡ parameters_from r qs bases) → bare_state (at_entry P m ps) ≡ bare_state (at_entry Q m qs)
  entry_alike ps qs g =
      ap (λ (s : Scope). bare_state (entry s (given_bases P m))) (g (first_parameter P m) (params_of (method_at P m)))
      ∙ ap (λ bases. bare_state (entry (parameters_from (first_parameter P m) qs bases) (given_bases P m))) params_same
      ∙ ap (λ b. bare_state (entry (parameters_from (cond b 0 1) qs (params_of (method_at Q m))) (given_bases P m))) static_same
      ∙ ap (λ bases. bare_state (entry (parameters_from (first_parameter Q m) qs (params_of (method_at Q m))) bases)) given_same

  -- a body whose source differs in places, and in what is written before parameters
  pub body_alike : (ps qs : List PlacedParameter) (ts us : List Token) (xs : Statements) (members others : List PlacedMember) →
      ((r : ℕ) (bases : List BaseType) → parameters_from r ps bases ≡ parameters_from r qs bases) →
      ((first : ℕ) (a b : State) → bare_state a ≡ bare_state b → bare_step (initializers P m first a members) ≡ bare_step (initializers Q m first b others)) →
      bare_body (body_of_source P (record { method = m; parameters = ps; body = place_body ts xs; members = members }))
      ≡ bare_body (body_of_source Q (record { method = m; parameters = qs; body = place_body us xs; members = others }))
  body_alike ps qs ts us xs members others g f =
      ap (λ (x : Step). by_step x (local_count P m (place_body ts xs)))
      (whole_alike (local_count P m (place_body ts xs)) (at_entry P m ps) (at_entry Q m qs) ts us xs members others (entry_alike ps qs g) (f (local_count P m (place_body ts xs)))
      ∙ ap (λ n. bare_step (whole Q m n (at_entry Q m qs) (place_body us xs) others)) (count_alike ts us xs))
      ∙ ap (by_step (bare_step (whole Q m (local_count Q m (place_body us xs)) (at_entry Q m qs) (place_body us xs) others))) (count_alike ts us xs)
