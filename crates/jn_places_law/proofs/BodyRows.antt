-- Bodies whose sources differ in places have the same codes of rows J1 to J6.
use Rattle.std.proofs.Common.{◌≡◌, ℕ, suc, ◌+◌, Bool, true, false, not, cond, ◌&&◌, ◌||◌, List, [], ◌∷◌, ◌++◌, length, Option, Some, None, refl, sym, ap, ◌∙◌}
use Rattle.std.specs.Prelude.{drop, eqb, filter, flat_map, ltb}
use Rattle.std.proofs.lemmas.List.{length-map}
use Rattle.jn_base.specs.declared.code.Code.{Code}
use Rattle.jn_base.specs.declared.code.Code.TheVariants.{J6}
use Rattle.jn_base.specs.declared.place.Row.{Row}
use Rattle.jn_base.specs.declared.place.Span.{Span}
use Rattle.jn_points.specs.declared.point.BaseType.{BaseType}
use Rattle.jn_points.specs.declared.point.Point.{Point}
use Rattle.jn_points.specs.declared.program.Body.{Body}
use Rattle.jn_points.specs.declared.program.Program.{Program}
use Rattle.jn_points.specs.Lookup.{class_info, class_of, ctor_of, method_at, owner, params_of, parent_of, ref_field, static_of}
use Rattle.jn_points.specs.Members.{below, constructor_of, declared_field}
use Rattle.jn_env.specs.Keys.{Key, distinct, is_own, kind_keys}
use Rattle.jn_trees.specs.declared.token.Token.{Token}
use Rattle.jn_trees.specs.declared.token.TokenKind.TheVariants.{LeftParen, Super, This}
use Rattle.jn_trees.specs.Trees.{Tree, Trees, NoTrees, DeclaratorTree, Statements, BlockStatement, EmptyStatement, ExpressionStatement, BreakStatement, ContinueStatement, ReturnStatement, LocalStatement, IfStatement, IfElseStatement, WhileStatement, DoStatement, ForStatement, ForEachStatement, ThisCallStatement, SuperCallStatement, NoStatements, MoreStatements}
use Rattle.jn_trees.specs.Spelling.{spell_statement}
use Rattle.jn_places.specs.Placed.{NoPlacedTrees, PlacedDeclarator, PlacedMember, PlacedParameter, PlacedStatements, PlacedTree}
use Rattle.jn_places.specs.Places.{behind, over, place, place_body, place_declarator, place_list, place_more_declarators, place_next_declarator, place_optional, spell_next_declarator}
use Rattle.jn_lowering.specs.Scopes.{count}
use Rattle.jn_lowering.specs.Calls.{is_static, this_operand}
use Rattle.jn_lowering.specs.Forms.{field_no}
use Rattle.jn_lowering.specs.Expressions.{span_of}
use Rattle.jn_lowering.specs.Locals.{State, parameters_from}
use Rattle.jn_lowering.specs.Statements.{Step, back, no_step, through}
use Rattle.jn_lowering.specs.Annotations.{row, when}
use Rattle.jn_lowering.specs.Bodies.{Source, at_entry, body_of_source, call_of, calls_own, class, construction, ctor_call, declarators_of, fields_of, first_parameter, initializer_value, initializers, initializers_of, initializes, is_under_object, local_count, name_span, own_initializers, parent, unwritten_call, writes_field}
use Rattle.jn_lowering.specs.ExpressionRows.{Setting, ctor_rows, rows_of, rows_of_all}
use Rattle.jn_lowering.specs.StatementRows.{all_rows}
use Rattle.jn_lowering.specs.BodyRows.{construction_rows, ctor_call_rows, facts, field_rows, in_body, in_initializer, initializer_rows, initializers_rows, is_too_large, limit_rows, member_rows, no_this, own_fields, rows_of_body, rows_of_source, whole_rows}
use Rattle.jn_places_law.specs.Bare.{Alike, bare, bare_body, bare_field, bare_points, codes_of}
use Rattle.jn_places_law.specs.Erased.{bare_state, bare_step, coded_scope}
use Rattle.jn_places_law.proofs.Lookups.{class_bare, ctor_bare, filter_same, method_at_is, owner_is, ref_field_is}
use Rattle.jn_places_law.proofs.Flow.{points_keys}
use Rattle.jn_places_law.proofs.Bodies.{class_same, construction_alike, count_alike, ctor_same, either, entry_alike, field_same, is_static_same, own_same, params_same, parent_same, parents_same, static_same}
use Rattle.jn_places_law.proofs.Statements.{ends}
use Rattle.jn_points.specs.declared.point.PointKind.TheVariants.{FieldWrite}
use Rattle.jn_places_law.proofs.RowForms as forms
use Rattle.jn_places_law.proofs.RowForms.{Same, both, cond_same, when_same}
use Rattle.jn_places_law.proofs.ExpressionRows as expressions
use Rattle.jn_places_law.proofs.StatementRows as statements
use Rattle.jn_places_law.proofs.StatementRows.{Like}

-- ---- how large a body is

points_long : (pts : List Point) → length (bare_points pts) ≡ length pts
points_long [] = refl
points_long (pt ∷ pts) = ap suc (points_long pts)

module _ (P : Program) where
  facts_is : (x : Body) → facts (bare P) (bare_body x) ≡ facts P x
  facts_is x =
      ap (λ ks. distinct (filter (λ (k : Key). ltb k.reg x.locals && ref_field (bare P) k.field) ks)) (points_keys x.points)
      ∙ ap distinct (filter_same (λ (k : Key). ltb k.reg x.locals && ref_field (bare P) k.field) (λ (k : Key). ltb k.reg x.locals && ref_field P k.field) (flat_map (λ (pt : Point). kind_keys pt.kind) x.points) (λ k. ap (λ b. ltb k.reg x.locals && b) (ref_field_is P k.field)))

  own_is : (m f : ℕ) → is_own (bare P) (method_at (bare P) m) f ≡ is_own P (method_at P m) f
  own_is m f =
      ap (λ x. x && eqb (owner (bare P) f) (class_of (method_at (bare P) m)) && ref_field (bare P) f) (ap ctor_of (method_at_is P m) ∙ ctor_bare (method_at P m))
      ∙ ap (λ x. ctor_of (method_at P m) && eqb x (class_of (method_at (bare P) m)) && ref_field (bare P) f) (owner_is P f)
      ∙ ap (λ x. ctor_of (method_at P m) && eqb (owner P f) x && ref_field (bare P) f) (ap class_of (method_at_is P m) ∙ class_bare (method_at P m))
      ∙ ap (λ x. ctor_of (method_at P m) && eqb (owner P f) (class_of (method_at P m)) && x) (ref_field_is P f)

  own_fields_is : (m : ℕ) → own_fields (bare P) m ≡ own_fields P m
  own_fields_is m =
      ap (λ n. filter (is_own (bare P) (method_at (bare P) m)) (below n)) (length-map P.fields bare_field)
      ∙ filter_same (is_own (bare P) (method_at (bare P) m)) (is_own P (method_at P m)) (below (length P.fields)) (own_is m)

  large_is : (x : Body) → is_too_large (bare P) (bare_body x) ≡ is_too_large P x
  large_is x =
      ap (λ n. ltb 65535 n || (ltb 1024 (length x.regs) || ltb 4096 (length (facts (bare P) (bare_body x)) + length (own_fields (bare P) x.method.0)))) (points_long x.points)
      ∙ ap (λ (ks : List Key). ltb 65535 (length x.points) || (ltb 1024 (length x.regs) || ltb 4096 (length ks + length (own_fields (bare P) x.method.0)))) (facts_is x)
      ∙ ap (λ (fs : List ℕ). ltb 65535 (length x.points) || (ltb 1024 (length x.regs) || ltb 4096 (length (facts P x) + length fs))) (own_fields_is x.method.0)

pub large_same : (P Q : Program) (x y : Body) → Alike P Q → bare_body x ≡ bare_body y → is_too_large P x ≡ is_too_large Q y
large_same P Q x y h k = sym (large_is P x) ∙ ap (λ z. is_too_large z (bare_body x)) h ∙ ap (is_too_large (bare Q)) k ∙ large_is Q y

limits_same : (P Q : Program) (xs ys : List Row) (s r : Source) → Alike P Q → Same xs ys → bare_body (body_of_source P s) ≡ bare_body (body_of_source Q r) → Same (limit_rows P xs s) (limit_rows Q ys r)
limits_same P Q [] [] s r h k e = when_same (is_too_large P (body_of_source P s)) (is_too_large Q (body_of_source Q r)) (row J6 (name_span P s.method)) (row J6 (name_span Q r.method)) (large_same P Q (body_of_source P s) (body_of_source Q r) h e) refl
limits_same P Q [] (y ∷ ys) s r h k e = absurd (let f : ◌≡◌ {A = List Code} [] (y.code ∷ codes_of ys) = k in cc)
limits_same P Q (x ∷ xs) [] s r h k e = absurd (let f : ◌≡◌ {A = List Code} (x.code ∷ codes_of xs) [] = k in cc)
limits_same P Q (x ∷ xs) (y ∷ ys) s r h k e = refl

-- J6 is looked for where the other rows are none, on both sides
pub body_rows_same : (P Q : Program) (s r : Source) → Alike P Q → Same (rows_of_source P s) (rows_of_source Q r) → bare_body (body_of_source P s) ≡ bare_body (body_of_source Q r) → Same (rows_of_body P s) (rows_of_body Q r)
body_rows_same P Q s r h k e = both (rows_of_source P s) (limit_rows P (rows_of_source P s) s) (rows_of_source Q r) (limit_rows Q (rows_of_source Q r) r) k (limits_same P Q (rows_of_source P s) (rows_of_source Q r) s r h k e)

-- ---- initializers keep the scope

module _ (P : Program) (m first : ℕ) where
  written_scope : (f : Option ℕ) (name : Span) (st : State) (e : PlacedTree) → (writes_field P m first f name st e).behind.scope ≡ st.scope
  written_scope None name st e = refl
  written_scope (Some f) name st e = cases (is_static P f)
    where
      cases : (b : Bool) → (cond b (no_step st) (back st (ends (λ o. FieldWrite (this_operand name) (field_no f) o) st (through name (span_of e)) (initializer_value P m first st e)))).behind.scope ≡ st.scope
      cases true = refl
      cases false = refl

  one_scope : (name : Span) (n : ℕ) (st : State) (e : Option PlacedTree) → (initializes P m first name n st e).behind.scope ≡ st.scope
  one_scope name n st None = refl
  one_scope name n st (Some e) = written_scope (declared_field P (class P m) n (class P m)) name st e

  member_scope : (st : State) (ds : List PlacedDeclarator) → (initializers_of P m first st ds).behind.scope ≡ st.scope
  member_scope st [] = refl
  member_scope st (d ∷ ds) = member_scope (initializes P m first d.name.span d.name.name.0 st d.value).behind ds ∙ one_scope d.name.span d.name.name.0 st d.value

  members_scope : (st : State) (xs : List PlacedMember) → (initializers P m first st xs).behind.scope ≡ st.scope
  members_scope st [] = refl
  members_scope st (x ∷ xs) = members_scope (initializers_of P m first st (declarators_of x)).behind xs ∙ member_scope st (declarators_of x)

  own_scope : (b : Bool) (st : State) (xs : List PlacedMember) → (cond b (no_step st) (initializers P m first st xs)).behind.scope ≡ st.scope
  own_scope true st xs = refl
  own_scope false st xs = members_scope st xs

  unwritten_scope : (st : State) → (unwritten_call P m first st).behind.scope ≡ st.scope
  unwritten_scope st = cases (is_under_object (parent_of (class_info P (class P m))))
    where
      cases : (b : Bool) → (cond b (no_step st) (ctor_call P m first st false (parent P m) NoPlacedTrees (name_span P m))).behind.scope ≡ st.scope
      cases true = refl
      cases false = refl

  construction_scope : (st : State) (ts : List Token) (xs : Statements) → (construction P m first st (place_body ts xs)).behind.scope ≡ st.scope
  construction_scope st ts NoStatements = unwritten_scope st
  construction_scope st ts (MoreStatements (BlockStatement ss) xs) = unwritten_scope st
  construction_scope st ts (MoreStatements EmptyStatement xs) = unwritten_scope st
  construction_scope st ts (MoreStatements (ExpressionStatement e) xs) = unwritten_scope st
  construction_scope st ts (MoreStatements BreakStatement xs) = unwritten_scope st
  construction_scope st ts (MoreStatements ContinueStatement xs) = unwritten_scope st
  construction_scope st ts (MoreStatements (ReturnStatement e) xs) = unwritten_scope st
  construction_scope st ts (MoreStatements (LocalStatement l) xs) = unwritten_scope st
  construction_scope st ts (MoreStatements (IfStatement q s) xs) = unwritten_scope st
  construction_scope st ts (MoreStatements (IfElseStatement q s u) xs) = unwritten_scope st
  construction_scope st ts (MoreStatements (WhileStatement q s) xs) = unwritten_scope st
  construction_scope st ts (MoreStatements (DoStatement s q) xs) = unwritten_scope st
  construction_scope st ts (MoreStatements (ForStatement i q es s) xs) = unwritten_scope st
  construction_scope st ts (MoreStatements (ForEachStatement ms u n e s) xs) = unwritten_scope st
  construction_scope st ts (MoreStatements (ThisCallStatement es) xs) = refl
  construction_scope st ts (MoreStatements (SuperCallStatement es) xs) = refl

module _ (P Q : Program) (h : Alike P Q) (m : ℕ) where
  -- ---- the call of another constructor

  call_same : (st r : State) (j k : ℕ) (ts us : List Token) (es : Trees) (span at : Span) → Like st r → j ≡ k → Same (ctor_call_rows P m st j (place_list ts es) span) (ctor_call_rows Q m r k (place_list us es) at)
  call_same st r j k ts us es span at l e =
      both (rows_of_all P (class P m) no_this st.scope (place_list ts es)) (ctor_rows P (class P m) (constructor_of P j (count (place_list ts es))) span) (rows_of_all Q (class Q m) no_this r.scope (place_list us es)) (ctor_rows Q (class Q m) (constructor_of Q k (count (place_list us es))) at)
      (expressions.list_alike P Q h (class P m) no_this st.scope r.scope l.1 ts us es ∙ ap (λ c. codes_of (rows_of_all Q c no_this r.scope (place_list us es))) (class_same P Q h m))
      (forms.ctor_same P Q h (class P m) j k (count (place_list ts es)) (count (place_list us es)) span at e (expressions.counts_same ts us es) ∙ ap (λ c. codes_of (ctor_rows Q c (constructor_of Q k (count (place_list us es))) at)) (class_same P Q h m))

  unwritten_same : (st r : State) → Like st r → Same (when (not (is_under_object (parent_of (class_info P (class P m))))) (ctor_call_rows P m st (parent P m) (place_list [] NoTrees) (name_span P m))) (when (not (is_under_object (parent_of (class_info Q (class Q m))))) (ctor_call_rows Q m r (parent Q m) (place_list [] NoTrees) (name_span Q m)))
  unwritten_same st r l =
      when_same (not (is_under_object (parent_of (class_info P (class P m))))) (not (is_under_object (parent_of (class_info Q (class Q m))))) (ctor_call_rows P m st (parent P m) (place_list [] NoTrees) (name_span P m)) (ctor_call_rows Q m r (parent Q m) (place_list [] NoTrees) (name_span Q m))
      (ap (λ p. not (is_under_object p)) (parents_same P Q h m)) (call_same st r (parent P m) (parent Q m) [] [] NoTrees (name_span P m) (name_span Q m) l (parent_same P Q h m))

  construction_same : (st r : State) (ts us : List Token) (xs : Statements) → Like st r → Same (construction_rows P m st (place_body ts xs)) (construction_rows Q m r (place_body us xs))
  construction_same st r ts us NoStatements l = unwritten_same st r l
  construction_same st r ts us (MoreStatements (BlockStatement ss) xs) l = unwritten_same st r l
  construction_same st r ts us (MoreStatements EmptyStatement xs) l = unwritten_same st r l
  construction_same st r ts us (MoreStatements (ExpressionStatement e) xs) l = unwritten_same st r l
  construction_same st r ts us (MoreStatements BreakStatement xs) l = unwritten_same st r l
  construction_same st r ts us (MoreStatements ContinueStatement xs) l = unwritten_same st r l
  construction_same st r ts us (MoreStatements (ReturnStatement e) xs) l = unwritten_same st r l
  construction_same st r ts us (MoreStatements (LocalStatement d) xs) l = unwritten_same st r l
  construction_same st r ts us (MoreStatements (IfStatement q s) xs) l = unwritten_same st r l
  construction_same st r ts us (MoreStatements (IfElseStatement q s u) xs) l = unwritten_same st r l
  construction_same st r ts us (MoreStatements (WhileStatement q s) xs) l = unwritten_same st r l
  construction_same st r ts us (MoreStatements (DoStatement s q) xs) l = unwritten_same st r l
  construction_same st r ts us (MoreStatements (ForStatement i q es s) xs) l = unwritten_same st r l
  construction_same st r ts us (MoreStatements (ForEachStatement ms u n e s) xs) l = unwritten_same st r l
  construction_same st r ts us (MoreStatements (ThisCallStatement es) xs) l = call_same st r (class P m) (class Q m) (behind ts (This ∷ LeftParen ∷ [])) (behind us (This ∷ LeftParen ∷ [])) es (over ts (spell_statement (ThisCallStatement es))) (over us (spell_statement (ThisCallStatement es))) l (class_same P Q h m)
  construction_same st r ts us (MoreStatements (SuperCallStatement es) xs) l = call_same st r (parent P m) (parent Q m) (behind ts (Super ∷ LeftParen ∷ [])) (behind us (Super ∷ LeftParen ∷ [])) es (over ts (spell_statement (SuperCallStatement es))) (over us (spell_statement (SuperCallStatement es))) l (parent_same P Q h m)

  -- ---- initializers

  field_rows_same : (f : Option ℕ) (ts us : List Token) (e : Tree) → Same (field_rows P m f (place ts e)) (field_rows Q m f (place us e))
  field_rows_same None ts us e = refl
  field_rows_same (Some f) ts us e =
      when_same (not (is_static P f)) (not (is_static Q f)) (rows_of P (class P m) in_initializer [] (place ts e)) (rows_of Q (class Q m) in_initializer [] (place us e)) (ap not (is_static_same P Q h m f))
      (expressions.rows_alike P Q h (class P m) in_initializer [] [] refl ts us e ∙ ap (λ c. codes_of (rows_of Q c in_initializer [] (place us e))) (class_same P Q h m))

  value_rows_same : (n : ℕ) (ts us : List Token) (e : Option Tree) → Same (initializer_rows P m n (place_optional ts e)) (initializer_rows Q m n (place_optional us e))
  value_rows_same n ts us None = refl
  value_rows_same n ts us (Some e) = field_rows_same (declared_field P (class P m) n (class P m)) ts us e ∙ ap (λ f. codes_of (field_rows Q m f (place us e))) (field_same P Q h m n)

  abbrev one_rows : Program → PlacedDeclarator → List Row
  one_rows Z d = initializer_rows Z m d.name.name.0 d.value

  one_same : (ts us : List Token) (d : DeclaratorTree) → Same (one_rows P (place_declarator ts d)) (one_rows Q (place_declarator us d))
  one_same ts us d = value_rows_same d.name.0 (drop 1 (drop 1 ts)) (drop 1 (drop 1 us)) d.value

  more_same : (ts us : List Token) (ds : List DeclaratorTree) → Same (initializers_rows P m (place_more_declarators ts ds)) (initializers_rows Q m (place_more_declarators us ds))
  more_same ts us [] = refl
  more_same ts us (d ∷ ds) =
      let vs = behind ts (spell_next_declarator d) in
      let ws = behind us (spell_next_declarator d) in
      both (one_rows P (place_next_declarator ts d)) (initializers_rows P m (place_more_declarators vs ds)) (one_rows Q (place_next_declarator us d)) (initializers_rows Q m (place_more_declarators ws ds)) (one_same (drop 1 ts) (drop 1 us) d) (more_same vs ws ds)

  -- those of one member
  pub fields_same : (ts us vs ws : List Token) (d : DeclaratorTree) (ds : List DeclaratorTree) → Same (initializers_rows P m (place_declarator ts d ∷ place_more_declarators vs ds)) (initializers_rows Q m (place_declarator us d ∷ place_more_declarators ws ds))
  fields_same ts us vs ws d ds = both (one_rows P (place_declarator ts d)) (initializers_rows P m (place_more_declarators vs ds)) (one_rows Q (place_declarator us d)) (initializers_rows Q m (place_more_declarators ws ds)) (one_same ts us d) (more_same vs ws ds)

  -- ---- the whole body

  abbrev a_setting : Bool → Bool → Setting
  a_setting a b = record { this_stands = a; own_fields = b }

  setting_same : in_body P m ≡ in_body Q m
  setting_same =
      ap (λ (b : Bool). a_setting (not b) (ctor_of (method_at P m))) (static_same P Q h m)
      ∙ ap (a_setting (not (static_of (method_at Q m)))) (ctor_same P Q h m)

  rest_same : (first : ℕ) (st r : State) (ts us : List Token) (xs : Statements) → Like st r → Same (all_rows P (class P m) first (in_body P m) st (place_body ts xs)) (all_rows Q (class Q m) first (in_body Q m) r (place_body us xs))
  rest_same first st r ts us xs l =
      statements.all_alike P Q h (class P m) first (in_body P m) st r ts us xs l
      ∙ ap (λ c. codes_of (all_rows Q c first (in_body P m) r (place_body us xs))) (class_same P Q h m)
      ∙ ap (λ w. codes_of (all_rows Q (class Q m) first w r (place_body us xs))) setting_same

  abbrev rows_by : Program → Bool → ℕ → State → PlacedStatements → List PlacedMember → List Row
  rows_by Z b first st xs members =
      when b (construction_rows Z m st xs ++ when (not (calls_own xs)) (member_rows Z m members))
      ++ all_rows Z (class Z m) first (in_body Z m) (fields_of Z m first b (call_of Z m first b st xs).behind xs members).behind xs

  pub whole_same : (first : ℕ) (st r : State) (ts us : List Token) (xs : Statements) (members others : List PlacedMember) → Like st r →
      ((a b : State) → bare_state a ≡ bare_state b → bare_step (initializers P m first a members) ≡ bare_step (initializers Q m first b others)) →
      Same (member_rows P m members) (member_rows Q m others) →
      Same (whole_rows P m first st (place_body ts xs) members) (whole_rows Q m first r (place_body us xs) others)
  whole_same first st r ts us xs members others l g rows =
      cases (ctor_of (method_at P m)) ∙ ap (λ b. codes_of (rows_by Q b first r (place_body us xs) others)) (ctor_same P Q h m)
    where
      cases : (b : Bool) → Same (rows_by P b first st (place_body ts xs) members) (rows_by Q b first r (place_body us xs) others)
      cases false = rest_same first st r ts us xs l
      cases true =
          let p : PlacedStatements = place_body ts xs in
          let q : PlacedStatements = place_body us xs in
          let a : State = (construction P m first st p).behind in
          let b : State = (construction Q m first r q).behind in
          let x : State = (own_initializers P m first a p members).behind in
          let y : State = (own_initializers Q m first b q others).behind in
          let behind_call : bare_state a ≡ bare_state b = ap (λ (z : Step). z.behind) (construction_alike P Q h m first st r ts us xs l.0) in
          let like : Like x y = (
            ap (λ (z : Step). z.behind) (either P Q h m first (calls_own p) (calls_own q) (no_step a) (initializers P m first a members) (no_step b) (initializers Q m first b others) (own_same ts us xs) (ap no_step behind_call) (g a b behind_call)),
            ap coded_scope (own_scope P m first (calls_own p) a members ∙ construction_scope P m first st ts xs) ∙ l.1 ∙ sym (ap coded_scope (own_scope Q m first (calls_own q) b others ∙ construction_scope Q m first r us xs)),
          ) in
          both (construction_rows P m st p ++ when (not (calls_own p)) (member_rows P m members)) (all_rows P (class P m) first (in_body P m) x p) (construction_rows Q m r q ++ when (not (calls_own q)) (member_rows Q m others)) (all_rows Q (class Q m) first (in_body Q m) y q)
          (both (construction_rows P m st p) (when (not (calls_own p)) (member_rows P m members)) (construction_rows Q m r q) (when (not (calls_own q)) (member_rows Q m others)) (construction_same st r ts us xs l) (when_same (not (calls_own p)) (not (calls_own q)) (member_rows P m members) (member_rows Q m others) (ap not (own_same ts us xs)) rows))
          (rest_same first x y ts us xs like)

  -- of a source that differs in places, and in what is written before parameters
  pub source_rows_same : (ps qs : List PlacedParameter) (ts us : List Token) (xs : Statements) (members others : List PlacedMember) →
      ((r : ℕ) (bases : List BaseType) → parameters_from r ps bases ≡ parameters_from r qs bases) →
      ((first : ℕ) (a b : State) → bare_state a ≡ bare_state b → bare_step (initializers P m first a members) ≡ bare_step (initializers Q m first b others)) →
      Same (member_rows P m members) (member_rows Q m others) →
      Same (rows_of_source P (record { method = m; parameters = ps; body = place_body ts xs; members = members })) (rows_of_source Q (record { method = m; parameters = qs; body = place_body us xs; members = others }))
  source_rows_same ps qs ts us xs members others g f rows =
      whole_same (local_count P m (place_body ts xs)) (at_entry P m ps) (at_entry Q m qs) ts us xs members others (
        entry_alike P Q h m ps qs g,
        ap coded_scope (
            g (first_parameter P m) (params_of (method_at P m))
            ∙ ap (parameters_from (first_parameter P m) qs) (params_same P Q h m)
            ∙ ap (λ b. parameters_from (cond b 0 1) qs (params_of (method_at Q m))) (static_same P Q h m)),
      )
      (f (local_count P m (place_body ts xs))) rows
      ∙ ap (λ n. codes_of (whole_rows Q m n (at_entry Q m qs) (place_body us xs) others)) (count_alike P Q h m ts us xs)
