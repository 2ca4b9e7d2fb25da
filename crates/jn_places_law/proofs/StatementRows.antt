-- Statements that differ in places have the same codes of rows J1, J2 and J5, and leave scopes whose rows of types have the same codes.
use Rattle.std.proofs.Common.{◌≡◌, ℕ, Bool, true, not, cond, ◌&&◌, List, [], ◌∷◌, ◌++◌, length, Option, Some, None, refl, sym, ap, ◌∙◌, subst}
use Rattle.std.specs.Prelude.{drop, map, option_map}
use Rattle.jn_base.specs.declared.code.Code.{Code}
use Rattle.jn_base.specs.declared.code.Code.TheVariants.{J1, J2, J5}
use Rattle.jn_base.specs.declared.place.Row.{Row}
use Rattle.jn_base.specs.declared.place.Span.{Span}
use Rattle.jn_base.specs.declared.number.NameNo.{NameNo}
use Rattle.jn_quals.specs.Qualifier.{Qualifier}
use Rattle.jn_points.specs.declared.point.BaseType.{BaseType}
use Rattle.jn_points.specs.declared.point.BaseType.TheVariants.{Int, Bool as BoolBase}
use Rattle.jn_points.specs.declared.program.Program.{Program}
use Rattle.jn_points.specs.Lookup.{elem_base, is_array}
use Rattle.jn_known.specs.Known.{is_object_member}
use Rattle.jn_trees.specs.declared.token.Token.{Token}
use Rattle.jn_trees.specs.declared.token.TokenKind.TheVariants.{Id, LeftParen, RightParen, Comma, Semicolon, Colon, If, Else, While, Do, For}
use Rattle.jn_trees.specs.Trees.{BaseTree, Tree, Trees, NoTrees, MoreTrees, LocalMark, TypeUseTree, DeclaratorTree, LocalTree, InitTree, ExpressionsInit, DeclarationInit, Statement, Statements, BlockStatement, EmptyStatement, ExpressionStatement, BreakStatement, ContinueStatement, ReturnStatement, LocalStatement, IfStatement, IfElseStatement, WhileStatement, DoStatement, ForStatement, ForEachStatement, ThisCallStatement, SuperCallStatement, NoStatements, MoreStatements}
use Rattle.jn_trees.specs.Spelling.{spell, spell_marks, spell_type_use, spell_declarator, spell_init, spell_optional, spell_list, spell_statement}
use Rattle.jn_places.specs.Places.{behind, front, place, place_list, place_base, place_annotations, place_optional, place_brackets, place_type_use, place_local_marks, place_declarator, place_next_declarator, spell_next_declarator, place_more_declarators, place_local, place_init, place_statement, place_body}
use Rattle.jn_lowering.specs.Temporaries.{Temporaries, take_one}
use Rattle.jn_lowering.specs.Scopes.{Local, Scope, local_in}
use Rattle.jn_lowering.specs.Bases.{is_class_use, type_of}
use Rattle.jn_lowering.specs.Forms.{Value, Condition}
use Rattle.jn_lowering.specs.Annotations.{annotation_rows, base_rows, both_kinds, name_row, nullity_alone, row, type_rows, typed_rows, unless, when}
use Rattle.jn_lowering.specs.Locals.{State, annotations_of, declares, has_final, has_value, is_some, reserves, with_local, with_temporaries}
use Rattle.jn_lowering.specs.Statements.{Step, declaration, declarator, declarators, each_state, effects, fresh, init, initialized, local_bound, local_type, lowered_in, optional_test, statement, tested_in}
use Rattle.jn_lowering.specs.ExpressionRows.{Setting, inner_span}
use Rattle.jn_lowering.specs.StatementRows.{all_rows, array_rows, declaration_rows, declarator_rows, declarators_rows, declared_rows, effect_rows, init_rows, optional_rows, rows_in, statement_rows, use_rows}
use Rattle.jn_places_law.specs.Bare.{Alike, codes_of, no_span}
use Rattle.jn_places_law.specs.Erased.{bare_state, coded_local, coded_row, coded_scope}
use Rattle.jn_places_law.proofs.Forms.{pushed}
use Rattle.jn_places_law.proofs.Meanings.{class_use_bare}
use Rattle.jn_places_law.proofs.Places.{base_placed, notes_placed, placed}
use Rattle.jn_places_law.proofs.Statements.{declarator_alike, declares_alike, final_same, has_same, local_type_alike, marks_same, optional_alike, own_same, statement_alike, temps_alike, test_alike, type_alike, value_alike}
use Rattle.jn_places_law.proofs.RowForms.{Same, base_rows_same, both, local_coded, locals_same, notes_same, unless_same, when_same}
use Rattle.jn_places_law.proofs.ExpressionRows as expressions

-- states that differ in places alone
abbrev pub Like : State → State → Type 0
Like st r = (bare_state st ≡ bare_state r) × (coded_scope st.scope ≡ coded_scope r.scope)

pub fresh_like : (st r : State) → Like st r → Like (fresh st) (fresh r)
fresh_like st r k = (ap fresh k.0, k.1)

-- ---- scopes

some_coded : (l : Option Local) → is_some (option_map coded_local l) ≡ is_some l
some_coded None = refl
some_coded (Some l) = refl

found_same : (s r : Scope) (n : ℕ) → coded_scope s ≡ coded_scope r → is_some (local_in s n) ≡ is_some (local_in r n)
found_same s r n k = sym (some_coded (local_in s n)) ∙ ap is_some (locals_same s r n k) ∙ some_coded (local_in r n)

declared_same : (s r : Scope) (n : ℕ) (span at : Span) → coded_scope s ≡ coded_scope r → Same (declared_rows s n span) (declared_rows r n at)
declared_same s r n span at k =
    both (name_row n span) (when (is_some (local_in s n)) (row J1 span)) (name_row n at) (when (is_some (local_in r n)) (row J1 at))
    (when_same (is_object_member n) (is_object_member n) (row J5 span) (row J5 at) refl refl)
    (when_same (is_some (local_in s n)) (is_some (local_in r n)) (row J1 span) (row J1 at) (found_same s r n k) refl)

with_coded : (s : Scope) (l : Local) → coded_scope (with_local s l) ≡ with_local (coded_scope s) (coded_local l)
with_coded s l =
    pushed coded_scope (is_some (local_in s l.name)) s (l ∷ s)
    ∙ ap (λ b. cond b (coded_scope s) (coded_local l ∷ coded_scope s)) (sym (ap is_some (local_coded s l.name) ∙ some_coded (local_in s l.name)))

abbrev at_no_place : Code → Row
at_no_place code = record { span = no_span; code = code }

by_code : (xs : List Row) → map coded_row xs ≡ map at_no_place (codes_of xs)
by_code [] = refl
by_code (x ∷ xs) = ap (λ r. coded_row x ∷ r) (by_code xs)

coded_same : (xs ys : List Row) → Same xs ys → map coded_row xs ≡ map coded_row ys
coded_same xs ys h = by_code xs ∙ ap (map at_no_place) h ∙ sym (by_code ys)

abbrev a_local : ℕ → ℕ → BaseType → Option Qualifier → Bool → List Row → Local
a_local n r b bound fixed faults = record { name = n; reg = r; base = b; bound = bound; fixed = fixed; faults = faults }

pub declares_like : (st r : State) (n : ℕ) (b : BaseType) (bound : Option Qualifier) (fixed other : Bool) (faults others : List Row) → fixed ≡ other → Same faults others → Like st r → Like (declares st n b bound fixed faults) (declares r n b bound other others)
declares_like st r n b bound fixed other faults others g e k = (
  declares_alike st r n b bound fixed faults others k.0 ∙ ap (λ z. bare_state (declares r n b bound z others)) g,
  with_coded st.scope (a_local n (length st.locals) b bound fixed faults)
      ∙ ap (λ s. with_local s (a_local n (length st.locals) b bound fixed (map coded_row faults))) k.1
      ∙ ap (λ m. with_local (coded_scope r.scope) (a_local n m b bound fixed (map coded_row faults))) (ap (λ (x : State). length x.locals) k.0)
      ∙ ap (λ z. with_local (coded_scope r.scope) (a_local n (length r.locals) b bound z (map coded_row faults))) g
      ∙ ap (λ f. with_local (coded_scope r.scope) (a_local n (length r.locals) b bound other f)) (coded_same faults others e)
      ∙ sym (with_coded r.scope (a_local n (length r.locals) b bound other others)),
)

-- ---- types

class_placed : (ts us : List Token) (b : BaseTree) → is_class_use (place_base ts b) ≡ is_class_use (place_base us b)
class_placed ts us b = sym (class_use_bare (place_base ts b)) ∙ ap is_class_use (base_placed ts us b) ∙ class_use_bare (place_base us b)

typed_same : (ts us vs ws xs ys : List Token) (ms : List LocalMark) (b : BaseTree) (array : Option (List NameNo)) → Same (typed_rows (place_base vs b) (place_brackets xs array) both_kinds (annotations_of (place_local_marks ts ms))) (typed_rows (place_base ws b) (place_brackets ys array) both_kinds (annotations_of (place_local_marks us ms)))
typed_same ts us vs ws xs ys ms b None = notes_same both_kinds (is_class_use (place_base vs b)) (is_class_use (place_base ws b)) (annotations_of (place_local_marks ts ms)) (annotations_of (place_local_marks us ms)) (class_placed vs ws b) (marks_same ts us ms)
typed_same ts us vs ws xs ys ms b (Some ns) =
    both (annotation_rows nullity_alone (is_class_use (place_base vs b)) (annotations_of (place_local_marks ts ms))) (annotation_rows both_kinds true (place_annotations xs ns)) (annotation_rows nullity_alone (is_class_use (place_base ws b)) (annotations_of (place_local_marks us ms))) (annotation_rows both_kinds true (place_annotations ys ns))
    (notes_same nullity_alone (is_class_use (place_base vs b)) (is_class_use (place_base ws b)) (annotations_of (place_local_marks ts ms)) (annotations_of (place_local_marks us ms)) (class_placed vs ws b) (marks_same ts us ms))
    (notes_same both_kinds true true (place_annotations xs ns) (place_annotations ys ns) refl (notes_placed xs ys ns))

module _ (P Q : Program) (h : Alike P Q) (c first : ℕ) (w : Setting) where
  use_same : (ts us vs ws : List Token) (ms : List LocalMark) (u : TypeUseTree) → Same (use_rows P c first w (place_local_marks ts ms) (place_type_use vs u)) (use_rows Q c first w (place_local_marks us ms) (place_type_use ws u))
  use_same ts us vs ws ms u =
      both (type_rows (place_type_use vs u) both_kinds (annotations_of (place_local_marks ts ms))) (base_rows P (place_base vs u.base)) (type_rows (place_type_use ws u) both_kinds (annotations_of (place_local_marks us ms))) (base_rows Q (place_base ws u.base))
      (typed_same ts us vs ws (drop 1 vs) (drop 1 ws) ms u.base u.array) (base_rows_same P Q h c (place_base vs u.base) (place_base ws u.base) (base_placed vs ws u.base))

  -- ---- expressions

  in_same : (st r : State) (ts us : List Token) (e : Tree) → Like st r → Same (rows_in P c first w st (place ts e)) (rows_in Q c first w r (place us e))
  in_same st r ts us e k = expressions.rows_alike P Q h c w st.scope r.scope k.1 ts us e

  optional_same : (st r : State) (ts us : List Token) (e : Option Tree) → Like st r → Same (optional_rows P c first w st (place_optional ts e)) (optional_rows Q c first w r (place_optional us e))
  optional_same st r ts us None k = refl
  optional_same st r ts us (Some e) k = in_same st r ts us e k

  effects_same : (st r : State) (ts us : List Token) (es : Trees) → Like st r → Same (effect_rows P c first w st (place_list ts es)) (effect_rows Q c first w r (place_list us es))
  effects_same st r ts us es k = expressions.list_alike P Q h c w st.scope r.scope k.1 ts us es

  valued_like : (st r : State) (ts us : List Token) (e : Tree) → Like st r → Like (with_temporaries st (lowered_in P c first st (place ts e)).behind) (with_temporaries r (lowered_in Q c first r (place us e)).behind)
  valued_like st r ts us e k = (temps_alike st r (lowered_in P c first st (place ts e)).behind (lowered_in Q c first r (place us e)).behind k.0 (ap (λ (v : Value). v.behind) (value_alike P Q c first h st r ts us e k.0)), k.1)

  effects_like : (st r : State) (ts us : List Token) (es : Trees) → Like st r → Like (effects P c first st (place_list ts es)).behind (effects Q c first r (place_list us es)).behind
  effects_like st r ts us NoTrees k = k
  effects_like st r ts us (MoreTrees e es) k = effects_like (with_temporaries st (lowered_in P c first st (place ts e)).behind) (with_temporaries r (lowered_in Q c first r (place us e)).behind) (behind ts (spell e ++ Comma ∷ [])) (behind us (spell e ++ Comma ∷ [])) es (valued_like st r ts us e k)

  tested_like : (st r : State) (ts us : List Token) (e : Tree) → Like st r → Like (with_temporaries st (tested_in P c first (fresh st) (place ts e)).behind) (with_temporaries r (tested_in Q c first (fresh r) (place us e)).behind)
  tested_like st r ts us e k = (temps_alike st r (tested_in P c first (fresh st) (place ts e)).behind (tested_in Q c first (fresh r) (place us e)).behind k.0 (ap (λ (q : Condition). q.behind) (test_alike P Q c first h (fresh st) (fresh r) ts us e (ap fresh k.0))), k.1)

  optional_like : (st r : State) (ts us : List Token) (e : Option Tree) → Like st r → Like (with_temporaries st (optional_test P c first st (place_optional ts e)).behind) (with_temporaries r (optional_test Q c first r (place_optional us e)).behind)
  optional_like st r ts us e k = (temps_alike st r (optional_test P c first st (place_optional ts e)).behind (optional_test Q c first r (place_optional us e)).behind k.0 (ap (λ (q : Condition). q.behind) (optional_alike P Q c first h st r ts us e k.0)), k.1)

  -- ---- declarations

  scope_behind : (Z : Program) (span : Span) (n : ℕ) (bound : Option Qualifier) (st : State) (ts : List Token) (e : Option Tree) → (initialized Z c first span n bound st (place_optional ts e)).behind.scope ≡ st.scope
  scope_behind Z span n bound st ts None = refl
  scope_behind Z span n bound st ts (Some e) = refl

  module _ (b : BaseType) (bound : Option Qualifier) (f : Bool) (faults others : List Row) (same : Same faults others) where
    -- the state in which a declarator's initializer stands
    abbrev inside : State → List Token → DeclaratorTree → List Row → State
    inside st ts d rows = declares st d.name.0 b bound (f && has_value (place_declarator ts d)) rows

    inside_like : (st r : State) (ts us : List Token) (d : DeclaratorTree) → Like st r → Like (inside st ts d faults) (inside r us d others)
    inside_like st r ts us d k = declares_like st r d.name.0 b bound (f && has_value (place_declarator ts d)) (f && has_value (place_declarator us d)) faults others (ap (λ z. f && z) (has_same ts us d)) same k

    declarator_like : (st r : State) (ts us : List Token) (d : DeclaratorTree) → Like st r → Like (declarator P c first b bound f faults st (place_declarator ts d)).behind (declarator Q c first b bound f others r (place_declarator us d)).behind
    declarator_like st r ts us d k = (
      ap (λ (x : Step). x.behind) (declarator_alike P Q c first h b bound f faults others st r ts us d k.0),
      ap coded_scope (scope_behind P (front ts) (length st.locals) bound (inside st ts d faults) (drop 1 (drop 1 ts)) d.value)
          ∙ (inside_like st r ts us d k).1
          ∙ sym (ap coded_scope (scope_behind Q (front us) (length r.locals) bound (inside r us d others) (drop 1 (drop 1 us)) d.value)),
    )

    declarator_same : (st r : State) (ts us : List Token) (d : DeclaratorTree) → Like st r → Same (declarator_rows P c first w b bound f faults st (place_declarator ts d)) (declarator_rows Q c first w b bound f others r (place_declarator us d))
    declarator_same st r ts us d k =
        both (declared_rows st.scope d.name.0 (front ts)) (optional_rows P c first w (inside st ts d faults) (place_declarator ts d).value) (declared_rows r.scope d.name.0 (front us)) (optional_rows Q c first w (inside r us d others) (place_declarator us d).value)
        (declared_same st.scope r.scope d.name.0 (front ts) (front us) k.1)
        (optional_same (inside st ts d faults) (inside r us d others) (drop 1 (drop 1 ts)) (drop 1 (drop 1 us)) d.value (inside_like st r ts us d k))

    more_like : (st r : State) (ts us : List Token) (ds : List DeclaratorTree) → Like st r → Like (declarators P c first b bound f faults st (place_more_declarators ts ds)).behind (declarators Q c first b bound f others r (place_more_declarators us ds)).behind
    more_like st r ts us [] k = k
    more_like st r ts us (d ∷ ds) k = more_like (declarator P c first b bound f faults st (place_next_declarator ts d)).behind (declarator Q c first b bound f others r (place_next_declarator us d)).behind (behind ts (spell_next_declarator d)) (behind us (spell_next_declarator d)) ds (declarator_like st r (drop 1 ts) (drop 1 us) d k)

    more_same : (st r : State) (ts us : List Token) (ds : List DeclaratorTree) → Like st r → Same (declarators_rows P c first w b bound f faults st (place_more_declarators ts ds)) (declarators_rows Q c first w b bound f others r (place_more_declarators us ds))
    more_same st r ts us [] k = refl
    more_same st r ts us (d ∷ ds) k =
        let x : State = (declarator P c first b bound f faults st (place_next_declarator ts d)).behind in
        let y : State = (declarator Q c first b bound f others r (place_next_declarator us d)).behind in
        let vs : List Token = behind ts (spell_next_declarator d) in
        let ws : List Token = behind us (spell_next_declarator d) in
        both (declarator_rows P c first w b bound f faults st (place_next_declarator ts d)) (declarators_rows P c first w b bound f faults x (place_more_declarators vs ds)) (declarator_rows Q c first w b bound f others r (place_next_declarator us d)) (declarators_rows Q c first w b bound f others y (place_more_declarators ws ds))
        (declarator_same st r (drop 1 ts) (drop 1 us) d k) (more_same x y vs ws ds (declarator_like st r (drop 1 ts) (drop 1 us) d k))

    first_like : (st r : State) (ts us vs ws : List Token) (d : DeclaratorTree) (ds : List DeclaratorTree) → Like st r → Like (declarators P c first b bound f faults st (place_declarator ts d ∷ place_more_declarators vs ds)).behind (declarators Q c first b bound f others r (place_declarator us d ∷ place_more_declarators ws ds)).behind
    first_like st r ts us vs ws d ds k = more_like (declarator P c first b bound f faults st (place_declarator ts d)).behind (declarator Q c first b bound f others r (place_declarator us d)).behind vs ws ds (declarator_like st r ts us d k)

    first_same : (st r : State) (ts us vs ws : List Token) (d : DeclaratorTree) (ds : List DeclaratorTree) → Like st r → Same (declarators_rows P c first w b bound f faults st (place_declarator ts d ∷ place_more_declarators vs ds)) (declarators_rows Q c first w b bound f others r (place_declarator us d ∷ place_more_declarators ws ds))
    first_same st r ts us vs ws d ds k =
        let x : State = (declarator P c first b bound f faults st (place_declarator ts d)).behind in
        let y : State = (declarator Q c first b bound f others r (place_declarator us d)).behind in
        both (declarator_rows P c first w b bound f faults st (place_declarator ts d)) (declarators_rows P c first w b bound f faults x (place_more_declarators vs ds)) (declarator_rows Q c first w b bound f others r (place_declarator us d)) (declarators_rows Q c first w b bound f others y (place_more_declarators ws ds))
        (declarator_same st r ts us d k) (more_same x y vs ws ds (declarator_like st r ts us d k))

  -- the tokens of a declaration's parts
  abbrev at_type : List Token → LocalTree → List Token
  at_type ts l = behind ts (spell_marks l.marks)

  abbrev at_first : List Token → LocalTree → List Token
  at_first ts l = behind (at_type ts l) (spell_type_use l.type_use)

  abbrev at_more : List Token → LocalTree → List Token
  at_more ts l = behind (at_first ts l) (spell_declarator l.first)

  -- what a declaration writes is the same on both sides
  module _ (ts us : List Token) (l : LocalTree) where
    type_same : local_type P c first (place_local ts l).marks (place_local ts l).type_use ≡ local_type Q c first (place_local us l).marks (place_local us l).type_use
    type_same = local_type_alike P Q c first h ts us (at_type ts l) (at_type us l) l.marks l.type_use

    bound_same : local_bound P c first (place_local ts l).marks (place_local ts l).type_use ≡ local_bound Q c first (place_local us l).marks (place_local us l).type_use
    bound_same = own_same ts us (drop 1 (at_type ts l)) (drop 1 (at_type us l)) l.marks l.type_use.array

    faults_same : Same (base_rows P (place_local ts l).type_use.base) (base_rows Q (place_local us l).type_use.base)
    faults_same = base_rows_same P Q h c (place_local ts l).type_use.base (place_local us l).type_use.base (base_placed (at_type ts l) (at_type us l) l.type_use.base)

    -- of Q, by what is written
    abbrev state_by : State → BaseType → Option Qualifier → Bool → State
    state_by r b bound f = (declarators Q c first b bound f (base_rows Q (place_local us l).type_use.base) r ((place_local us l).first ∷ (place_local us l).more)).behind

    abbrev rows_by : State → BaseType → Option Qualifier → Bool → List Row
    rows_by r b bound f = declarators_rows Q c first w b bound f (base_rows Q (place_local us l).type_use.base) r ((place_local us l).first ∷ (place_local us l).more)

    declaration_like : (st r : State) → Like st r → Like (declaration P c first st (place_local ts l)).behind (declaration Q c first r (place_local us l)).behind
    declaration_like st r k =
        let b : BaseType = local_type P c first (place_local ts l).marks (place_local ts l).type_use in
        let d : BaseType = local_type Q c first (place_local us l).marks (place_local us l).type_use in
        let x : Option Qualifier = local_bound P c first (place_local ts l).marks (place_local ts l).type_use in
        let y : Option Qualifier = local_bound Q c first (place_local us l).marks (place_local us l).type_use in
        let f : Bool = has_final (place_local ts l).marks in
        let here : State = (declaration P c first st (place_local ts l)).behind in
        subst (λ z. Like here (state_by r d y z)) (final_same ts us l.marks)
        (subst (λ z. Like here (state_by r d z f)) bound_same
        (subst (λ z. Like here (state_by r z x f)) type_same
        (first_like b x f (base_rows P (place_local ts l).type_use.base) (base_rows Q (place_local us l).type_use.base) faults_same st r (at_first ts l) (at_first us l) (at_more ts l) (at_more us l) l.first l.more k)))

    declaration_same : (st r : State) → Like st r → Same (declaration_rows P c first w st (place_local ts l)) (declaration_rows Q c first w r (place_local us l))
    declaration_same st r k =
        let b : BaseType = local_type P c first (place_local ts l).marks (place_local ts l).type_use in
        let d : BaseType = local_type Q c first (place_local us l).marks (place_local us l).type_use in
        let x : Option Qualifier = local_bound P c first (place_local ts l).marks (place_local ts l).type_use in
        let y : Option Qualifier = local_bound Q c first (place_local us l).marks (place_local us l).type_use in
        let f : Bool = has_final (place_local ts l).marks in
        let g : Bool = has_final (place_local us l).marks in
        both (use_rows P c first w (place_local ts l).marks (place_local ts l).type_use)
        (declarators_rows P c first w b x f (base_rows P (place_local ts l).type_use.base) st ((place_local ts l).first ∷ (place_local ts l).more))
        (use_rows Q c first w (place_local us l).marks (place_local us l).type_use)
        (rows_by r d y g)
        (use_same ts us (at_type ts l) (at_type us l) l.marks l.type_use)
        (first_same b x f (base_rows P (place_local ts l).type_use.base) (base_rows Q (place_local us l).type_use.base) faults_same st r (at_first ts l) (at_first us l) (at_more ts l) (at_more us l) l.first l.more k
        ∙ ap (λ z. codes_of (rows_by r z x f)) type_same
        ∙ ap (λ z. codes_of (rows_by r d z f)) bound_same
        ∙ ap (λ z. codes_of (rows_by r d y z)) (final_same ts us l.marks))

  init_like : (st r : State) (ts us : List Token) (i : InitTree) → Like st r → Like (init P c first st (place_init ts i)).behind (init Q c first r (place_init us i)).behind
  init_like st r ts us (ExpressionsInit es) k = effects_like st r ts us es k
  init_like st r ts us (DeclarationInit l) k = declaration_like ts us l st r k

  init_same : (st r : State) (ts us : List Token) (i : InitTree) → Like st r → Same (init_rows P c first w st (place_init ts i)) (init_rows Q c first w r (place_init us i))
  init_same st r ts us (ExpressionsInit es) k = effects_same st r ts us es k
  init_same st r ts us (DeclarationInit l) k = declaration_same ts us l st r k

  -- ---- `for` over an array

  array_same : (st r : State) (ts us : List Token) (e : Tree) → Like st r → Same (array_rows P c first w st (place ts e)) (array_rows Q c first w r (place us e))
  array_same st r ts us e k =
      let x : List Row = rows_in P c first w st (place ts e) in
      let y : List Row = rows_in Q c first w r (place us e) in
      let a : List Row = when (not (is_array (type_of P c st.scope (place ts e)))) (row J2 (inner_span (place ts e))) in
      let b : List Row = when (not (is_array (type_of Q c r.scope (place us e)))) (row J2 (inner_span (place us e))) in
      both x (unless x a) y (unless y b) (in_same st r ts us e k)
      (unless_same x a y b (in_same st r ts us e k)
      (when_same (not (is_array (type_of P c st.scope (place ts e)))) (not (is_array (type_of Q c r.scope (place us e)))) (row J2 (inner_span (place ts e))) (row J2 (inner_span (place us e)))
      (ap (λ t. not (is_array t)) (type_alike P Q c first h st.scope r.scope (place ts e) (place us e) (ap (λ (x : State). x.scope) k.0) (placed ts us e))) refl))

  -- the temporaries after the element, by those after the array
  abbrev element_behind : Temporaries → BaseType → Temporaries
  element_behind t ty = (take_one (take_one (take_one (take_one t Int).behind Int).behind BoolBase).behind (elem_base ty)).behind

  -- of Q, by what is written
  abbrev each_by : State → ℕ → List Row → BaseType → BaseType → Option Qualifier → Bool → Temporaries → State
  each_by r n rows ty base bound f t = each_state Q c first r ty base n bound f rows t

  each_like : (st r : State) (n : ℕ) (rows others : List Row) (ty ty' base base' : BaseType) (bound bound' : Option Qualifier) (f f' : Bool) (t t' : Temporaries) → Same rows others → ty ≡ ty' → base ≡ base' → bound ≡ bound' → f ≡ f' → t ≡ t' → Like st r → Like (each_state P c first st ty base n bound f rows t) (each_by r n others ty' base' bound' f' t')
  each_like st r n rows others ty ty' base base' bound bound' f f' t t' same i j l m o k =
      let here : State = each_state P c first st ty base n bound f rows t in
      subst (λ z. Like here (each_by r n others ty' base' bound' f' z)) o
      (subst (λ z. Like here (each_by r n others z base' bound' f' t)) i
      (subst (λ z. Like here (each_by r n others ty z bound' f' t)) j
      (subst (λ z. Like here (each_by r n others ty base z f' t)) l
      (declares_like (reserves (reserves (with_temporaries st t) ty) Int) (reserves (reserves (with_temporaries r t) ty) Int) n base bound f f' rows others m same
      (ap (λ (a : State). reserves (reserves (with_temporaries a t) ty) Int) k.0, k.1)))))

  -- ---- statements

  scope_after : (st r : State) (ts us : List Token) (x : Statement) → Like st r → coded_scope (statement P c first st (place_statement ts x)).behind.scope ≡ coded_scope (statement Q c first r (place_statement us x)).behind.scope
  scope_after st r ts us (BlockStatement ss) k = k.1
  scope_after st r ts us EmptyStatement k = k.1
  scope_after st r ts us (ExpressionStatement e) k = k.1
  scope_after st r ts us BreakStatement k = k.1
  scope_after st r ts us ContinueStatement k = k.1
  scope_after st r ts us (ReturnStatement e) k = k.1
  scope_after st r ts us (LocalStatement l) k = (declaration_like ts us l (fresh st) (fresh r) (fresh_like st r k)).1
  scope_after st r ts us (IfStatement q s) k = k.1
  scope_after st r ts us (IfElseStatement q s u) k = k.1
  scope_after st r ts us (WhileStatement q s) k = k.1
  scope_after st r ts us (DoStatement s q) k = k.1
  scope_after st r ts us (ForStatement i q es s) k = k.1
  scope_after st r ts us (ForEachStatement ms u n e s) k = k.1
  scope_after st r ts us (ThisCallStatement es) k = k.1
  scope_after st r ts us (SuperCallStatement es) k = k.1

  pub statement_like : (st r : State) (ts us : List Token) (x : Statement) → Like st r → Like (statement P c first st (place_statement ts x)).behind (statement Q c first r (place_statement us x)).behind
  statement_like st r ts us x k = (ap (λ (z : Step). z.behind) (statement_alike P Q c first h st r ts us x k.0), scope_after st r ts us x k)

  mutual
    pub rows_alike : (st r : State) (ts us : List Token) (x : Statement) → Like st r → Same (statement_rows P c first w st (place_statement ts x)) (statement_rows Q c first w r (place_statement us x))
    rows_alike st r ts us (BlockStatement ss) k = all_alike st r (drop 1 ts) (drop 1 us) ss k
    rows_alike st r ts us EmptyStatement k = refl
    rows_alike st r ts us (ExpressionStatement e) k = in_same st r ts us e k
    rows_alike st r ts us BreakStatement k = refl
    rows_alike st r ts us ContinueStatement k = refl
    rows_alike st r ts us (ReturnStatement e) k = optional_same st r (drop 1 ts) (drop 1 us) e k
    rows_alike st r ts us (LocalStatement l) k = declaration_same ts us l (fresh st) (fresh r) (fresh_like st r k)
    rows_alike st r ts us (IfStatement q s) k =
        let a = behind ts (If ∷ LeftParen ∷ []) in
        let b = behind us (If ∷ LeftParen ∷ []) in
        let v = behind a (spell q ++ RightParen ∷ []) in
        let z = behind b (spell q ++ RightParen ∷ []) in
        let x : State = with_temporaries st (tested_in P c first (fresh st) (place a q)).behind in
        let y : State = with_temporaries r (tested_in Q c first (fresh r) (place b q)).behind in
        both (rows_in P c first w st (place a q)) (statement_rows P c first w x (place_statement v s)) (rows_in Q c first w r (place b q)) (statement_rows Q c first w y (place_statement z s)) (in_same st r a b q k) (rows_alike x y v z s (tested_like st r a b q k))
    rows_alike st r ts us (IfElseStatement q s u) k =
        let a = behind ts (If ∷ LeftParen ∷ []) in
        let b = behind us (If ∷ LeftParen ∷ []) in
        let v = behind a (spell q ++ RightParen ∷ []) in
        let z = behind b (spell q ++ RightParen ∷ []) in
        let v' = behind v (spell_statement s ++ Else ∷ []) in
        let z' = behind z (spell_statement s ++ Else ∷ []) in
        let x : State = with_temporaries st (tested_in P c first (fresh st) (place a q)).behind in
        let y : State = with_temporaries r (tested_in Q c first (fresh r) (place b q)).behind in
        let x' : State = (statement P c first x (place_statement v s)).behind in
        let y' : State = (statement Q c first y (place_statement z s)).behind in
        both (rows_in P c first w st (place a q)) (statement_rows P c first w x (place_statement v s) ++ statement_rows P c first w x' (place_statement v' u)) (rows_in Q c first w r (place b q)) (statement_rows Q c first w y (place_statement z s) ++ statement_rows Q c first w y' (place_statement z' u)) (in_same st r a b q k)
        (both (statement_rows P c first w x (place_statement v s)) (statement_rows P c first w x' (place_statement v' u)) (statement_rows Q c first w y (place_statement z s)) (statement_rows Q c first w y' (place_statement z' u)) (rows_alike x y v z s (tested_like st r a b q k)) (rows_alike x' y' v' z' u (statement_like x y v z s (tested_like st r a b q k))))
    rows_alike st r ts us (WhileStatement q s) k =
        let a = behind ts (While ∷ LeftParen ∷ []) in
        let b = behind us (While ∷ LeftParen ∷ []) in
        let v = behind a (spell q ++ RightParen ∷ []) in
        let z = behind b (spell q ++ RightParen ∷ []) in
        let x : State = with_temporaries st (tested_in P c first (fresh st) (place a q)).behind in
        let y : State = with_temporaries r (tested_in Q c first (fresh r) (place b q)).behind in
        both (rows_in P c first w st (place a q)) (statement_rows P c first w x (place_statement v s)) (rows_in Q c first w r (place b q)) (statement_rows Q c first w y (place_statement z s)) (in_same st r a b q k) (rows_alike x y v z s (tested_like st r a b q k))
    rows_alike st r ts us (DoStatement s q) k =
        let a = behind ts (Do ∷ (spell_statement s ++ While ∷ LeftParen ∷ [])) in
        let b = behind us (Do ∷ (spell_statement s ++ While ∷ LeftParen ∷ [])) in
        let x : State = (statement P c first (fresh st) (place_statement (drop 1 ts) s)).behind in
        let y : State = (statement Q c first (fresh r) (place_statement (drop 1 us) s)).behind in
        both (statement_rows P c first w (fresh st) (place_statement (drop 1 ts) s)) (rows_in P c first w x (place a q)) (statement_rows Q c first w (fresh r) (place_statement (drop 1 us) s)) (rows_in Q c first w y (place b q))
        (rows_alike (fresh st) (fresh r) (drop 1 ts) (drop 1 us) s (fresh_like st r k)) (in_same x y a b q (statement_like (fresh st) (fresh r) (drop 1 ts) (drop 1 us) s (fresh_like st r k)))
    rows_alike st r ts us (ForStatement i q es s) k =
        let a = behind ts (For ∷ LeftParen ∷ []) in
        let b = behind us (For ∷ LeftParen ∷ []) in
        let a1 = behind a (spell_init i) in
        let b1 = behind b (spell_init i) in
        let a2 = behind a1 (spell_optional q ++ Semicolon ∷ []) in
        let b2 = behind b1 (spell_optional q ++ Semicolon ∷ []) in
        let a3 = behind a2 (spell_list RightParen es) in
        let b3 = behind b2 (spell_list RightParen es) in
        let x : State = (init P c first (fresh st) (place_init a i)).behind in
        let y : State = (init Q c first (fresh r) (place_init b i)).behind in
        let x1 : State = with_temporaries x (optional_test P c first x (place_optional a1 q)).behind in
        let y1 : State = with_temporaries y (optional_test Q c first y (place_optional b1 q)).behind in
        let x2 : State = (statement P c first x1 (place_statement a3 s)).behind in
        let y2 : State = (statement Q c first y1 (place_statement b3 s)).behind in
        let j = init_like (fresh st) (fresh r) a b i (fresh_like st r k) in
        let l = optional_like x y a1 b1 q j in
        both (init_rows P c first w (fresh st) (place_init a i)) (optional_rows P c first w x (place_optional a1 q) ++ (statement_rows P c first w x1 (place_statement a3 s) ++ effect_rows P c first w x2 (place_list a2 es)))
        (init_rows Q c first w (fresh r) (place_init b i)) (optional_rows Q c first w y (place_optional b1 q) ++ (statement_rows Q c first w y1 (place_statement b3 s) ++ effect_rows Q c first w y2 (place_list b2 es)))
        (init_same (fresh st) (fresh r) a b i (fresh_like st r k))
        (both (optional_rows P c first w x (place_optional a1 q)) (statement_rows P c first w x1 (place_statement a3 s) ++ effect_rows P c first w x2 (place_list a2 es)) (optional_rows Q c first w y (place_optional b1 q)) (statement_rows Q c first w y1 (place_statement b3 s) ++ effect_rows Q c first w y2 (place_list b2 es))
        (optional_same x y a1 b1 q j)
        (both (statement_rows P c first w x1 (place_statement a3 s)) (effect_rows P c first w x2 (place_list a2 es)) (statement_rows Q c first w y1 (place_statement b3 s)) (effect_rows Q c first w y2 (place_list b2 es))
        (rows_alike x1 y1 a3 b3 s l) (effects_same x2 y2 a2 b2 es (statement_like x1 y1 a3 b3 s l))))
    rows_alike st r ts us (ForEachStatement ms u n e s) k =
        let a = behind ts (For ∷ LeftParen ∷ []) in
        let b = behind us (For ∷ LeftParen ∷ []) in
        let a1 = behind a (spell_marks ms) in
        let b1 = behind b (spell_marks ms) in
        let a2 = behind a1 (spell_type_use u) in
        let b2 = behind b1 (spell_type_use u) in
        let a3 = behind a2 (Id n ∷ Colon ∷ []) in
        let b3 = behind b2 (Id n ∷ Colon ∷ []) in
        let a4 = behind a3 (spell e ++ RightParen ∷ []) in
        let b4 = behind b3 (spell e ++ RightParen ∷ []) in
        let ty : BaseType = type_of P c st.scope (place a3 e) in
        let ty' : BaseType = type_of Q c r.scope (place b3 e) in
        let base : BaseType = local_type P c first (place_local_marks a ms) (place_type_use a1 u) in
        let base' : BaseType = local_type Q c first (place_local_marks b ms) (place_type_use b1 u) in
        let bound : Option Qualifier = local_bound P c first (place_local_marks a ms) (place_type_use a1 u) in
        let bound' : Option Qualifier = local_bound Q c first (place_local_marks b ms) (place_type_use b1 u) in
        let f : Bool = has_final (place_local_marks a ms) in
        let f' : Bool = has_final (place_local_marks b ms) in
        let rows : List Row = base_rows P (place_base a1 u.base) in
        let others : List Row = base_rows Q (place_base b1 u.base) in
        let m : Temporaries = (lowered_in P c first (fresh st) (place a3 e)).behind in
        let m' : Temporaries = (lowered_in Q c first (fresh r) (place b3 e)).behind in
        let t : Temporaries = element_behind m ty in
        let t' : Temporaries = element_behind m' ty' in
        let x : State = each_state P c first st ty base n.0 bound f rows t in
        let y : State = each_state Q c first r ty' base' n.0 bound' f' others t' in
        let types : ty ≡ ty' = type_alike P Q c first h st.scope r.scope (place a3 e) (place b3 e) (ap (λ (x : State). x.scope) k.0) (placed a3 b3 e) in
        let later : m ≡ m' = ap (λ (v : Value). v.behind) (value_alike P Q c first h (fresh st) (fresh r) a3 b3 e (ap fresh k.0)) in
        let k' = each_like st r n.0 rows others ty ty' base base' bound bound' f f' t t' (base_rows_same P Q h c (place_base a1 u.base) (place_base b1 u.base) (base_placed a1 b1 u.base)) types
        (local_type_alike P Q c first h a b a1 b1 ms u) (own_same a b (drop 1 a1) (drop 1 b1) ms u.array) (final_same a b ms) (ap (λ z. element_behind z ty) later ∙ ap (element_behind m') types) k in
        let last : List Row = statement_rows P c first w x (place_statement a4 s) in
        let last' : List Row = statement_rows Q c first w y (place_statement b4 s) in
        let named : List Row = declared_rows st.scope n.0 (front a2) in
        let named' : List Row = declared_rows r.scope n.0 (front b2) in
        both (use_rows P c first w (place_local_marks a ms) (place_type_use a1 u)) (array_rows P c first w st (place a3 e) ++ (named ++ last)) (use_rows Q c first w (place_local_marks b ms) (place_type_use b1 u)) (array_rows Q c first w r (place b3 e) ++ (named' ++ last'))
        (use_same a b a1 b1 ms u)
        (both (array_rows P c first w st (place a3 e)) (named ++ last) (array_rows Q c first w r (place b3 e)) (named' ++ last') (array_same st r a3 b3 e k)
        (both named last named' last' (declared_same st.scope r.scope n.0 (front a2) (front b2) k.1) (rows_alike x y a4 b4 s k')))
    rows_alike st r ts us (ThisCallStatement es) k = refl
    rows_alike st r ts us (SuperCallStatement es) k = refl

    pub all_alike : (st r : State) (ts us : List Token) (xs : Statements) → Like st r → Same (all_rows P c first w st (place_body ts xs)) (all_rows Q c first w r (place_body us xs))
    all_alike st r ts us NoStatements k = refl
    all_alike st r ts us (MoreStatements x xs) k =
        let a = behind ts (spell_statement x) in
        let b = behind us (spell_statement x) in
        let y : State = (statement P c first st (place_statement ts x)).behind in
        let z : State = (statement Q c first r (place_statement us x)).behind in
        both (statement_rows P c first w st (place_statement ts x)) (all_rows P c first w y (place_body a xs)) (statement_rows Q c first w r (place_statement us x)) (all_rows Q c first w z (place_body b xs)) (rows_alike st r ts us x k) (all_alike y z a b xs (statement_like st r ts us x k))
