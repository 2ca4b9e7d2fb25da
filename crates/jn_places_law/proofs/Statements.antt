-- Statements that differ in places are lowered to points that differ in places alone.
use Rattle.std.proofs.Common.{◌≡◌, ℕ, ◌+◌, Bool, cond, ◌&&◌, List, [], ◌∷◌, ◌++◌, length, Option, Some, None, refl, sym, ap, ◌∙◌}
use Rattle.std.specs.Prelude.{drop, option_map, pos}
use Rattle.std.proofs.Math.Path.{fun_ext}
use Rattle.jn_base.specs.declared.place.Row.{Row}
use Rattle.jn_base.specs.declared.place.Span.{Span}
use Rattle.jn_base.specs.declared.number.NameNo.{NameNo}
use Rattle.jn_quals.specs.Qualifier.{Qualifier}
use Rattle.jn_points.specs.declared.point.BaseType.{BaseType}
use Rattle.jn_points.specs.declared.point.BaseType.TheVariants.{Int, Bool as BoolBase}
use Rattle.jn_points.specs.declared.point.Literal.TheVariants.{Int as IntOf}
use Rattle.jn_points.specs.declared.point.Operand.{Operand}
use Rattle.jn_points.specs.declared.point.Operator.TheVariants.{Add as Sum, Less as Below}
use Rattle.jn_points.specs.declared.point.PointKind.{PointKind}
use Rattle.jn_points.specs.declared.point.PointKind.TheVariants.{Const, Move, Binary, ElemRead, ArrayLen, Return}
use Rattle.jn_points.specs.declared.program.Program.{Program}
use Rattle.jn_points.specs.Lookup.{elem_base}
use Rattle.jn_trees.specs.declared.expression.Annotation.{Annotation}
use Rattle.jn_trees.specs.declared.expression.Base.{Base}
use Rattle.jn_trees.specs.declared.token.Token.{Token}
use Rattle.jn_trees.specs.declared.token.TokenKind.TheVariants.{Id, LeftParen, RightParen, Comma, Semicolon, Colon, If, Else, While, Do, For}
use Rattle.jn_trees.specs.Trees.{BaseTree, ClassBase, IntBase, BooleanBase, Tree, Trees, NoTrees, MoreTrees, LocalMark, AnnotationMark, FinalMark, TypeUseTree, DeclaratorTree, LocalTree, InitTree, ExpressionsInit, DeclarationInit, Statement, Statements, BlockStatement, EmptyStatement, ExpressionStatement, BreakStatement, ContinueStatement, ReturnStatement, LocalStatement, IfStatement, IfElseStatement, WhileStatement, DoStatement, ForStatement, ForEachStatement, ThisCallStatement, SuperCallStatement, NoStatements, MoreStatements}
use Rattle.jn_trees.specs.Spelling.{spell, spell_marks, spell_type_use, spell_declarator, spell_init, spell_optional, spell_list, spell_statement}
use Rattle.jn_places.specs.Placed.{PlacedTree, PlacedStatement}
use Rattle.jn_places.specs.Places.{behind, over, place, place_list, place_base, place_annotations, place_optional, place_brackets, place_type_use, spell_local_mark, place_local_marks, place_value, place_declarator, place_next_declarator, spell_next_declarator, place_more_declarators, place_local, place_init, place_statement, place_body}
use Rattle.jn_lowering.specs.Fragments.{Fragment, Piece, nothing, does, goes, swapped, Part, to, plain, parts, then}
use Rattle.jn_lowering.specs.Temporaries.{Temporaries}
use Rattle.jn_lowering.specs.Scopes.{Local, Scope, local_in, or_zero, class_named}
use Rattle.jn_lowering.specs.Bases.{ref, simple_type, array_type, type_by, type_of}
use Rattle.jn_lowering.specs.Forms.{Value, Condition, Lowered, branch, gives, operand, register}
use Rattle.jn_lowering.specs.Expressions.{lower, span_of}
use Rattle.jn_lowering.specs.Annotations.{base_rows}
use Rattle.jn_lowering.specs.Locals.{State, annotations_of, bound_named, common, bound_of, is_some, with_local, declares, has_final, has_value, own_annotations, reserves, with_temporaries}
use Rattle.jn_lowering.specs.Statements.{Step, step, fresh, back, keeps_scope, no_step, both_steps, with_value, if_form, if_else_form, while_form, do_form, for_form, through, lowered_in, tested_in, effects, returned, initialized, declarator, declarators, local_type, local_bound, declaration, init, optional_test, each_start, each_test, each_length, each_element, each_one, each_next, each_form, each_tested, each_state, statement, statements}
use Rattle.jn_places_law.specs.Bare.{bare, Alike, bare_kind, bare_operand, no_span}
use Rattle.jn_places_law.specs.Erased.{bare_annotations, bare_base, bare_tree, bare_local, bare_scope, bare_fragment, bare_value, bare_condition, bare_lowered, bare_state, bare_step}
use Rattle.jn_places_law.proofs.Forms.{pushed, parts_bare, then_bare, branch_bare, gives_bare}
use Rattle.jn_places_law.proofs.Meanings.{local_bare, class_named_is, array_is, type_is}
use Rattle.jn_places_law.proofs.Expressions.{alike}
use Rattle.jn_places_law.proofs.Places.{placed, notes_placed, base_placed}

-- ---- steps

pub both_alike : (x y z w : Step) → bare_step x ≡ bare_step z → bare_step y ≡ bare_step w → bare_step (both_steps x y) ≡ bare_step (both_steps z w)
both_alike x y z w h k = both x y ∙ ap (λ a. both_steps a (bare_step y)) h ∙ ap (both_steps (bare_step z)) k ∙ sym (both z w)
  where
    both : (x y : Step) → bare_step (both_steps x y) ≡ both_steps (bare_step x) (bare_step y)
    both x y = ap (step (bare_state y.behind)) (then_bare x.fragment y.fragment)

pub back_alike : (st r : State) (x y : Step) → bare_state st ≡ bare_state r → bare_step x ≡ bare_step y → bare_step (back st x) ≡ bare_step (back r y)
back_alike st r x y k h = ap (λ a. back a (bare_step x)) k ∙ ap (back (bare_state r)) h

keeps_alike : (st r : State) (x y : Step) → bare_state st ≡ bare_state r → bare_step x ≡ bare_step y → bare_step (keeps_scope st x) ≡ bare_step (keeps_scope r y)
keeps_alike st r x y k h = ap (λ a. keeps_scope a (bare_step x)) k ∙ ap (keeps_scope (bare_state r)) h

pub temps_alike : (st r : State) (t u : Temporaries) → bare_state st ≡ bare_state r → t ≡ u → bare_state (with_temporaries st t) ≡ bare_state (with_temporaries r u)
temps_alike st r t u k h = ap (λ a. with_temporaries a t) k ∙ ap (with_temporaries (bare_state r)) h

value_step : (st r : State) (v w : Value) → bare_state st ≡ bare_state r → bare_value v ≡ bare_value w → bare_step (with_value st v) ≡ bare_step (with_value r w)
value_step st r v w k h = ap (λ a. with_value a (bare_value v)) k ∙ ap (with_value (bare_state r)) h

-- the point after a value
abbrev pub ends : (Operand → PointKind) → State → Span → Value → Step
ends kind st span v = step (with_temporaries st v.behind) (then v.fragment (does span (kind v.operand)))

pub ends_alike : (kind : Operand → PointKind) → ((o : Operand) → bare_kind (kind o) ≡ kind (bare_operand o)) → (st r : State) (span at : Span) (v w : Value) → bare_state st ≡ bare_state r → bare_value v ≡ bare_value w → bare_step (ends kind st span v) ≡ bare_step (ends kind r at w)
ends_alike kind same st r span at v w k h = each st span v ∙ ap (λ a. ends kind a no_span (bare_value v)) k ∙ ap (ends kind (bare_state r) no_span) h ∙ sym (each r at w)
  where
    each : (st : State) (span : Span) (v : Value) → bare_step (ends kind st span v) ≡ ends kind (bare_state st) no_span (bare_value v)
    each st span v =
        ap (step (with_temporaries (bare_state st) v.behind)) (then_bare v.fragment (does span (kind v.operand)))
        ∙ ap (λ p. step (with_temporaries (bare_state st) v.behind) (then (bare_fragment v.fragment) (does no_span p))) (same v.operand)

if_alike : (q p : Condition) (x y : Step) → bare_condition q ≡ bare_condition p → bare_step x ≡ bare_step y → bare_step (if_form q x) ≡ bare_step (if_form p y)
if_alike q p x y h k = each q x ∙ ap (λ a. if_form a (bare_step x)) h ∙ ap (if_form (bare_condition p)) k ∙ sym (each p y)
  where
    each : (q : Condition) (x : Step) → bare_step (if_form q x) ≡ if_form (bare_condition q) (bare_step x)
    each q x = ap (step (bare_state x.behind)) (parts_bare (to q.fragment (Part 1) (Part 2) ∷ plain x.fragment ∷ []))

if_else_alike : (span at : Span) (q p : Condition) (x y z w : Step) → bare_condition q ≡ bare_condition p → bare_step x ≡ bare_step y → bare_step z ≡ bare_step w → bare_step (if_else_form span q x z) ≡ bare_step (if_else_form at p y w)
if_else_alike span at q p x y z w h k g = each span q x z ∙ ap (λ a. if_else_form no_span a (bare_step x) (bare_step z)) h ∙ ap (λ a. if_else_form no_span (bare_condition p) a (bare_step z)) k ∙ ap (if_else_form no_span (bare_condition p) (bare_step y)) g ∙ sym (each at p y w)
  where
    each : (span : Span) (q : Condition) (x y : Step) → bare_step (if_else_form span q x y) ≡ if_else_form no_span (bare_condition q) (bare_step x) (bare_step y)
    each span q x y = ap (step (bare_state y.behind)) (parts_bare (to q.fragment (Part 1) (Part 3) ∷ plain x.fragment ∷ to (goes span) (Part 4) (Part 4) ∷ plain y.fragment ∷ []))

while_alike : (span at : Span) (q p : Condition) (x y : Step) → bare_condition q ≡ bare_condition p → bare_step x ≡ bare_step y → bare_step (while_form span q x) ≡ bare_step (while_form at p y)
while_alike span at q p x y h k = each span q x ∙ ap (λ a. while_form no_span a (bare_step x)) h ∙ ap (while_form no_span (bare_condition p)) k ∙ sym (each at p y)
  where
    each : (span : Span) (q : Condition) (x : Step) → bare_step (while_form span q x) ≡ while_form no_span (bare_condition q) (bare_step x)
    each span q x = ap (step (bare_state x.behind)) (parts_bare (to q.fragment (Part 1) (Part 3) ∷ to x.fragment (Part 3) (Part 0) ∷ to (goes span) (Part 0) (Part 0) ∷ []))

do_alike : (q p : Condition) (x y : Step) → bare_step x ≡ bare_step y → bare_condition q ≡ bare_condition p → bare_step (do_form x q) ≡ bare_step (do_form y p)
do_alike q p x y k h = each q x ∙ ap (do_form (bare_step x)) h ∙ ap (λ a. do_form a (bare_condition p)) k ∙ sym (each p y)
  where
    each : (q : Condition) (x : Step) → bare_step (do_form x q) ≡ do_form (bare_step x) (bare_condition q)
    each q x = ap (step (with_temporaries (bare_state x.behind) q.behind)) (parts_bare (to x.fragment (Part 2) (Part 1) ∷ to q.fragment (Part 0) (Part 2) ∷ []))

for_alike : (span at : Span) (i j : Step) (q p : Condition) (x y z w : Step) → bare_step i ≡ bare_step j → bare_condition q ≡ bare_condition p → bare_step x ≡ bare_step y → bare_step z ≡ bare_step w → bare_step (for_form span i q x z) ≡ bare_step (for_form at j p y w)
for_alike span at i j q p x y z w e h k g =
    each span i q x z
    ∙ ap (λ a. for_form no_span a (bare_condition q) (bare_step x) (bare_step z)) e
    ∙ ap (λ a. for_form no_span (bare_step j) a (bare_step x) (bare_step z)) h
    ∙ ap (λ a. for_form no_span (bare_step j) (bare_condition p) a (bare_step z)) k
    ∙ ap (for_form no_span (bare_step j) (bare_condition p) (bare_step y)) g
    ∙ sym (each at j p y w)
  where
    each : (span : Span) (i : Step) (q : Condition) (x z : Step) → bare_step (for_form span i q x z) ≡ for_form no_span (bare_step i) (bare_condition q) (bare_step x) (bare_step z)
    each span i q x z = ap (step (bare_state z.behind)) (parts_bare (plain i.fragment ∷ to q.fragment (Part 2) (Part 5) ∷ to x.fragment (Part 5) (Part 3) ∷ plain z.fragment ∷ to (goes span) (Part 1) (Part 1) ∷ []))

-- ---- scopes

some_map : (l : Option Local) → is_some (option_map bare_local l) ≡ is_some l
some_map None = refl
some_map (Some l) = refl

with_bare : (s : Scope) (l : Local) → bare_scope (with_local s l) ≡ with_local (bare_scope s) (bare_local l)
with_bare s l =
    pushed bare_scope (is_some (local_in s l.name)) s (l ∷ s)
    ∙ ap (λ b. cond b (bare_scope s) (bare_local l ∷ bare_scope s)) (sym (ap is_some (local_bare s l.name) ∙ some_map (local_in s l.name)))

abbrev a_state : Scope → List BaseType → Temporaries → State
a_state s locals t = record { scope = s; locals = locals; temporaries = t }

declares_bare : (st : State) (n : ℕ) (b : BaseType) (bound : Option Qualifier) (fixed : Bool) (faults : List Row) → bare_state (declares st n b bound fixed faults) ≡ declares (bare_state st) n b bound fixed []
declares_bare st n b bound fixed faults = ap (λ s. a_state s (st.locals ++ b ∷ []) st.temporaries) (with_bare st.scope (record { name = n; reg = length st.locals; base = b; bound = bound; fixed = fixed; faults = faults }))

pub declares_alike : (st r : State) (n : ℕ) (b : BaseType) (bound : Option Qualifier) (fixed : Bool) (faults others : List Row) → bare_state st ≡ bare_state r → bare_state (declares st n b bound fixed faults) ≡ bare_state (declares r n b bound fixed others)
declares_alike st r n b bound fixed faults others k = declares_bare st n b bound fixed faults ∙ ap (λ a. declares a n b bound fixed []) k ∙ sym (declares_bare r n b bound fixed others)

-- ---- what stands before a declaration

bound_bare : (as' : List Annotation) → bound_of (bare_annotations as') ≡ bound_of as'
bound_bare [] = refl
bound_bare (a ∷ as') = ap (common (bound_named a.name.0)) (bound_bare as')

pub final_same : (ts us : List Token) (ms : List LocalMark) → has_final (place_local_marks ts ms) ≡ has_final (place_local_marks us ms)
final_same ts us [] = refl
final_same ts us (AnnotationMark n ∷ ms) = final_same (behind ts (spell_local_mark (AnnotationMark n))) (behind us (spell_local_mark (AnnotationMark n))) ms
final_same ts us (FinalMark ∷ ms) = refl

pub marks_same : (ts us : List Token) (ms : List LocalMark) → bare_annotations (annotations_of (place_local_marks ts ms)) ≡ bare_annotations (annotations_of (place_local_marks us ms))
marks_same ts us [] = refl
marks_same ts us (AnnotationMark n ∷ ms) = ap (λ r. record { name = n; span = no_span } ∷ r) (marks_same (behind ts (spell_local_mark (AnnotationMark n))) (behind us (spell_local_mark (AnnotationMark n))) ms)
marks_same ts us (FinalMark ∷ ms) = marks_same (behind ts (spell_local_mark FinalMark)) (behind us (spell_local_mark FinalMark)) ms

bounds_same : (a b : List Annotation) → bare_annotations a ≡ bare_annotations b → bound_of a ≡ bound_of b
bounds_same a b h = sym (bound_bare a) ∙ ap bound_of h ∙ bound_bare b

pub own_same : (ts us vs ws : List Token) (ms : List LocalMark) (array : Option (List NameNo)) → bound_of (own_annotations (place_brackets vs array) (annotations_of (place_local_marks ts ms))) ≡ bound_of (own_annotations (place_brackets ws array) (annotations_of (place_local_marks us ms)))
own_same ts us vs ws ms None = bounds_same (annotations_of (place_local_marks ts ms)) (annotations_of (place_local_marks us ms)) (marks_same ts us ms)
own_same ts us vs ws ms (Some ns) = bounds_same (place_annotations vs ns) (place_annotations ws ns) (notes_placed vs ws ns)

pub has_same : (ts us : List Token) (d : DeclaratorTree) → has_value (place_declarator ts d) ≡ has_value (place_declarator us d)
has_same ts us d = cases d.value
  where
    cases : (v : Option Tree) → has_value (record { name = record { name = d.name; span = no_span }; value = place_value (drop 1 ts) v }) ≡ has_value (record { name = record { name = d.name; span = no_span }; value = place_value (drop 1 us) v })
    cases None = refl
    cases (Some e) = refl

module _ (P Q : Program) (c first : ℕ) (h : Alike P Q) where
  pub type_alike : (s r : Scope) (e d : PlacedTree) → bare_scope s ≡ bare_scope r → bare_tree e ≡ bare_tree d → type_of P c s e ≡ type_of Q c r d
  type_alike s r e d k g =
      sym (type_is P c s e)
      ∙ ap (λ z. type_of z c (bare_scope s) (bare_tree e)) h
      ∙ ap (λ z. type_of (bare Q) c z (bare_tree e)) k
      ∙ ap (type_of (bare Q) c (bare_scope r)) g
      ∙ type_is Q c r d

  pub lowered_alike : (st r : State) (ts us : List Token) (e : Tree) → bare_state st ≡ bare_state r → bare_lowered (lower P c first st.scope st.temporaries (place ts e)) ≡ bare_lowered (lower Q c first r.scope r.temporaries (place us e))
  lowered_alike st r ts us e k =
      alike P Q c first st.scope r.scope st.temporaries (place ts e) (place us e) h (ap (λ (x : State). x.scope) k) (placed ts us e)
      ∙ ap (λ t. bare_lowered (lower Q c first r.scope t (place us e))) (ap (λ (x : State). x.temporaries) k)

  pub value_alike : (st r : State) (ts us : List Token) (e : Tree) → bare_state st ≡ bare_state r → bare_value (lowered_in P c first st (place ts e)) ≡ bare_value (lowered_in Q c first r (place us e))
  value_alike st r ts us e k = ap (λ (l : Lowered). l.value) (lowered_alike st r ts us e k)

  pub test_alike : (st r : State) (ts us : List Token) (e : Tree) → bare_state st ≡ bare_state r → bare_condition (tested_in P c first st (place ts e)) ≡ bare_condition (tested_in Q c first r (place us e))
  test_alike st r ts us e k = ap (λ (l : Lowered). l.condition) (lowered_alike st r ts us e k)

  pub effects_alike : (st r : State) (ts us : List Token) (es : Trees) → bare_state st ≡ bare_state r → bare_step (effects P c first st (place_list ts es)) ≡ bare_step (effects Q c first r (place_list us es))
  effects_alike st r ts us NoTrees k = ap no_step k
  effects_alike st r ts us (MoreTrees e es) k =
      both_alike (with_value st (lowered_in P c first st (place ts e))) (effects P c first (with_temporaries st (lowered_in P c first st (place ts e)).behind) (place_list (behind ts (spell e ++ Comma ∷ [])) es))
      (with_value r (lowered_in Q c first r (place us e))) (effects Q c first (with_temporaries r (lowered_in Q c first r (place us e)).behind) (place_list (behind us (spell e ++ Comma ∷ [])) es))
      (value_step st r (lowered_in P c first st (place ts e)) (lowered_in Q c first r (place us e)) k (value_alike st r ts us e k))
      (effects_alike (with_temporaries st (lowered_in P c first st (place ts e)).behind) (with_temporaries r (lowered_in Q c first r (place us e)).behind) (behind ts (spell e ++ Comma ∷ [])) (behind us (spell e ++ Comma ∷ [])) es
      (temps_alike st r (lowered_in P c first st (place ts e)).behind (lowered_in Q c first r (place us e)).behind k (ap (λ (v : Value). v.behind) (value_alike st r ts us e k))))

  returned_alike : (span at : Span) (st r : State) (ts us : List Token) (e : Option Tree) → bare_state st ≡ bare_state r → bare_step (returned P c first span st (place_optional ts e)) ≡ bare_step (returned Q c first at r (place_optional us e))
  returned_alike span at st r ts us None k = ap (λ a. step a (does no_span (Return None))) k
  returned_alike span at st r ts us (Some e) k = ends_alike (λ o. Return (Some o)) (λ o. refl) st r span at (lowered_in P c first st (place ts e)) (lowered_in Q c first r (place us e)) k (value_alike st r ts us e k)

  initialized_alike : (span at : Span) (n : ℕ) (bound : Option Qualifier) (st r : State) (ts us : List Token) (e : Option Tree) → bare_state st ≡ bare_state r → bare_step (initialized P c first span n bound st (place_optional ts e)) ≡ bare_step (initialized Q c first at n bound r (place_optional us e))
  initialized_alike span at n bound st r ts us None k = ap no_step k
  initialized_alike span at n bound st r ts us (Some e) k = ends_alike (λ o. Move (register n) o bound) (λ o. refl) st r (through span (span_of (place ts e))) (through at (span_of (place us e))) (lowered_in P c first st (place ts e)) (lowered_in Q c first r (place us e)) k (value_alike st r ts us e k)

  pub declarator_alike : (b : BaseType) (bound : Option Qualifier) (f : Bool) (faults others : List Row) (st r : State) (ts us : List Token) (d : DeclaratorTree) → bare_state st ≡ bare_state r → bare_step (declarator P c first b bound f faults st (place_declarator ts d)) ≡ bare_step (declarator Q c first b bound f others r (place_declarator us d))
  declarator_alike b bound f faults others st r ts us d k =
      initialized_alike (place_declarator ts d).name.span (place_declarator us d).name.span (length st.locals) bound
      (declares st d.name.0 b bound (f && has_value (place_declarator ts d)) faults) (declares r d.name.0 b bound (f && has_value (place_declarator ts d)) others) (drop 1 (drop 1 ts)) (drop 1 (drop 1 us)) d.value
      (declares_alike st r d.name.0 b bound (f && has_value (place_declarator ts d)) faults others k)
      ∙ ap (λ n. bare_step (initialized Q c first (place_declarator us d).name.span n bound (declares r d.name.0 b bound (f && has_value (place_declarator ts d)) others) (place_declarator us d).value)) (ap (λ (x : State). length x.locals) k)
      ∙ ap (λ z. bare_step (initialized Q c first (place_declarator us d).name.span (length r.locals) bound (declares r d.name.0 b bound (f && z) others) (place_declarator us d).value)) (has_same ts us d)

  pub more_alike : (b : BaseType) (bound : Option Qualifier) (f : Bool) (faults others : List Row) (st r : State) (ts us : List Token) (ds : List DeclaratorTree) → bare_state st ≡ bare_state r → bare_step (declarators P c first b bound f faults st (place_more_declarators ts ds)) ≡ bare_step (declarators Q c first b bound f others r (place_more_declarators us ds))
  more_alike b bound f faults others st r ts us [] k = ap no_step k
  more_alike b bound f faults others st r ts us (d ∷ ds) k =
      both_alike (declarator P c first b bound f faults st (place_next_declarator ts d)) (declarators P c first b bound f faults (declarator P c first b bound f faults st (place_next_declarator ts d)).behind (place_more_declarators (behind ts (spell_next_declarator d)) ds))
      (declarator Q c first b bound f others r (place_next_declarator us d)) (declarators Q c first b bound f others (declarator Q c first b bound f others r (place_next_declarator us d)).behind (place_more_declarators (behind us (spell_next_declarator d)) ds))
      (declarator_alike b bound f faults others st r (drop 1 ts) (drop 1 us) d k)
      (more_alike b bound f faults others (declarator P c first b bound f faults st (place_next_declarator ts d)).behind (declarator Q c first b bound f others r (place_next_declarator us d)).behind (behind ts (spell_next_declarator d)) (behind us (spell_next_declarator d)) ds
      (ap (λ (x : Step). x.behind) (declarator_alike b bound f faults others st r (drop 1 ts) (drop 1 us) d k)))

  class_alike : (n : ℕ) → class_named P n ≡ class_named Q n
  class_alike n = sym (class_named_is P n) ∙ ap (λ z. class_named z n) h ∙ class_named_is Q n

  simple_alike : (ts us : List Token) (b : BaseTree) → simple_type P (place_base ts b) ≡ simple_type Q (place_base us b)
  simple_alike ts us (ClassBase n) = ap (λ k. ref (or_zero k)) (class_alike n.0)
  simple_alike ts us IntBase = refl
  simple_alike ts us BooleanBase = refl

  array_alike : (b d : Base) (as' bs : List Annotation) → bare_base b ≡ bare_base d → bare_annotations as' ≡ bare_annotations bs → array_type P b as' ≡ array_type Q d bs
  array_alike b d as' bs k g =
      sym (array_is P b as')
      ∙ ap (λ z. array_type z (bare_base b) (bare_annotations as')) h
      ∙ ap (λ z. array_type (bare Q) z (bare_annotations as')) k
      ∙ ap (array_type (bare Q) (bare_base d)) g
      ∙ array_is Q d bs

  type_by_alike : (ts us vs ws xs ys : List Token) (b : BaseTree) (array : Option (List NameNo)) (ms : List LocalMark) → type_by P (place_base ts b) (place_brackets vs array) (annotations_of (place_local_marks xs ms)) ≡ type_by Q (place_base us b) (place_brackets ws array) (annotations_of (place_local_marks ys ms))
  type_by_alike ts us vs ws xs ys b None ms = simple_alike ts us b
  type_by_alike ts us vs ws xs ys b (Some ns) ms = array_alike (place_base ts b) (place_base us b) (annotations_of (place_local_marks xs ms)) (annotations_of (place_local_marks ys ms)) (base_placed ts us b) (marks_same xs ys ms)

  pub local_type_alike : (ts us vs ws : List Token) (ms : List LocalMark) (u : TypeUseTree) → local_type P c first (place_local_marks ts ms) (place_type_use vs u) ≡ local_type Q c first (place_local_marks us ms) (place_type_use ws u)
  local_type_alike ts us vs ws ms u = type_by_alike vs ws (drop 1 vs) (drop 1 ws) ts us u.base u.array ms

  pub list_alike : (b d : BaseType) (x y : Option Qualifier) (f g : Bool) (rows others : List Row) (st r : State) (ts us vs ws : List Token) (e : DeclaratorTree) (ds : List DeclaratorTree) → b ≡ d → x ≡ y → f ≡ g → bare_state st ≡ bare_state r →
      bare_step (declarators P c first b x f rows st (place_declarator ts e ∷ place_more_declarators vs ds)) ≡ bare_step (declarators Q c first d y g others r (place_declarator us e ∷ place_more_declarators ws ds))
  list_alike b d x y f g rows others st r ts us vs ws e ds i j l k =
      both_alike
      (declarator P c first b x f rows st (place_declarator ts e)) (declarators P c first b x f rows (declarator P c first b x f rows st (place_declarator ts e)).behind (place_more_declarators vs ds))
      (declarator Q c first b x f others r (place_declarator us e)) (declarators Q c first b x f others (declarator Q c first b x f others r (place_declarator us e)).behind (place_more_declarators ws ds))
      (declarator_alike b x f rows others st r ts us e k)
      (more_alike b x f rows others (declarator P c first b x f rows st (place_declarator ts e)).behind (declarator Q c first b x f others r (place_declarator us e)).behind vs ws ds
      (ap (λ (z : Step). z.behind) (declarator_alike b x f rows others st r ts us e k)))
      ∙ ap (λ z. bare_step (declarators Q c first z x f others r (place_declarator us e ∷ place_more_declarators ws ds))) i
      ∙ ap (λ z. bare_step (declarators Q c first d z f others r (place_declarator us e ∷ place_more_declarators ws ds))) j
      ∙ ap (λ z. bare_step (declarators Q c first d y z others r (place_declarator us e ∷ place_more_declarators ws ds))) l

  declaration_alike : (st r : State) (ts us : List Token) (l : LocalTree) → bare_state st ≡ bare_state r → bare_step (declaration P c first st (place_local ts l)) ≡ bare_step (declaration Q c first r (place_local us l))
  declaration_alike st r ts us l k =
      list_alike (local_type P c first (place_local ts l).marks (place_local ts l).type_use) (local_type Q c first (place_local us l).marks (place_local us l).type_use)
      (local_bound P c first (place_local ts l).marks (place_local ts l).type_use) (local_bound Q c first (place_local us l).marks (place_local us l).type_use)
      (has_final (place_local ts l).marks) (has_final (place_local us l).marks)
      (base_rows P (place_local ts l).type_use.base) (base_rows Q (place_local us l).type_use.base) st r
      (behind (behind ts (spell_marks l.marks)) (spell_type_use l.type_use)) (behind (behind us (spell_marks l.marks)) (spell_type_use l.type_use))
      (behind (behind (behind ts (spell_marks l.marks)) (spell_type_use l.type_use)) (spell_declarator l.first)) (behind (behind (behind us (spell_marks l.marks)) (spell_type_use l.type_use)) (spell_declarator l.first))
      l.first l.more
      (local_type_alike ts us (behind ts (spell_marks l.marks)) (behind us (spell_marks l.marks)) l.marks l.type_use)
      (own_same ts us (drop 1 (behind ts (spell_marks l.marks))) (drop 1 (behind us (spell_marks l.marks))) l.marks l.type_use.array)
      (final_same ts us l.marks) k

  init_alike : (st r : State) (ts us : List Token) (i : InitTree) → bare_state st ≡ bare_state r → bare_step (init P c first st (place_init ts i)) ≡ bare_step (init Q c first r (place_init us i))
  init_alike st r ts us (ExpressionsInit es) k = effects_alike st r ts us es k
  init_alike st r ts us (DeclarationInit l) k = declaration_alike st r ts us l k

  pub optional_alike : (st r : State) (ts us : List Token) (e : Option Tree) → bare_state st ≡ bare_state r → bare_condition (optional_test P c first st (place_optional ts e)) ≡ bare_condition (optional_test Q c first r (place_optional us e))
  optional_alike st r ts us None k = ap (λ (x : State). bare_condition (record { fragment = nothing; behind = x.temporaries })) k
  optional_alike st r ts us (Some e) k = test_alike st r ts us e k

  -- ---- `for` over an array

  start_bare : (span : Span) (n : ℕ) (v : Value) → bare_value (each_start P c first span n v) ≡ each_start P c first no_span n (bare_value v)
  start_bare span n v =
      gives_bare P first v.behind (then v.fragment (does span (Move (register n) v.operand None))) Int span (λ dst. Const dst (IntOf (pos 0)))
      ∙ ap (λ (f : Fragment). gives P first v.behind f Int no_span (λ dst. Const dst (IntOf (pos 0)))) (then_bare v.fragment (does span (Move (register n) v.operand None)))

  tested_bare : (span : Span) (n : ℕ) (t : Temporaries) → bare_value (each_tested P c first span n t) ≡ each_tested P c first no_span n t
  tested_bare span n t =
      gives_bare P first (each_length P c first span n t).behind (each_length P c first span n t).fragment BoolBase span (λ dst. Binary dst Below (operand (n + 1) span) (each_length P c first span n t).operand)
      ∙ ap (each_test P c first no_span n) (gives_bare P first t nothing Int span (λ dst. ArrayLen dst (operand n span)))

  element_each : (span : Span) (n : ℕ) (b : BaseType) (t : Temporaries) → bare_value (each_element P c first span n b t) ≡ each_element P c first no_span n b t
  element_each span n b t = gives_bare P first t nothing b span (λ dst. ElemRead dst (operand n span) (operand (n + 1) span))

  next_bare : (span : Span) (n : ℕ) (t : Temporaries) → bare_value (each_next P c first span n (each_one P c first span t)) ≡ each_next P c first no_span n (each_one P c first no_span t)
  next_bare span n t =
      gives_bare P first (each_one P c first span t).behind (each_one P c first span t).fragment Int span (λ dst. Binary dst Sum (operand (n + 1) span) (each_one P c first span t).operand)
      ∙ ap (each_next P c first no_span n) (gives_bare P first t nothing Int span (λ dst. Const dst (IntOf (pos 1))))

  abbrev each_parts : Span → ℕ → Option Qualifier → Fragment → Fragment → Fragment → Fragment → Fragment → List Piece
  each_parts span n bound start test element x next =
      plain start
      ∷ to test (Part 2) (Part 6)
      ∷ plain element
      ∷ to x (Part 6) (Part 4)
      ∷ plain next
      ∷ to (goes span) (Part 1) (Part 1)
      ∷ []

  form_bare : (span : Span) (n : ℕ) (bound : Option Qualifier) (start test element : Value) (x : Step) (next : Value) → bare_step (each_form P c first span n bound start test element x next) ≡ each_form P c first no_span n bound (bare_value start) (bare_value test) (bare_value element) (bare_step x) (bare_value next)
  form_bare span n bound start test element x next =
      ap (step (with_temporaries (bare_state x.behind) next.behind)) (parts_bare (each_parts span n bound (then start.fragment (does span (Move (register (n + 1)) start.operand None))) (branch test).fragment (then element.fragment (does span (Move (register (n + 2)) element.operand bound))) x.fragment (then next.fragment (does span (Move (register (n + 1)) next.operand None)))))
      ∙ ap (λ f. step (with_temporaries (bare_state x.behind) next.behind) (parts (each_parts no_span n bound f (bare_fragment (branch test).fragment) (bare_fragment (then element.fragment (does span (Move (register (n + 2)) element.operand bound)))) (bare_fragment x.fragment) (bare_fragment (then next.fragment (does span (Move (register (n + 1)) next.operand None))))))) (then_bare start.fragment (does span (Move (register (n + 1)) start.operand None)))
      ∙ ap (λ f. step (with_temporaries (bare_state x.behind) next.behind) (parts (each_parts no_span n bound (then (bare_fragment start.fragment) (does no_span (Move (register (n + 1)) (bare_operand start.operand) None))) f (bare_fragment (then element.fragment (does span (Move (register (n + 2)) element.operand bound)))) (bare_fragment x.fragment) (bare_fragment (then next.fragment (does span (Move (register (n + 1)) next.operand None))))))) (ap (λ (q : Condition). q.fragment) (branch_bare test))
      ∙ ap (λ f. step (with_temporaries (bare_state x.behind) next.behind) (parts (each_parts no_span n bound (then (bare_fragment start.fragment) (does no_span (Move (register (n + 1)) (bare_operand start.operand) None))) (branch (bare_value test)).fragment f (bare_fragment x.fragment) (bare_fragment (then next.fragment (does span (Move (register (n + 1)) next.operand None))))))) (then_bare element.fragment (does span (Move (register (n + 2)) element.operand bound)))
      ∙ ap (λ f. step (with_temporaries (bare_state x.behind) next.behind) (parts (each_parts no_span n bound (then (bare_fragment start.fragment) (does no_span (Move (register (n + 1)) (bare_operand start.operand) None))) (branch (bare_value test)).fragment (then (bare_fragment element.fragment) (does no_span (Move (register (n + 2)) (bare_operand element.operand) bound))) (bare_fragment x.fragment) f))) (then_bare next.fragment (does span (Move (register (n + 1)) next.operand None)))

  -- the loop, by its array and what its body is lowered to
  abbrev loop : Program → Span → ℕ → Option Qualifier → Value → BaseType → (Temporaries → Step) → Step
  loop R span n bound start b body =
      each_form R c first span n bound start (each_tested R c first span n start.behind) (each_element R c first span n b (each_tested R c first span n start.behind).behind) (body (each_element R c first span n b (each_tested R c first span n start.behind).behind).behind)
      (each_next R c first span n (each_one R c first span (body (each_element R c first span n b (each_tested R c first span n start.behind).behind).behind).behind.temporaries))

  loop_bare : (span : Span) (n : ℕ) (bound : Option Qualifier) (start : Value) (b : BaseType) (body : Temporaries → Step) → bare_step (loop P span n bound start b body) ≡ loop P no_span n bound (bare_value start) b (λ t. bare_step (body t))
  loop_bare span n bound start b body =
      form_bare span n bound start (each_tested P c first span n start.behind) (each_element P c first span n b (each_tested P c first span n start.behind).behind) (body (each_element P c first span n b (each_tested P c first span n start.behind).behind).behind) (each_next P c first span n (each_one P c first span (body (each_element P c first span n b (each_tested P c first span n start.behind).behind).behind).behind.temporaries))
      ∙ ap (λ v. each_form P c first no_span n bound (bare_value start) v (bare_value (each_element P c first span n b (each_tested P c first span n start.behind).behind)) (bare_step (body (each_element P c first span n b (each_tested P c first span n start.behind).behind).behind)) (bare_value (each_next P c first span n (each_one P c first span (body (each_element P c first span n b (each_tested P c first span n start.behind).behind).behind).behind.temporaries)))) (tested_bare span n start.behind)
      ∙ ap (λ v. each_form P c first no_span n bound (bare_value start) (each_tested P c first no_span n start.behind) v (bare_step (body (each_element P c first span n b (each_tested P c first span n start.behind).behind).behind)) (bare_value (each_next P c first span n (each_one P c first span (body (each_element P c first span n b (each_tested P c first span n start.behind).behind).behind).behind.temporaries)))) (element_each span n b (each_tested P c first span n start.behind).behind)
      ∙ ap (each_form P c first no_span n bound (bare_value start) (each_tested P c first no_span n start.behind) (each_element P c first no_span n b (each_tested P c first no_span n start.behind).behind) (bare_step (body (each_element P c first span n b (each_tested P c first span n start.behind).behind).behind))) (next_bare span n (body (each_element P c first span n b (each_tested P c first span n start.behind).behind).behind).behind.temporaries)

module _ (P Q : Program) (c first : ℕ) (h : Alike P Q) where
  loop_alike : (span at : Span) (n : ℕ) (bound : Option Qualifier) (v w : Value) (b : BaseType) (f g : Temporaries → Step) → bare_value v ≡ bare_value w → ((t : Temporaries) → bare_step (f t) ≡ bare_step (g t)) → bare_step (loop P Q c first h P span n bound v b f) ≡ bare_step (loop P Q c first h Q at n bound w b g)
  loop_alike span at n bound v w b f g k e =
      loop_bare P Q c first h span n bound v b f
      ∙ ap (λ z. loop P Q c first h P no_span n bound z b (λ t. bare_step (f t))) k
      ∙ ap (loop P Q c first h P no_span n bound (bare_value w) b) (fun_ext e)
      ∙ sym (loop_bare Q P c first (sym h) at n bound w b g)

  start_alike : (span at : Span) (n : ℕ) (v w : Value) → bare_value v ≡ bare_value w → bare_value (each_start P c first span n v) ≡ bare_value (each_start Q c first at n w)
  start_alike span at n v w k = start_bare P Q c first h span n v ∙ ap (each_start P c first no_span n) k ∙ sym (start_bare Q P c first (sym h) at n w)

  -- a `for` over an array, by the register of the array and what its declaration writes
  abbrev each_by : Program → State → PlacedTree → ℕ → List Row → PlacedStatement → ℕ → BaseType → BaseType → Option Qualifier → Bool → Step
  each_by R st array name rows body n ty base bound f =
      back st (loop P Q c first h R (each_start R c first (lowered_in R c first (fresh st) array).operand.span n (lowered_in R c first (fresh st) array)).operand.span n bound (each_start R c first (lowered_in R c first (fresh st) array).operand.span n (lowered_in R c first (fresh st) array)) (elem_base ty) (λ t. statement R c first (each_state R c first st ty base name bound f rows t) body))

  each_alike : (st r : State) (ts us : List Token) (e : Tree) (name : ℕ) (rows others : List Row) (x y : PlacedStatement) (n : ℕ) (ty base : BaseType) (bound : Option Qualifier) (f : Bool) → bare_state st ≡ bare_state r →
      ((a b : State) → bare_state a ≡ bare_state b → bare_step (statement P c first a x) ≡ bare_step (statement Q c first b y)) →
      bare_step (each_by P st (place ts e) name rows x n ty base bound f) ≡ bare_step (each_by Q r (place us e) name others y n ty base bound f)
  each_alike st r ts us e name rows others x y n ty base bound f k body =
      back_alike st r
      (loop P Q c first h P (each_start P c first (lowered_in P c first (fresh st) (place ts e)).operand.span n (lowered_in P c first (fresh st) (place ts e))).operand.span n bound (each_start P c first (lowered_in P c first (fresh st) (place ts e)).operand.span n (lowered_in P c first (fresh st) (place ts e))) (elem_base ty) (λ t. statement P c first (each_state P c first st ty base name bound f rows t) x))
      (loop P Q c first h Q (each_start Q c first (lowered_in Q c first (fresh r) (place us e)).operand.span n (lowered_in Q c first (fresh r) (place us e))).operand.span n bound (each_start Q c first (lowered_in Q c first (fresh r) (place us e)).operand.span n (lowered_in Q c first (fresh r) (place us e))) (elem_base ty) (λ t. statement Q c first (each_state Q c first r ty base name bound f others t) y))
      k
      (loop_alike (each_start P c first (lowered_in P c first (fresh st) (place ts e)).operand.span n (lowered_in P c first (fresh st) (place ts e))).operand.span (each_start Q c first (lowered_in Q c first (fresh r) (place us e)).operand.span n (lowered_in Q c first (fresh r) (place us e))).operand.span n bound
      (each_start P c first (lowered_in P c first (fresh st) (place ts e)).operand.span n (lowered_in P c first (fresh st) (place ts e))) (each_start Q c first (lowered_in Q c first (fresh r) (place us e)).operand.span n (lowered_in Q c first (fresh r) (place us e))) (elem_base ty)
      (λ t. statement P c first (each_state P c first st ty base name bound f rows t) x) (λ t. statement Q c first (each_state Q c first r ty base name bound f others t) y)
      (start_alike (lowered_in P c first (fresh st) (place ts e)).operand.span (lowered_in Q c first (fresh r) (place us e)).operand.span n (lowered_in P c first (fresh st) (place ts e)) (lowered_in Q c first (fresh r) (place us e)) (value_alike P Q c first h (fresh st) (fresh r) ts us e (ap fresh k)))
      (λ t. body (each_state P c first st ty base name bound f rows t) (each_state Q c first r ty base name bound f others t)
      (declares_alike (reserves (reserves (with_temporaries st t) ty) Int) (reserves (reserves (with_temporaries r t) ty) Int) name base bound f rows others (ap (λ (a : State). reserves (reserves (with_temporaries a t) ty) Int) k))))

  mutual
    pub statement_alike : (st r : State) (ts us : List Token) (x : Statement) → bare_state st ≡ bare_state r → bare_step (statement P c first st (place_statement ts x)) ≡ bare_step (statement Q c first r (place_statement us x))
    statement_alike st r ts us (BlockStatement ss) k = back_alike st r (statements P c first st (place_body (drop 1 ts) ss)) (statements Q c first r (place_body (drop 1 us) ss)) k (statements_alike st r (drop 1 ts) (drop 1 us) ss k)
    statement_alike st r ts us EmptyStatement k = ap no_step k
    statement_alike st r ts us (ExpressionStatement e) k =
        back_alike st r (with_value (fresh st) (lowered_in P c first (fresh st) (place ts e))) (with_value (fresh r) (lowered_in Q c first (fresh r) (place us e))) k
        (value_step (fresh st) (fresh r) (lowered_in P c first (fresh st) (place ts e)) (lowered_in Q c first (fresh r) (place us e)) (ap fresh k) (value_alike P Q c first h (fresh st) (fresh r) ts us e (ap fresh k)))
    statement_alike st r ts us BreakStatement k = ap (λ a. step a (goes no_span)) k
    statement_alike st r ts us ContinueStatement k = ap (λ a. step a (swapped (goes no_span))) k
    statement_alike st r ts us (ReturnStatement e) k =
        back_alike st r (returned P c first (over ts (spell_statement (ReturnStatement e))) (fresh st) (place_optional (drop 1 ts) e)) (returned Q c first (over us (spell_statement (ReturnStatement e))) (fresh r) (place_optional (drop 1 us) e)) k
        (returned_alike P Q c first h (over ts (spell_statement (ReturnStatement e))) (over us (spell_statement (ReturnStatement e))) (fresh st) (fresh r) (drop 1 ts) (drop 1 us) e (ap fresh k))
    statement_alike st r ts us (LocalStatement l) k = keeps_alike st r (declaration P c first (fresh st) (place_local ts l)) (declaration Q c first (fresh r) (place_local us l)) k (declaration_alike P Q c first h (fresh st) (fresh r) ts us l (ap fresh k))
    statement_alike st r ts us (IfStatement q s) k =
        back_alike st r (if_form (tested_in P c first (fresh st) (place (behind ts (If ∷ LeftParen ∷ [])) q)) (statement P c first (with_temporaries st (tested_in P c first (fresh st) (place (behind ts (If ∷ LeftParen ∷ [])) q)).behind) (place_statement (behind (behind ts (If ∷ LeftParen ∷ [])) (spell q ++ RightParen ∷ [])) s))) (if_form (tested_in Q c first (fresh r) (place (behind us (If ∷ LeftParen ∷ [])) q)) (statement Q c first (with_temporaries r (tested_in Q c first (fresh r) (place (behind us (If ∷ LeftParen ∷ [])) q)).behind) (place_statement (behind (behind us (If ∷ LeftParen ∷ [])) (spell q ++ RightParen ∷ [])) s))) k
        (if_alike (tested_in P c first (fresh st) (place (behind ts (If ∷ LeftParen ∷ [])) q)) (tested_in Q c first (fresh r) (place (behind us (If ∷ LeftParen ∷ [])) q)) (statement P c first (with_temporaries st (tested_in P c first (fresh st) (place (behind ts (If ∷ LeftParen ∷ [])) q)).behind) (place_statement (behind (behind ts (If ∷ LeftParen ∷ [])) (spell q ++ RightParen ∷ [])) s)) (statement Q c first (with_temporaries r (tested_in Q c first (fresh r) (place (behind us (If ∷ LeftParen ∷ [])) q)).behind) (place_statement (behind (behind us (If ∷ LeftParen ∷ [])) (spell q ++ RightParen ∷ [])) s)) (test_alike P Q c first h (fresh st) (fresh r) (behind ts (If ∷ LeftParen ∷ [])) (behind us (If ∷ LeftParen ∷ [])) q (ap fresh k)) (statement_alike (with_temporaries st (tested_in P c first (fresh st) (place (behind ts (If ∷ LeftParen ∷ [])) q)).behind) (with_temporaries r (tested_in Q c first (fresh r) (place (behind us (If ∷ LeftParen ∷ [])) q)).behind) (behind (behind ts (If ∷ LeftParen ∷ [])) (spell q ++ RightParen ∷ [])) (behind (behind us (If ∷ LeftParen ∷ [])) (spell q ++ RightParen ∷ [])) s (temps_alike st r (tested_in P c first (fresh st) (place (behind ts (If ∷ LeftParen ∷ [])) q)).behind (tested_in Q c first (fresh r) (place (behind us (If ∷ LeftParen ∷ [])) q)).behind k (ap (λ (x : Condition). x.behind) (test_alike P Q c first h (fresh st) (fresh r) (behind ts (If ∷ LeftParen ∷ [])) (behind us (If ∷ LeftParen ∷ [])) q (ap fresh k))))))
    statement_alike st r ts us (IfElseStatement q s u) k =
        back_alike st r (if_else_form (over ts (spell_statement (IfElseStatement q s u))) (tested_in P c first (fresh st) (place (behind ts (If ∷ LeftParen ∷ [])) q)) (statement P c first (with_temporaries st (tested_in P c first (fresh st) (place (behind ts (If ∷ LeftParen ∷ [])) q)).behind) (place_statement (behind (behind ts (If ∷ LeftParen ∷ [])) (spell q ++ RightParen ∷ [])) s)) (statement P c first (statement P c first (with_temporaries st (tested_in P c first (fresh st) (place (behind ts (If ∷ LeftParen ∷ [])) q)).behind) (place_statement (behind (behind ts (If ∷ LeftParen ∷ [])) (spell q ++ RightParen ∷ [])) s)).behind (place_statement (behind (behind (behind ts (If ∷ LeftParen ∷ [])) (spell q ++ RightParen ∷ [])) (spell_statement s ++ Else ∷ [])) u))) (if_else_form (over us (spell_statement (IfElseStatement q s u))) (tested_in Q c first (fresh r) (place (behind us (If ∷ LeftParen ∷ [])) q)) (statement Q c first (with_temporaries r (tested_in Q c first (fresh r) (place (behind us (If ∷ LeftParen ∷ [])) q)).behind) (place_statement (behind (behind us (If ∷ LeftParen ∷ [])) (spell q ++ RightParen ∷ [])) s)) (statement Q c first (statement Q c first (with_temporaries r (tested_in Q c first (fresh r) (place (behind us (If ∷ LeftParen ∷ [])) q)).behind) (place_statement (behind (behind us (If ∷ LeftParen ∷ [])) (spell q ++ RightParen ∷ [])) s)).behind (place_statement (behind (behind (behind us (If ∷ LeftParen ∷ [])) (spell q ++ RightParen ∷ [])) (spell_statement s ++ Else ∷ [])) u))) k
        (if_else_alike (over ts (spell_statement (IfElseStatement q s u))) (over us (spell_statement (IfElseStatement q s u))) (tested_in P c first (fresh st) (place (behind ts (If ∷ LeftParen ∷ [])) q)) (tested_in Q c first (fresh r) (place (behind us (If ∷ LeftParen ∷ [])) q)) (statement P c first (with_temporaries st (tested_in P c first (fresh st) (place (behind ts (If ∷ LeftParen ∷ [])) q)).behind) (place_statement (behind (behind ts (If ∷ LeftParen ∷ [])) (spell q ++ RightParen ∷ [])) s)) (statement Q c first (with_temporaries r (tested_in Q c first (fresh r) (place (behind us (If ∷ LeftParen ∷ [])) q)).behind) (place_statement (behind (behind us (If ∷ LeftParen ∷ [])) (spell q ++ RightParen ∷ [])) s)) (statement P c first (statement P c first (with_temporaries st (tested_in P c first (fresh st) (place (behind ts (If ∷ LeftParen ∷ [])) q)).behind) (place_statement (behind (behind ts (If ∷ LeftParen ∷ [])) (spell q ++ RightParen ∷ [])) s)).behind (place_statement (behind (behind (behind ts (If ∷ LeftParen ∷ [])) (spell q ++ RightParen ∷ [])) (spell_statement s ++ Else ∷ [])) u)) (statement Q c first (statement Q c first (with_temporaries r (tested_in Q c first (fresh r) (place (behind us (If ∷ LeftParen ∷ [])) q)).behind) (place_statement (behind (behind us (If ∷ LeftParen ∷ [])) (spell q ++ RightParen ∷ [])) s)).behind (place_statement (behind (behind (behind us (If ∷ LeftParen ∷ [])) (spell q ++ RightParen ∷ [])) (spell_statement s ++ Else ∷ [])) u)) (test_alike P Q c first h (fresh st) (fresh r) (behind ts (If ∷ LeftParen ∷ [])) (behind us (If ∷ LeftParen ∷ [])) q (ap fresh k)) (statement_alike (with_temporaries st (tested_in P c first (fresh st) (place (behind ts (If ∷ LeftParen ∷ [])) q)).behind) (with_temporaries r (tested_in Q c first (fresh r) (place (behind us (If ∷ LeftParen ∷ [])) q)).behind) (behind (behind ts (If ∷ LeftParen ∷ [])) (spell q ++ RightParen ∷ [])) (behind (behind us (If ∷ LeftParen ∷ [])) (spell q ++ RightParen ∷ [])) s (temps_alike st r (tested_in P c first (fresh st) (place (behind ts (If ∷ LeftParen ∷ [])) q)).behind (tested_in Q c first (fresh r) (place (behind us (If ∷ LeftParen ∷ [])) q)).behind k (ap (λ (x : Condition). x.behind) (test_alike P Q c first h (fresh st) (fresh r) (behind ts (If ∷ LeftParen ∷ [])) (behind us (If ∷ LeftParen ∷ [])) q (ap fresh k)))))
        (statement_alike (statement P c first (with_temporaries st (tested_in P c first (fresh st) (place (behind ts (If ∷ LeftParen ∷ [])) q)).behind) (place_statement (behind (behind ts (If ∷ LeftParen ∷ [])) (spell q ++ RightParen ∷ [])) s)).behind (statement Q c first (with_temporaries r (tested_in Q c first (fresh r) (place (behind us (If ∷ LeftParen ∷ [])) q)).behind) (place_statement (behind (behind us (If ∷ LeftParen ∷ [])) (spell q ++ RightParen ∷ [])) s)).behind (behind (behind (behind ts (If ∷ LeftParen ∷ [])) (spell q ++ RightParen ∷ [])) (spell_statement s ++ Else ∷ [])) (behind (behind (behind us (If ∷ LeftParen ∷ [])) (spell q ++ RightParen ∷ [])) (spell_statement s ++ Else ∷ [])) u (ap (λ (x : Step). x.behind) (statement_alike (with_temporaries st (tested_in P c first (fresh st) (place (behind ts (If ∷ LeftParen ∷ [])) q)).behind) (with_temporaries r (tested_in Q c first (fresh r) (place (behind us (If ∷ LeftParen ∷ [])) q)).behind) (behind (behind ts (If ∷ LeftParen ∷ [])) (spell q ++ RightParen ∷ [])) (behind (behind us (If ∷ LeftParen ∷ [])) (spell q ++ RightParen ∷ [])) s (temps_alike st r (tested_in P c first (fresh st) (place (behind ts (If ∷ LeftParen ∷ [])) q)).behind (tested_in Q c first (fresh r) (place (behind us (If ∷ LeftParen ∷ [])) q)).behind k (ap (λ (x : Condition). x.behind) (test_alike P Q c first h (fresh st) (fresh r) (behind ts (If ∷ LeftParen ∷ [])) (behind us (If ∷ LeftParen ∷ [])) q (ap fresh k))))))))
    statement_alike st r ts us (WhileStatement q s) k =
        back_alike st r (while_form (over ts (spell_statement (WhileStatement q s))) (tested_in P c first (fresh st) (place (behind ts (While ∷ LeftParen ∷ [])) q)) (statement P c first (with_temporaries st (tested_in P c first (fresh st) (place (behind ts (While ∷ LeftParen ∷ [])) q)).behind) (place_statement (behind (behind ts (While ∷ LeftParen ∷ [])) (spell q ++ RightParen ∷ [])) s))) (while_form (over us (spell_statement (WhileStatement q s))) (tested_in Q c first (fresh r) (place (behind us (While ∷ LeftParen ∷ [])) q)) (statement Q c first (with_temporaries r (tested_in Q c first (fresh r) (place (behind us (While ∷ LeftParen ∷ [])) q)).behind) (place_statement (behind (behind us (While ∷ LeftParen ∷ [])) (spell q ++ RightParen ∷ [])) s))) k
        (while_alike (over ts (spell_statement (WhileStatement q s))) (over us (spell_statement (WhileStatement q s))) (tested_in P c first (fresh st) (place (behind ts (While ∷ LeftParen ∷ [])) q)) (tested_in Q c first (fresh r) (place (behind us (While ∷ LeftParen ∷ [])) q)) (statement P c first (with_temporaries st (tested_in P c first (fresh st) (place (behind ts (While ∷ LeftParen ∷ [])) q)).behind) (place_statement (behind (behind ts (While ∷ LeftParen ∷ [])) (spell q ++ RightParen ∷ [])) s)) (statement Q c first (with_temporaries r (tested_in Q c first (fresh r) (place (behind us (While ∷ LeftParen ∷ [])) q)).behind) (place_statement (behind (behind us (While ∷ LeftParen ∷ [])) (spell q ++ RightParen ∷ [])) s)) (test_alike P Q c first h (fresh st) (fresh r) (behind ts (While ∷ LeftParen ∷ [])) (behind us (While ∷ LeftParen ∷ [])) q (ap fresh k)) (statement_alike (with_temporaries st (tested_in P c first (fresh st) (place (behind ts (While ∷ LeftParen ∷ [])) q)).behind) (with_temporaries r (tested_in Q c first (fresh r) (place (behind us (While ∷ LeftParen ∷ [])) q)).behind) (behind (behind ts (While ∷ LeftParen ∷ [])) (spell q ++ RightParen ∷ [])) (behind (behind us (While ∷ LeftParen ∷ [])) (spell q ++ RightParen ∷ [])) s (temps_alike st r (tested_in P c first (fresh st) (place (behind ts (While ∷ LeftParen ∷ [])) q)).behind (tested_in Q c first (fresh r) (place (behind us (While ∷ LeftParen ∷ [])) q)).behind k (ap (λ (x : Condition). x.behind) (test_alike P Q c first h (fresh st) (fresh r) (behind ts (While ∷ LeftParen ∷ [])) (behind us (While ∷ LeftParen ∷ [])) q (ap fresh k))))))
    statement_alike st r ts us (DoStatement s q) k =
        back_alike st r (do_form (statement P c first (fresh st) (place_statement (drop 1 ts) s)) (tested_in P c first (statement P c first (fresh st) (place_statement (drop 1 ts) s)).behind (place (behind ts (Do ∷ (spell_statement s ++ While ∷ LeftParen ∷ []))) q))) (do_form (statement Q c first (fresh r) (place_statement (drop 1 us) s)) (tested_in Q c first (statement Q c first (fresh r) (place_statement (drop 1 us) s)).behind (place (behind us (Do ∷ (spell_statement s ++ While ∷ LeftParen ∷ []))) q))) k
        (do_alike (tested_in P c first (statement P c first (fresh st) (place_statement (drop 1 ts) s)).behind (place (behind ts (Do ∷ (spell_statement s ++ While ∷ LeftParen ∷ []))) q)) (tested_in Q c first (statement Q c first (fresh r) (place_statement (drop 1 us) s)).behind (place (behind us (Do ∷ (spell_statement s ++ While ∷ LeftParen ∷ []))) q)) (statement P c first (fresh st) (place_statement (drop 1 ts) s)) (statement Q c first (fresh r) (place_statement (drop 1 us) s))
        (statement_alike (fresh st) (fresh r) (drop 1 ts) (drop 1 us) s (ap fresh k))
        (test_alike P Q c first h (statement P c first (fresh st) (place_statement (drop 1 ts) s)).behind (statement Q c first (fresh r) (place_statement (drop 1 us) s)).behind (behind ts (Do ∷ (spell_statement s ++ While ∷ LeftParen ∷ []))) (behind us (Do ∷ (spell_statement s ++ While ∷ LeftParen ∷ []))) q (ap (λ (x : Step). x.behind) (statement_alike (fresh st) (fresh r) (drop 1 ts) (drop 1 us) s (ap fresh k)))))
    statement_alike st r ts us (ForStatement i q es s) k =
        back_alike st r (for_form (over ts (spell_statement (ForStatement i q es s))) (init P c first (fresh st) (place_init (behind ts (For ∷ LeftParen ∷ [])) i)) (optional_test P c first (init P c first (fresh st) (place_init (behind ts (For ∷ LeftParen ∷ [])) i)).behind (place_optional (behind (behind ts (For ∷ LeftParen ∷ [])) (spell_init i)) q)) (statement P c first (with_temporaries (init P c first (fresh st) (place_init (behind ts (For ∷ LeftParen ∷ [])) i)).behind (optional_test P c first (init P c first (fresh st) (place_init (behind ts (For ∷ LeftParen ∷ [])) i)).behind (place_optional (behind (behind ts (For ∷ LeftParen ∷ [])) (spell_init i)) q)).behind) (place_statement (behind (behind (behind (behind ts (For ∷ LeftParen ∷ [])) (spell_init i)) (spell_optional q ++ Semicolon ∷ [])) (spell_list RightParen es)) s)) (effects P c first (statement P c first (with_temporaries (init P c first (fresh st) (place_init (behind ts (For ∷ LeftParen ∷ [])) i)).behind (optional_test P c first (init P c first (fresh st) (place_init (behind ts (For ∷ LeftParen ∷ [])) i)).behind (place_optional (behind (behind ts (For ∷ LeftParen ∷ [])) (spell_init i)) q)).behind) (place_statement (behind (behind (behind (behind ts (For ∷ LeftParen ∷ [])) (spell_init i)) (spell_optional q ++ Semicolon ∷ [])) (spell_list RightParen es)) s)).behind (place_list (behind (behind (behind ts (For ∷ LeftParen ∷ [])) (spell_init i)) (spell_optional q ++ Semicolon ∷ [])) es))) (for_form (over us (spell_statement (ForStatement i q es s))) (init Q c first (fresh r) (place_init (behind us (For ∷ LeftParen ∷ [])) i)) (optional_test Q c first (init Q c first (fresh r) (place_init (behind us (For ∷ LeftParen ∷ [])) i)).behind (place_optional (behind (behind us (For ∷ LeftParen ∷ [])) (spell_init i)) q)) (statement Q c first (with_temporaries (init Q c first (fresh r) (place_init (behind us (For ∷ LeftParen ∷ [])) i)).behind (optional_test Q c first (init Q c first (fresh r) (place_init (behind us (For ∷ LeftParen ∷ [])) i)).behind (place_optional (behind (behind us (For ∷ LeftParen ∷ [])) (spell_init i)) q)).behind) (place_statement (behind (behind (behind (behind us (For ∷ LeftParen ∷ [])) (spell_init i)) (spell_optional q ++ Semicolon ∷ [])) (spell_list RightParen es)) s)) (effects Q c first (statement Q c first (with_temporaries (init Q c first (fresh r) (place_init (behind us (For ∷ LeftParen ∷ [])) i)).behind (optional_test Q c first (init Q c first (fresh r) (place_init (behind us (For ∷ LeftParen ∷ [])) i)).behind (place_optional (behind (behind us (For ∷ LeftParen ∷ [])) (spell_init i)) q)).behind) (place_statement (behind (behind (behind (behind us (For ∷ LeftParen ∷ [])) (spell_init i)) (spell_optional q ++ Semicolon ∷ [])) (spell_list RightParen es)) s)).behind (place_list (behind (behind (behind us (For ∷ LeftParen ∷ [])) (spell_init i)) (spell_optional q ++ Semicolon ∷ [])) es))) k
        (for_alike (over ts (spell_statement (ForStatement i q es s))) (over us (spell_statement (ForStatement i q es s))) (init P c first (fresh st) (place_init (behind ts (For ∷ LeftParen ∷ [])) i)) (init Q c first (fresh r) (place_init (behind us (For ∷ LeftParen ∷ [])) i)) (optional_test P c first (init P c first (fresh st) (place_init (behind ts (For ∷ LeftParen ∷ [])) i)).behind (place_optional (behind (behind ts (For ∷ LeftParen ∷ [])) (spell_init i)) q)) (optional_test Q c first (init Q c first (fresh r) (place_init (behind us (For ∷ LeftParen ∷ [])) i)).behind (place_optional (behind (behind us (For ∷ LeftParen ∷ [])) (spell_init i)) q)) (statement P c first (with_temporaries (init P c first (fresh st) (place_init (behind ts (For ∷ LeftParen ∷ [])) i)).behind (optional_test P c first (init P c first (fresh st) (place_init (behind ts (For ∷ LeftParen ∷ [])) i)).behind (place_optional (behind (behind ts (For ∷ LeftParen ∷ [])) (spell_init i)) q)).behind) (place_statement (behind (behind (behind (behind ts (For ∷ LeftParen ∷ [])) (spell_init i)) (spell_optional q ++ Semicolon ∷ [])) (spell_list RightParen es)) s)) (statement Q c first (with_temporaries (init Q c first (fresh r) (place_init (behind us (For ∷ LeftParen ∷ [])) i)).behind (optional_test Q c first (init Q c first (fresh r) (place_init (behind us (For ∷ LeftParen ∷ [])) i)).behind (place_optional (behind (behind us (For ∷ LeftParen ∷ [])) (spell_init i)) q)).behind) (place_statement (behind (behind (behind (behind us (For ∷ LeftParen ∷ [])) (spell_init i)) (spell_optional q ++ Semicolon ∷ [])) (spell_list RightParen es)) s)) (effects P c first (statement P c first (with_temporaries (init P c first (fresh st) (place_init (behind ts (For ∷ LeftParen ∷ [])) i)).behind (optional_test P c first (init P c first (fresh st) (place_init (behind ts (For ∷ LeftParen ∷ [])) i)).behind (place_optional (behind (behind ts (For ∷ LeftParen ∷ [])) (spell_init i)) q)).behind) (place_statement (behind (behind (behind (behind ts (For ∷ LeftParen ∷ [])) (spell_init i)) (spell_optional q ++ Semicolon ∷ [])) (spell_list RightParen es)) s)).behind (place_list (behind (behind (behind ts (For ∷ LeftParen ∷ [])) (spell_init i)) (spell_optional q ++ Semicolon ∷ [])) es)) (effects Q c first (statement Q c first (with_temporaries (init Q c first (fresh r) (place_init (behind us (For ∷ LeftParen ∷ [])) i)).behind (optional_test Q c first (init Q c first (fresh r) (place_init (behind us (For ∷ LeftParen ∷ [])) i)).behind (place_optional (behind (behind us (For ∷ LeftParen ∷ [])) (spell_init i)) q)).behind) (place_statement (behind (behind (behind (behind us (For ∷ LeftParen ∷ [])) (spell_init i)) (spell_optional q ++ Semicolon ∷ [])) (spell_list RightParen es)) s)).behind (place_list (behind (behind (behind us (For ∷ LeftParen ∷ [])) (spell_init i)) (spell_optional q ++ Semicolon ∷ [])) es))
        (init_alike P Q c first h (fresh st) (fresh r) (behind ts (For ∷ LeftParen ∷ [])) (behind us (For ∷ LeftParen ∷ [])) i (ap fresh k)) (optional_alike P Q c first h (init P c first (fresh st) (place_init (behind ts (For ∷ LeftParen ∷ [])) i)).behind (init Q c first (fresh r) (place_init (behind us (For ∷ LeftParen ∷ [])) i)).behind (behind (behind ts (For ∷ LeftParen ∷ [])) (spell_init i)) (behind (behind us (For ∷ LeftParen ∷ [])) (spell_init i)) q (ap (λ (x : Step). x.behind) (init_alike P Q c first h (fresh st) (fresh r) (behind ts (For ∷ LeftParen ∷ [])) (behind us (For ∷ LeftParen ∷ [])) i (ap fresh k)))) (statement_alike (with_temporaries (init P c first (fresh st) (place_init (behind ts (For ∷ LeftParen ∷ [])) i)).behind (optional_test P c first (init P c first (fresh st) (place_init (behind ts (For ∷ LeftParen ∷ [])) i)).behind (place_optional (behind (behind ts (For ∷ LeftParen ∷ [])) (spell_init i)) q)).behind) (with_temporaries (init Q c first (fresh r) (place_init (behind us (For ∷ LeftParen ∷ [])) i)).behind (optional_test Q c first (init Q c first (fresh r) (place_init (behind us (For ∷ LeftParen ∷ [])) i)).behind (place_optional (behind (behind us (For ∷ LeftParen ∷ [])) (spell_init i)) q)).behind) (behind (behind (behind (behind ts (For ∷ LeftParen ∷ [])) (spell_init i)) (spell_optional q ++ Semicolon ∷ [])) (spell_list RightParen es)) (behind (behind (behind (behind us (For ∷ LeftParen ∷ [])) (spell_init i)) (spell_optional q ++ Semicolon ∷ [])) (spell_list RightParen es)) s (temps_alike (init P c first (fresh st) (place_init (behind ts (For ∷ LeftParen ∷ [])) i)).behind (init Q c first (fresh r) (place_init (behind us (For ∷ LeftParen ∷ [])) i)).behind (optional_test P c first (init P c first (fresh st) (place_init (behind ts (For ∷ LeftParen ∷ [])) i)).behind (place_optional (behind (behind ts (For ∷ LeftParen ∷ [])) (spell_init i)) q)).behind (optional_test Q c first (init Q c first (fresh r) (place_init (behind us (For ∷ LeftParen ∷ [])) i)).behind (place_optional (behind (behind us (For ∷ LeftParen ∷ [])) (spell_init i)) q)).behind (ap (λ (x : Step). x.behind) (init_alike P Q c first h (fresh st) (fresh r) (behind ts (For ∷ LeftParen ∷ [])) (behind us (For ∷ LeftParen ∷ [])) i (ap fresh k))) (ap (λ (x : Condition). x.behind) (optional_alike P Q c first h (init P c first (fresh st) (place_init (behind ts (For ∷ LeftParen ∷ [])) i)).behind (init Q c first (fresh r) (place_init (behind us (For ∷ LeftParen ∷ [])) i)).behind (behind (behind ts (For ∷ LeftParen ∷ [])) (spell_init i)) (behind (behind us (For ∷ LeftParen ∷ [])) (spell_init i)) q (ap (λ (x : Step). x.behind) (init_alike P Q c first h (fresh st) (fresh r) (behind ts (For ∷ LeftParen ∷ [])) (behind us (For ∷ LeftParen ∷ [])) i (ap fresh k)))))))
        (effects_alike P Q c first h (statement P c first (with_temporaries (init P c first (fresh st) (place_init (behind ts (For ∷ LeftParen ∷ [])) i)).behind (optional_test P c first (init P c first (fresh st) (place_init (behind ts (For ∷ LeftParen ∷ [])) i)).behind (place_optional (behind (behind ts (For ∷ LeftParen ∷ [])) (spell_init i)) q)).behind) (place_statement (behind (behind (behind (behind ts (For ∷ LeftParen ∷ [])) (spell_init i)) (spell_optional q ++ Semicolon ∷ [])) (spell_list RightParen es)) s)).behind (statement Q c first (with_temporaries (init Q c first (fresh r) (place_init (behind us (For ∷ LeftParen ∷ [])) i)).behind (optional_test Q c first (init Q c first (fresh r) (place_init (behind us (For ∷ LeftParen ∷ [])) i)).behind (place_optional (behind (behind us (For ∷ LeftParen ∷ [])) (spell_init i)) q)).behind) (place_statement (behind (behind (behind (behind us (For ∷ LeftParen ∷ [])) (spell_init i)) (spell_optional q ++ Semicolon ∷ [])) (spell_list RightParen es)) s)).behind (behind (behind (behind ts (For ∷ LeftParen ∷ [])) (spell_init i)) (spell_optional q ++ Semicolon ∷ [])) (behind (behind (behind us (For ∷ LeftParen ∷ [])) (spell_init i)) (spell_optional q ++ Semicolon ∷ [])) es (ap (λ (x : Step). x.behind) (statement_alike (with_temporaries (init P c first (fresh st) (place_init (behind ts (For ∷ LeftParen ∷ [])) i)).behind (optional_test P c first (init P c first (fresh st) (place_init (behind ts (For ∷ LeftParen ∷ [])) i)).behind (place_optional (behind (behind ts (For ∷ LeftParen ∷ [])) (spell_init i)) q)).behind) (with_temporaries (init Q c first (fresh r) (place_init (behind us (For ∷ LeftParen ∷ [])) i)).behind (optional_test Q c first (init Q c first (fresh r) (place_init (behind us (For ∷ LeftParen ∷ [])) i)).behind (place_optional (behind (behind us (For ∷ LeftParen ∷ [])) (spell_init i)) q)).behind) (behind (behind (behind (behind ts (For ∷ LeftParen ∷ [])) (spell_init i)) (spell_optional q ++ Semicolon ∷ [])) (spell_list RightParen es)) (behind (behind (behind (behind us (For ∷ LeftParen ∷ [])) (spell_init i)) (spell_optional q ++ Semicolon ∷ [])) (spell_list RightParen es)) s (temps_alike (init P c first (fresh st) (place_init (behind ts (For ∷ LeftParen ∷ [])) i)).behind (init Q c first (fresh r) (place_init (behind us (For ∷ LeftParen ∷ [])) i)).behind (optional_test P c first (init P c first (fresh st) (place_init (behind ts (For ∷ LeftParen ∷ [])) i)).behind (place_optional (behind (behind ts (For ∷ LeftParen ∷ [])) (spell_init i)) q)).behind (optional_test Q c first (init Q c first (fresh r) (place_init (behind us (For ∷ LeftParen ∷ [])) i)).behind (place_optional (behind (behind us (For ∷ LeftParen ∷ [])) (spell_init i)) q)).behind (ap (λ (x : Step). x.behind) (init_alike P Q c first h (fresh st) (fresh r) (behind ts (For ∷ LeftParen ∷ [])) (behind us (For ∷ LeftParen ∷ [])) i (ap fresh k))) (ap (λ (x : Condition). x.behind) (optional_alike P Q c first h (init P c first (fresh st) (place_init (behind ts (For ∷ LeftParen ∷ [])) i)).behind (init Q c first (fresh r) (place_init (behind us (For ∷ LeftParen ∷ [])) i)).behind (behind (behind ts (For ∷ LeftParen ∷ [])) (spell_init i)) (behind (behind us (For ∷ LeftParen ∷ [])) (spell_init i)) q (ap (λ (x : Step). x.behind) (init_alike P Q c first h (fresh st) (fresh r) (behind ts (For ∷ LeftParen ∷ [])) (behind us (For ∷ LeftParen ∷ [])) i (ap fresh k))))))))))
    statement_alike st r ts us (ForEachStatement ms u n e s) k =
        each_alike st r (behind (behind (behind (behind ts (For ∷ LeftParen ∷ [])) (spell_marks ms)) (spell_type_use u)) (Id n ∷ Colon ∷ [])) (behind (behind (behind (behind us (For ∷ LeftParen ∷ [])) (spell_marks ms)) (spell_type_use u)) (Id n ∷ Colon ∷ [])) e n.0 (base_rows P (place_type_use (behind (behind ts (For ∷ LeftParen ∷ [])) (spell_marks ms)) u).base) (base_rows Q (place_type_use (behind (behind us (For ∷ LeftParen ∷ [])) (spell_marks ms)) u).base) (place_statement (behind (behind (behind (behind (behind ts (For ∷ LeftParen ∷ [])) (spell_marks ms)) (spell_type_use u)) (Id n ∷ Colon ∷ [])) (spell e ++ RightParen ∷ [])) s) (place_statement (behind (behind (behind (behind (behind us (For ∷ LeftParen ∷ [])) (spell_marks ms)) (spell_type_use u)) (Id n ∷ Colon ∷ [])) (spell e ++ RightParen ∷ [])) s) (length st.locals) (type_of P c st.scope (place (behind (behind (behind (behind ts (For ∷ LeftParen ∷ [])) (spell_marks ms)) (spell_type_use u)) (Id n ∷ Colon ∷ [])) e)) (local_type P c first (place_local_marks (behind ts (For ∷ LeftParen ∷ [])) ms) (place_type_use (behind (behind ts (For ∷ LeftParen ∷ [])) (spell_marks ms)) u)) (local_bound P c first (place_local_marks (behind ts (For ∷ LeftParen ∷ [])) ms) (place_type_use (behind (behind ts (For ∷ LeftParen ∷ [])) (spell_marks ms)) u)) (has_final (place_local_marks (behind ts (For ∷ LeftParen ∷ [])) ms)) k
        (λ a b g. statement_alike a b (behind (behind (behind (behind (behind ts (For ∷ LeftParen ∷ [])) (spell_marks ms)) (spell_type_use u)) (Id n ∷ Colon ∷ [])) (spell e ++ RightParen ∷ [])) (behind (behind (behind (behind (behind us (For ∷ LeftParen ∷ [])) (spell_marks ms)) (spell_type_use u)) (Id n ∷ Colon ∷ [])) (spell e ++ RightParen ∷ [])) s g)
        ∙ ap (λ z. bare_step (each_by Q r (place (behind (behind (behind (behind us (For ∷ LeftParen ∷ [])) (spell_marks ms)) (spell_type_use u)) (Id n ∷ Colon ∷ [])) e) n.0 (base_rows Q (place_type_use (behind (behind us (For ∷ LeftParen ∷ [])) (spell_marks ms)) u).base) (place_statement (behind (behind (behind (behind (behind us (For ∷ LeftParen ∷ [])) (spell_marks ms)) (spell_type_use u)) (Id n ∷ Colon ∷ [])) (spell e ++ RightParen ∷ [])) s) z (type_of P c st.scope (place (behind (behind (behind (behind ts (For ∷ LeftParen ∷ [])) (spell_marks ms)) (spell_type_use u)) (Id n ∷ Colon ∷ [])) e)) (local_type P c first (place_local_marks (behind ts (For ∷ LeftParen ∷ [])) ms) (place_type_use (behind (behind ts (For ∷ LeftParen ∷ [])) (spell_marks ms)) u)) (local_bound P c first (place_local_marks (behind ts (For ∷ LeftParen ∷ [])) ms) (place_type_use (behind (behind ts (For ∷ LeftParen ∷ [])) (spell_marks ms)) u)) (has_final (place_local_marks (behind ts (For ∷ LeftParen ∷ [])) ms)))) (ap (λ (x : State). length x.locals) k)
        ∙ ap (λ z. bare_step (each_by Q r (place (behind (behind (behind (behind us (For ∷ LeftParen ∷ [])) (spell_marks ms)) (spell_type_use u)) (Id n ∷ Colon ∷ [])) e) n.0 (base_rows Q (place_type_use (behind (behind us (For ∷ LeftParen ∷ [])) (spell_marks ms)) u).base) (place_statement (behind (behind (behind (behind (behind us (For ∷ LeftParen ∷ [])) (spell_marks ms)) (spell_type_use u)) (Id n ∷ Colon ∷ [])) (spell e ++ RightParen ∷ [])) s) (length r.locals) z (local_type P c first (place_local_marks (behind ts (For ∷ LeftParen ∷ [])) ms) (place_type_use (behind (behind ts (For ∷ LeftParen ∷ [])) (spell_marks ms)) u)) (local_bound P c first (place_local_marks (behind ts (For ∷ LeftParen ∷ [])) ms) (place_type_use (behind (behind ts (For ∷ LeftParen ∷ [])) (spell_marks ms)) u)) (has_final (place_local_marks (behind ts (For ∷ LeftParen ∷ [])) ms)))) (type_alike P Q c first h st.scope r.scope (place (behind (behind (behind (behind ts (For ∷ LeftParen ∷ [])) (spell_marks ms)) (spell_type_use u)) (Id n ∷ Colon ∷ [])) e) (place (behind (behind (behind (behind us (For ∷ LeftParen ∷ [])) (spell_marks ms)) (spell_type_use u)) (Id n ∷ Colon ∷ [])) e) (ap (λ (x : State). x.scope) k) (placed (behind (behind (behind (behind ts (For ∷ LeftParen ∷ [])) (spell_marks ms)) (spell_type_use u)) (Id n ∷ Colon ∷ [])) (behind (behind (behind (behind us (For ∷ LeftParen ∷ [])) (spell_marks ms)) (spell_type_use u)) (Id n ∷ Colon ∷ [])) e))
        ∙ ap (λ z. bare_step (each_by Q r (place (behind (behind (behind (behind us (For ∷ LeftParen ∷ [])) (spell_marks ms)) (spell_type_use u)) (Id n ∷ Colon ∷ [])) e) n.0 (base_rows Q (place_type_use (behind (behind us (For ∷ LeftParen ∷ [])) (spell_marks ms)) u).base) (place_statement (behind (behind (behind (behind (behind us (For ∷ LeftParen ∷ [])) (spell_marks ms)) (spell_type_use u)) (Id n ∷ Colon ∷ [])) (spell e ++ RightParen ∷ [])) s) (length r.locals) (type_of Q c r.scope (place (behind (behind (behind (behind us (For ∷ LeftParen ∷ [])) (spell_marks ms)) (spell_type_use u)) (Id n ∷ Colon ∷ [])) e)) z (local_bound P c first (place_local_marks (behind ts (For ∷ LeftParen ∷ [])) ms) (place_type_use (behind (behind ts (For ∷ LeftParen ∷ [])) (spell_marks ms)) u)) (has_final (place_local_marks (behind ts (For ∷ LeftParen ∷ [])) ms)))) (local_type_alike P Q c first h (behind ts (For ∷ LeftParen ∷ [])) (behind us (For ∷ LeftParen ∷ [])) (behind (behind ts (For ∷ LeftParen ∷ [])) (spell_marks ms)) (behind (behind us (For ∷ LeftParen ∷ [])) (spell_marks ms)) ms u)
        ∙ ap (λ z. bare_step (each_by Q r (place (behind (behind (behind (behind us (For ∷ LeftParen ∷ [])) (spell_marks ms)) (spell_type_use u)) (Id n ∷ Colon ∷ [])) e) n.0 (base_rows Q (place_type_use (behind (behind us (For ∷ LeftParen ∷ [])) (spell_marks ms)) u).base) (place_statement (behind (behind (behind (behind (behind us (For ∷ LeftParen ∷ [])) (spell_marks ms)) (spell_type_use u)) (Id n ∷ Colon ∷ [])) (spell e ++ RightParen ∷ [])) s) (length r.locals) (type_of Q c r.scope (place (behind (behind (behind (behind us (For ∷ LeftParen ∷ [])) (spell_marks ms)) (spell_type_use u)) (Id n ∷ Colon ∷ [])) e)) (local_type Q c first (place_local_marks (behind us (For ∷ LeftParen ∷ [])) ms) (place_type_use (behind (behind us (For ∷ LeftParen ∷ [])) (spell_marks ms)) u)) z (has_final (place_local_marks (behind ts (For ∷ LeftParen ∷ [])) ms)))) (own_same (behind ts (For ∷ LeftParen ∷ [])) (behind us (For ∷ LeftParen ∷ [])) (drop 1 (behind (behind ts (For ∷ LeftParen ∷ [])) (spell_marks ms))) (drop 1 (behind (behind us (For ∷ LeftParen ∷ [])) (spell_marks ms))) ms u.array)
        ∙ ap (λ z. bare_step (each_by Q r (place (behind (behind (behind (behind us (For ∷ LeftParen ∷ [])) (spell_marks ms)) (spell_type_use u)) (Id n ∷ Colon ∷ [])) e) n.0 (base_rows Q (place_type_use (behind (behind us (For ∷ LeftParen ∷ [])) (spell_marks ms)) u).base) (place_statement (behind (behind (behind (behind (behind us (For ∷ LeftParen ∷ [])) (spell_marks ms)) (spell_type_use u)) (Id n ∷ Colon ∷ [])) (spell e ++ RightParen ∷ [])) s) (length r.locals) (type_of Q c r.scope (place (behind (behind (behind (behind us (For ∷ LeftParen ∷ [])) (spell_marks ms)) (spell_type_use u)) (Id n ∷ Colon ∷ [])) e)) (local_type Q c first (place_local_marks (behind us (For ∷ LeftParen ∷ [])) ms) (place_type_use (behind (behind us (For ∷ LeftParen ∷ [])) (spell_marks ms)) u)) (local_bound Q c first (place_local_marks (behind us (For ∷ LeftParen ∷ [])) ms) (place_type_use (behind (behind us (For ∷ LeftParen ∷ [])) (spell_marks ms)) u)) z)) (final_same (behind ts (For ∷ LeftParen ∷ [])) (behind us (For ∷ LeftParen ∷ [])) ms)
    statement_alike st r ts us (ThisCallStatement es) k = ap no_step k
    statement_alike st r ts us (SuperCallStatement es) k = ap no_step k

    pub statements_alike : (st r : State) (ts us : List Token) (xs : Statements) → bare_state st ≡ bare_state r → bare_step (statements P c first st (place_body ts xs)) ≡ bare_step (statements Q c first r (place_body us xs))
    statements_alike st r ts us NoStatements k = ap no_step k
    statements_alike st r ts us (MoreStatements x xs) k =
        both_alike (statement P c first st (place_statement ts x)) (statements P c first (statement P c first st (place_statement ts x)).behind (place_body (behind ts (spell_statement x)) xs))
        (statement Q c first r (place_statement us x)) (statements Q c first (statement Q c first r (place_statement us x)).behind (place_body (behind us (spell_statement x)) xs))
        (statement_alike st r ts us x k)
        (statements_alike (statement P c first st (place_statement ts x)).behind (statement Q c first r (place_statement us x)).behind (behind ts (spell_statement x)) (behind us (spell_statement x)) xs (ap (λ (z : Step). z.behind) (statement_alike st r ts us x k)))
