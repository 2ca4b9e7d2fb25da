-- Expressions without places are lowered to points without places.
use Rattle.std.proofs.Common.{◌≡◌, ℕ, Bool, true, false, cond, ◌&&◌, ◌||◌, Option, refl, sym, ap, ◌∙◌}
use Rattle.std.proofs.Math.Path.{fun_ext}
use Rattle.jn_base.specs.declared.place.Span.{Span}
use Rattle.jn_trees.specs.declared.expression.UnaryOperator.{UnaryOperator}
use Rattle.jn_trees.specs.declared.expression.UnaryOperator.TheVariants.{Plus, Minus, Not}
use Rattle.jn_trees.specs.declared.expression.BinaryOperator.{BinaryOperator}
use Rattle.jn_trees.specs.declared.expression.BinaryOperator.TheVariants.{Multiply, Divide, Remainder, Add, Subtract, Less, Greater, LessEqual, GreaterEqual, Equal, NotEqual, And, Or}
use Rattle.jn_trees.specs.declared.expression.AssignOperator.{AssignOperator}
use Rattle.jn_trees.specs.declared.expression.Step.{Step}
use Rattle.jn_points.specs.declared.point.BaseType.{BaseType}
use Rattle.jn_points.specs.declared.point.BaseType.TheVariants.{Int}
use Rattle.jn_points.specs.declared.point.Origin.{Origin}
use Rattle.jn_points.specs.declared.point.PointKind.TheVariants.{Const, Unary, Cast, NewArray, ArrayOf}
use Rattle.jn_points.specs.declared.program.Program.{Program}
use Rattle.jn_points.specs.Lookup.{elem_base}
use Rattle.jn_points.specs.Members.{method_of, constructor_of}
use Rattle.jn_places.specs.Placed.{PlacedTree, PlacedTrees, NoPlacedTrees, MorePlacedTrees, PlacedLiteral, PlacedName, PlacedThis, PlacedParen, PlacedField, PlacedCall, PlacedOwnCall, PlacedSuperCall, PlacedIndex, PlacedNew, PlacedNewArray, PlacedArrayOf, PlacedPostfix, PlacedPrefix, PlacedUnary, PlacedCast, PlacedBinary, PlacedInstanceOf, PlacedConditional, PlacedAssign}
use Rattle.jn_lowering.specs.Fragments.{Fragment, nothing, then}
use Rattle.jn_lowering.specs.Temporaries.{Temporaries, take_one}
use Rattle.jn_lowering.specs.Scopes.{Scope, Callee, or_zero, count, class_named, meaning, access, callee, super_method}
use Rattle.jn_lowering.specs.Bases.{array_type, compound_of, is_simple, literal_type, operator_of, ref, type_of, wider, is_equality}
use Rattle.jn_lowering.specs.Forms.{Value, Condition, Spot, ElementSpot, Located, Lowered, as_condition, as_place, as_value, combined, constant, gives, kept, no_place, none_later, read_of}
use Rattle.jn_lowering.specs.Calls.{Operands, access_place, and_also, or_else, chosen, class_no, compound, created, dotted_call, instance_tested, literal_condition, name_spot, negated, null_tested, old_value, own_call, postfixed, prefixed, simply_assigned, super_call, this_operand, with_operand}
use Rattle.jn_lowering.specs.Expressions.{is_null, span_of, assigns, assigns_any, origin_of, element, calculated, on_null, binary, unary, assignment, lower, operands}
use Rattle.jn_places_law.specs.Bare.{bare, Alike, bare_operand, no_span}
use Rattle.jn_places_law.proofs.Lookups.{method_of_is}
use Rattle.jn_places_law.specs.Erased.{bare_tree, bare_trees, bare_scope, bare_fragment, bare_value, bare_condition, bare_spot, bare_located, bare_lowered, bare_row}
use Rattle.jn_places_law.proofs.Forms.{pushed, a_form, then_bare, as_value_bare, gives_bare, kept_bare, read_of_bare, as_place_bare, as_condition_bare, combined_bare}
use Rattle.jn_places_law.proofs.Meanings.{count_bare, span_bare, null_bare, wider_is, array_is, constructor_is, class_named_is, meaning_is, super_method_is, access_is, callee_is, type_is, assigns_is, any_is, origin_is}
use Rattle.jn_places_law.proofs.Calls.{with_bare, and_bare, or_bare, null_tested_bare, instance_bare, literal_bare, name_spot_bare, access_place_bare, dotted_bare, own_call_bare, super_call_bare, created_bare, chosen_bare, simply_bare, compound_bare, prefixed_bare, old_bare, postfixed_bare}

abbrev a_place : Fragment → Spot → Temporaries → Located
a_place f p t = record { fragment = f; spot = p; behind = t }

abbrev the_value : Lowered → Value
the_value l = l.value

-- one operand, then what comes after it
sequel : (A B : Value) (x y : Temporaries → Operands) → bare_value A ≡ B → ((t : Temporaries) → bare_row (x t) ≡ y t) → bare_row (with_operand A (x A.behind)) ≡ with_operand B (y B.behind)
sequel A B x y h k = with_bare A (x A.behind) ∙ ap (with_operand (bare_value A)) (k A.behind) ∙ ap (λ (v : Value). with_operand v (y v.behind)) h

module _ (P : Program) (c first : ℕ) where
  -- what the rows are made of

  keeps : (l m : ℕ → Bool) (a b : BaseType) (v w : Value) → l ≡ m → a ≡ b → bare_value v ≡ w → bare_value (kept P first l a v) ≡ kept (bare P) first m b w
  keeps l m a b v w h k g =
      kept_bare P first l a v
      ∙ ap (λ (x : ℕ → Bool). kept (bare P) first x a (bare_value v)) h
      ∙ ap (λ x. kept (bare P) first m x (bare_value v)) k
      ∙ ap (kept (bare P) first m b) g

  calls : (k j : Callee) (span : Span) (t : Temporaries) (A B : Value) (x y : Temporaries → Operands) (own other : Operands) → k ≡ j → bare_value A ≡ B → ((t : Temporaries) → bare_row (x t) ≡ y t) → bare_row own ≡ other → bare_value (dotted_call P first k span t A (x A.behind) own) ≡ dotted_call (bare P) first j no_span t B (y B.behind) other
  calls k j span t A B x y own other h g f e =
      dotted_bare P first k span t A (x A.behind) own
      ∙ ap (λ z. dotted_call (bare P) first k no_span t (bare_value A) z (bare_row own)) (f A.behind)
      ∙ ap (λ (v : Value). dotted_call (bare P) first k no_span t v (y v.behind) (bare_row own)) g
      ∙ ap (dotted_call (bare P) first k no_span t B (y B.behind)) e
      ∙ ap (λ z. dotted_call (bare P) first z no_span t B (y B.behind) other) h

  element_bare : (span : Span) (b : BaseType) (a i : Value) → bare_located (element P c first span b a i) ≡ element (bare P) c first no_span b (bare_value a) (bare_value i)
  element_bare span b a i = ap (λ (f : Fragment). a_place f (ElementSpot (bare_operand a.operand) (bare_operand i.operand) (elem_base b)) i.behind) (then_bare a.fragment i.fragment)

  elements : (span : Span) (a b : BaseType) (A B : Value) (x y : Temporaries → Value) → a ≡ b → bare_value A ≡ B → ((t : Temporaries) → bare_value (x t) ≡ y t) → bare_located (element P c first span a A (x A.behind)) ≡ element (bare P) c first no_span b B (y B.behind)
  elements span a b A B x y h g f =
      element_bare span a A (x A.behind)
      ∙ ap (element (bare P) c first no_span a (bare_value A)) (f A.behind)
      ∙ ap (λ (v : Value). element (bare P) c first no_span a v (y v.behind)) g
      ∙ ap (λ z. element (bare P) c first no_span z B (y B.behind)) h

  unary_bare : (t : Temporaries) (span : Span) (o : UnaryOperator) (e : Lowered) → bare_lowered (unary P c first t span o e) ≡ unary (bare P) c first t no_span o (bare_lowered e)
  unary_bare t span Not e = as_condition_bare P first t span (negated e.condition)
  unary_bare t span Minus e = as_value_bare t (gives P first e.value.behind e.value.fragment Int span (λ dst. Unary dst true e.value.operand)) ∙ ap (as_value t) (gives_bare P first e.value.behind e.value.fragment Int span (λ dst. Unary dst true e.value.operand))
  unary_bare t span Plus e = as_value_bare t (gives P first e.value.behind e.value.fragment Int span (λ dst. Unary dst false e.value.operand)) ∙ ap (as_value t) (gives_bare P first e.value.behind e.value.fragment Int span (λ dst. Unary dst false e.value.operand))

  calculated_bare : (span : Span) (o : BinaryOperator) (a b : BaseType) (l r : Value) → bare_value (calculated P c first span o a b l r) ≡ calculated (bare P) c first no_span o a b (bare_value l) (bare_value r)
  calculated_bare span o a b l r =
      combined_bare P first r.behind (then l.fragment r.fragment) span (operator_of o) a b l.operand r.operand
      ∙ ap (λ f. combined (bare P) first r.behind f no_span (operator_of o) a b (bare_operand l.operand) (bare_operand r.operand)) (then_bare l.fragment r.fragment)

  -- a form that calculates
  calculates : (span : Span) (o : BinaryOperator) (a b : BaseType) (later : ℕ → Bool) (l : Lowered) (r : Temporaries → Lowered) (t : Temporaries) →
      bare_lowered (as_value t (calculated P c first span o a b (kept P first later a l.value) (r (kept P first later a l.value).behind).value))
      ≡ as_value t (calculated (bare P) c first no_span o a b (kept (bare P) first later a (bare_value l.value)) (bare_value (r (kept (bare P) first later a (bare_value l.value)).behind).value))
  calculates span o a b later l r t =
      as_value_bare t (calculated P c first span o a b (kept P first later a l.value) (r (kept P first later a l.value).behind).value)
      ∙ ap (as_value t) (calculated_bare span o a b (kept P first later a l.value) (r (kept P first later a l.value).behind).value
      ∙ ap (λ (k : Value). calculated (bare P) c first no_span o a b k (bare_value (r k.behind).value)) (kept_bare P first later a l.value))

  two : {A B : Type 0} (f : A → B) (p q : Bool) (x y z : A) (u v w : B) → f x ≡ u → f y ≡ v → f z ≡ w → f (cond p x (cond q y z)) ≡ cond p u (cond q v w)
  two f true q x y z u v w h g k = h
  two f false true x y z u v w h g k = g
  two f false false x y z u v w h g k = k

  equals : (span : Span) (o : BinaryOperator) (n m : Bool) (p q : Option Origin) (a b : BaseType) (later : ℕ → Bool) (l : Lowered) (r : Temporaries → Lowered) (t : Temporaries) →
      bare_lowered (cond (is_equality o && m) (as_condition P first t span (null_tested (on_null P c first o) p span l.value)) (cond (is_equality o && n) (as_condition P first t span (null_tested (on_null P c first o) q span (r t).value)) (as_value t (calculated P c first span o a b (kept P first later a l.value) (r (kept P first later a l.value).behind).value))))
      ≡ cond (is_equality o && m) (as_condition (bare P) first t no_span (null_tested (on_null P c first o) p no_span (bare_value l.value))) (cond (is_equality o && n) (as_condition (bare P) first t no_span (null_tested (on_null P c first o) q no_span (bare_value (r t).value))) (as_value t (calculated (bare P) c first no_span o a b (kept (bare P) first later a (bare_value l.value)) (bare_value (r (kept (bare P) first later a (bare_value l.value)).behind).value))))
  equals span o n m p q a b later l r t =
      two bare_lowered (is_equality o && m) (is_equality o && n)
      (as_condition P first t span (null_tested (on_null P c first o) p span l.value))
      (as_condition P first t span (null_tested (on_null P c first o) q span (r t).value))
      (as_value t (calculated P c first span o a b (kept P first later a l.value) (r (kept P first later a l.value).behind).value))
      (as_condition (bare P) first t no_span (null_tested (on_null P c first o) p no_span (bare_value l.value)))
      (as_condition (bare P) first t no_span (null_tested (on_null P c first o) q no_span (bare_value (r t).value)))
      (as_value t (calculated (bare P) c first no_span o a b (kept (bare P) first later a (bare_value l.value)) (bare_value (r (kept (bare P) first later a (bare_value l.value)).behind).value)))
      (as_condition_bare P first t span (null_tested (on_null P c first o) p span l.value) ∙ ap (as_condition (bare P) first t no_span) (null_tested_bare (on_null P c first o) p span l.value))
      (as_condition_bare P first t span (null_tested (on_null P c first o) q span (r t).value) ∙ ap (as_condition (bare P) first t no_span) (null_tested_bare (on_null P c first o) q span (r t).value))
      (calculates span o a b later l r t)

  binary_bare : (span : Span) (o : BinaryOperator) (n m : Bool) (p q : Option Origin) (a b : BaseType) (later : ℕ → Bool) (l : Lowered) (r : Temporaries → Lowered) (t : Temporaries) →
      bare_lowered (binary P c first span o n m p q a b later l r t) ≡ binary (bare P) c first no_span o n m p q a b later (bare_lowered l) (λ u. bare_lowered (r u)) t
  binary_bare span And n m p q a b later l r t =
      as_condition_bare P first t span (and_also l.condition (r l.condition.behind).condition)
      ∙ ap (as_condition (bare P) first t no_span) (and_bare l.condition (r l.condition.behind).condition)
  binary_bare span Or n m p q a b later l r t =
      as_condition_bare P first t span (or_else l.condition (r l.condition.behind).condition)
      ∙ ap (as_condition (bare P) first t no_span) (or_bare l.condition (r l.condition.behind).condition)
  binary_bare span Equal n m p q a b later l r t = equals span Equal n m p q a b later l r t
  binary_bare span NotEqual n m p q a b later l r t = equals span NotEqual n m p q a b later l r t
  binary_bare span Multiply n m p q a b later l r t = calculates span Multiply a b later l r t
  binary_bare span Divide n m p q a b later l r t = calculates span Divide a b later l r t
  binary_bare span Remainder n m p q a b later l r t = calculates span Remainder a b later l r t
  binary_bare span Add n m p q a b later l r t = calculates span Add a b later l r t
  binary_bare span Subtract n m p q a b later l r t = calculates span Subtract a b later l r t
  binary_bare span Less n m p q a b later l r t = calculates span Less a b later l r t
  binary_bare span Greater n m p q a b later l r t = calculates span Greater a b later l r t
  binary_bare span LessEqual n m p q a b later l r t = calculates span LessEqual a b later l r t
  binary_bare span GreaterEqual n m p q a b later l r t = calculates span GreaterEqual a b later l r t

  assignment_bare : (span : Span) (o : AssignOperator) (a b : BaseType) (later : ℕ → Bool) (at : Span) (p : Located) (e : Temporaries → Lowered) →
      bare_value (assignment P c first span o a b later at p e) ≡ assignment (bare P) c first no_span o a b later no_span (bare_located p) (λ u. bare_lowered (e u))
  assignment_bare span o a b later at p e =
      pushed bare_value (is_simple o) (simply_assigned P first span p.spot p.fragment (e p.behind).value) (compound P first span (compound_of o) a b p.spot (kept P first later a (read_of P first p at)) (e (kept P first later a (read_of P first p at)).behind).value)
      ∙ ap (λ x. cond (is_simple o) x (bare_value (compound P first span (compound_of o) a b p.spot (kept P first later a (read_of P first p at)) (e (kept P first later a (read_of P first p at)).behind).value))) (simply_bare P first span p.spot p.fragment (e p.behind).value)
      ∙ ap (cond (is_simple o) (simply_assigned (bare P) first no_span (bare_spot p.spot) (bare_fragment p.fragment) (bare_value (e p.behind).value)))
      (compound_bare P first span (compound_of o) a b p.spot (kept P first later a (read_of P first p at)) (e (kept P first later a (read_of P first p at)).behind).value
      ∙ ap (λ (k : Value). compound (bare P) first no_span (compound_of o) a b (bare_spot p.spot) k (bare_value (e k.behind).value)) (kept_bare P first later a (read_of P first p at) ∙ ap (kept (bare P) first later a) (read_of_bare P first p at)))

  choices : (span : Span) (x q : Condition) (w b : BaseType) (f g h k : Temporaries → Value) → bare_condition x ≡ q → w ≡ b → ((t : Temporaries) → bare_value (f t) ≡ g t) → ((t : Temporaries) → bare_value (h t) ≡ k t) →
      bare_value (chosen P first span (take_one x.behind w).number x (f (take_one x.behind w).behind) (h (f (take_one x.behind w).behind).behind))
      ≡ chosen (bare P) first no_span (take_one q.behind b).number q (g (take_one q.behind b).behind) (k (g (take_one q.behind b).behind).behind)
  choices span x q w b f g h k e d i j =
      chosen_bare P first span (take_one x.behind w).number x (f (take_one x.behind w).behind) (h (f (take_one x.behind w).behind).behind)
      ∙ ap (chosen (bare P) first no_span (take_one x.behind w).number (bare_condition x) (bare_value (f (take_one x.behind w).behind))) (j (f (take_one x.behind w).behind).behind)
      ∙ ap (λ (v : Value). chosen (bare P) first no_span (take_one x.behind w).number (bare_condition x) v (k v.behind)) (i (take_one x.behind w).behind)
      ∙ ap (λ (z : Condition). chosen (bare P) first no_span (take_one z.behind w).number z (g (take_one z.behind w).behind) (k (g (take_one z.behind w).behind).behind)) e
      ∙ ap (λ z. chosen (bare P) first no_span (take_one q.behind z).number q (g (take_one q.behind z).behind) (k (g (take_one q.behind z).behind).behind)) d

  access_eq : (s : Scope) (e : PlacedTree) (n : ℕ) → access P c s e (type_of P c s e) n ≡ access (bare P) c (bare_scope s) (bare_tree e) (type_of (bare P) c (bare_scope s) (bare_tree e)) n
  access_eq s e n = sym (ap (λ b. access (bare P) c (bare_scope s) (bare_tree e) b n) (type_is P c s e) ∙ access_is P c s e (type_of P c s e) n)

  callee_eq : (s : Scope) (e : PlacedTree) (n : ℕ) (es : PlacedTrees) → callee P c s e (type_of P c s e) n (count es) ≡ callee (bare P) c (bare_scope s) (bare_tree e) (type_of (bare P) c (bare_scope s) (bare_tree e)) n (count (bare_trees es))
  callee_eq s e n es = sym (
      ap (λ b. callee (bare P) c (bare_scope s) (bare_tree e) b n (count (bare_trees es))) (type_is P c s e)
      ∙ ap (callee (bare P) c (bare_scope s) (bare_tree e) (type_of P c s e) n) (count_bare es)
      ∙ callee_is P c s e (type_of P c s e) n (count es))

  any_eq : (s : Scope) (es : PlacedTrees) → ◌≡◌ {A = ℕ → Bool} (λ r. assigns_any P c s r es) (λ r. assigns_any (bare P) c (bare_scope s) r (bare_trees es))
  any_eq s es = fun_ext (λ r. sym (any_is P c s r es))

  assigns_eq : (s : Scope) (e : PlacedTree) → ◌≡◌ {A = ℕ → Bool} (λ r. assigns P c s r e) (λ r. assigns (bare P) c (bare_scope s) r (bare_tree e))
  assigns_eq s e = fun_ext (λ r. sym (assigns_is P c s r e))

  or_later : (later f g : ℕ → Bool) → f ≡ g → ◌≡◌ {A = ℕ → Bool} (λ r. f r || later r) (λ r. g r || later r)
  or_later later f g h = ap {B = ℕ → Bool} (λ (x : ℕ → Bool). λ r. x r || later r) h

  class_eq : (n : ℕ) → or_zero (class_named P n) ≡ or_zero (class_named (bare P) n)
  class_eq n = ap or_zero (sym (class_named_is P n))

  same : {A : Type 0} (x : A) → x ≡ x
  same x = refl

  -- where a form is assigned
  target_eq : (s : Scope) (t : Temporaries) (e : PlacedTree) (l m : ℕ → Bool) → l ≡ m → bare_lowered (lower P c first s t e) ≡ lower (bare P) c first (bare_scope s) t (bare_tree e) → bare_located ((lower P c first s t e).assigned l) ≡ (lower (bare P) c first (bare_scope s) t (bare_tree e)).assigned m
  target_eq s t e l m h k = ap (λ (x : Lowered). x.assigned l) k ∙ ap (lower (bare P) c first (bare_scope s) t (bare_tree e)).assigned h

  read_eq : (p q : Located) (e : PlacedTree) → bare_located p ≡ q → bare_value (read_of P first p (span_of e)) ≡ read_of (bare P) first q (span_of (bare_tree e))
  read_eq p q e h = read_of_bare P first p (span_of e) ∙ ap (λ (x : Located). read_of (bare P) first x no_span) h ∙ ap (read_of (bare P) first q) (sym (span_bare e))

  postfixes : (span : Span) (step : Step) (p : Spot) (q : Spot) (a b : BaseType) (v w : Value) → bare_spot p ≡ q → a ≡ b → bare_value v ≡ w → bare_value (postfixed P first span step p v.operand (old_value P first p a span v)) ≡ postfixed (bare P) first no_span step q w.operand (old_value (bare P) first q b no_span w)
  postfixes span step p q a b v w h k g =
      postfixed_bare P first span step p v.operand (old_value P first p a span v)
      ∙ ap (postfixed (bare P) first no_span step (bare_spot p) (bare_operand v.operand)) (old_bare P first p a span v)
      ∙ ap (λ z. postfixed (bare P) first no_span step z (bare_operand v.operand) (old_value (bare P) first z a no_span (bare_value v))) h
      ∙ ap (λ z. postfixed (bare P) first no_span step q (bare_operand v.operand) (old_value (bare P) first q z no_span (bare_value v))) k
      ∙ ap (λ (z : Value). postfixed (bare P) first no_span step q z.operand (old_value (bare P) first q b no_span z)) g

  prefixes : (span : Span) (step : Step) (p : Spot) (q : Spot) (v w : Value) → bare_spot p ≡ q → bare_value v ≡ w → bare_value (prefixed P first span step p v) ≡ prefixed (bare P) first no_span step q w
  prefixes span step p q v w h g = prefixed_bare P first span step p v ∙ ap (λ z. prefixed (bare P) first no_span step z (bare_value v)) h ∙ ap (prefixed (bare P) first no_span step q) g

  binaries : (o : BinaryOperator) (s : Scope) (t : Temporaries) (d e : PlacedTree) → binary (bare P) c first no_span o (is_null d) (is_null e) (origin_of P c s d) (origin_of P c s e) (type_of P c s d) (type_of P c s e) (λ r. assigns P c s r e) (lower (bare P) c first (bare_scope s) t (bare_tree d)) (λ u. lower (bare P) c first (bare_scope s) u (bare_tree e)) t
      ≡ lower (bare P) c first (bare_scope s) t (PlacedBinary (bare_tree d) o (bare_tree e) no_span)
  binaries o s t d e =
      ap (λ z. binary (bare P) c first no_span o z (is_null e) (origin_of P c s d) (origin_of P c s e) (type_of P c s d) (type_of P c s e) (λ r. assigns P c s r e) (lower (bare P) c first (bare_scope s) t (bare_tree d)) (λ u. lower (bare P) c first (bare_scope s) u (bare_tree e)) t) (sym (null_bare d))
      ∙ ap (λ z. binary (bare P) c first no_span o (is_null (bare_tree d)) z (origin_of P c s d) (origin_of P c s e) (type_of P c s d) (type_of P c s e) (λ r. assigns P c s r e) (lower (bare P) c first (bare_scope s) t (bare_tree d)) (λ u. lower (bare P) c first (bare_scope s) u (bare_tree e)) t) (sym (null_bare e))
      ∙ ap (λ z. binary (bare P) c first no_span o (is_null (bare_tree d)) (is_null (bare_tree e)) z (origin_of P c s e) (type_of P c s d) (type_of P c s e) (λ r. assigns P c s r e) (lower (bare P) c first (bare_scope s) t (bare_tree d)) (λ u. lower (bare P) c first (bare_scope s) u (bare_tree e)) t) (sym (origin_is P c s d))
      ∙ ap (λ z. binary (bare P) c first no_span o (is_null (bare_tree d)) (is_null (bare_tree e)) (origin_of (bare P) c (bare_scope s) (bare_tree d)) z (type_of P c s d) (type_of P c s e) (λ r. assigns P c s r e) (lower (bare P) c first (bare_scope s) t (bare_tree d)) (λ u. lower (bare P) c first (bare_scope s) u (bare_tree e)) t) (sym (origin_is P c s e))
      ∙ ap (λ z. binary (bare P) c first no_span o (is_null (bare_tree d)) (is_null (bare_tree e)) (origin_of (bare P) c (bare_scope s) (bare_tree d)) (origin_of (bare P) c (bare_scope s) (bare_tree e)) z (type_of P c s e) (λ r. assigns P c s r e) (lower (bare P) c first (bare_scope s) t (bare_tree d)) (λ u. lower (bare P) c first (bare_scope s) u (bare_tree e)) t) (sym (type_is P c s d))
      ∙ ap (λ z. binary (bare P) c first no_span o (is_null (bare_tree d)) (is_null (bare_tree e)) (origin_of (bare P) c (bare_scope s) (bare_tree d)) (origin_of (bare P) c (bare_scope s) (bare_tree e)) (type_of (bare P) c (bare_scope s) (bare_tree d)) z (λ r. assigns P c s r e) (lower (bare P) c first (bare_scope s) t (bare_tree d)) (λ u. lower (bare P) c first (bare_scope s) u (bare_tree e)) t) (sym (type_is P c s e))
      ∙ ap (λ z. binary (bare P) c first no_span o (is_null (bare_tree d)) (is_null (bare_tree e)) (origin_of (bare P) c (bare_scope s) (bare_tree d)) (origin_of (bare P) c (bare_scope s) (bare_tree e)) (type_of (bare P) c (bare_scope s) (bare_tree d)) (type_of (bare P) c (bare_scope s) (bare_tree e)) z (lower (bare P) c first (bare_scope s) t (bare_tree d)) (λ u. lower (bare P) c first (bare_scope s) u (bare_tree e)) t) (assigns_eq s e)

  -- each form in each of its uses
  mutual
    pub lowered : (s : Scope) (t : Temporaries) (e : PlacedTree) → bare_lowered (lower P c first s t e) ≡ lower (bare P) c first (bare_scope s) t (bare_tree e)
    lowered s t (PlacedLiteral l span) =
        ap (λ (q : Condition). a_form (bare_value (gives P first t nothing (literal_type l) span (λ dst. Const dst (constant l)))) q (λ later. no_place t)) (literal_bare l span t (gives P first t nothing (literal_type l) span (λ dst. Const dst (constant l))))
        ∙ ap (λ (v : Value). a_form v (literal_condition l no_span t v) (λ later. no_place t)) (gives_bare P first t nothing (literal_type l) span (λ dst. Const dst (constant l)))
    lowered s t (PlacedName n) =
        as_place_bare P first n.span (λ later. a_place nothing (name_spot P (meaning P c s n.name.0) n.span) t)
        ∙ ap (λ (p : Spot). as_place (bare P) first no_span (λ later. a_place nothing p t)) (name_spot_bare P (meaning P c s n.name.0) n.span ∙ ap (λ m. name_spot (bare P) m no_span) (sym (meaning_is P c s n.name.0)))
    lowered s t (PlacedThis span) = as_value_bare t (record { fragment = nothing; operand = this_operand span; behind = t })
    lowered s t (PlacedParen e span) = lowered s t e
    lowered s t (PlacedField e n span) =
        as_place_bare P first span (λ later. access_place P first (access P c s e (type_of P c s e) n.name.0) t (kept P first later (type_of P c s e) (lower P c first s t e).value))
        ∙ ap (as_place (bare P) first no_span) (fun_ext (λ later.
        access_place_bare P first (access P c s e (type_of P c s e) n.name.0) t (kept P first later (type_of P c s e) (lower P c first s t e).value)
        ∙ ap (access_place (bare P) first (access P c s e (type_of P c s e) n.name.0) t) (keeps later later (type_of P c s e) (type_of (bare P) c (bare_scope s) (bare_tree e)) (lower P c first s t e).value (lower (bare P) c first (bare_scope s) t (bare_tree e)).value (same later) (sym (type_is P c s e)) (ap the_value (lowered s t e)))
        ∙ ap (λ a. access_place (bare P) first a t (kept (bare P) first later (type_of (bare P) c (bare_scope s) (bare_tree e)) (lower (bare P) c first (bare_scope s) t (bare_tree e)).value)) (access_eq s e n.name.0)))
    lowered s t (PlacedCall e n es span) =
        as_value_bare t (dotted_call P first (callee P c s e (type_of P c s e) n.name.0 (count es)) span t (kept P first (λ r. assigns_any P c s r es) (type_of P c s e) (lower P c first s t e).value) (operands P c first s (kept P first (λ r. assigns_any P c s r es) (type_of P c s e) (lower P c first s t e).value).behind es) (operands P c first s t es))
        ∙ ap (as_value t) (calls (callee P c s e (type_of P c s e) n.name.0 (count es)) (callee (bare P) c (bare_scope s) (bare_tree e) (type_of (bare P) c (bare_scope s) (bare_tree e)) n.name.0 (count (bare_trees es))) span t
        (kept P first (λ r. assigns_any P c s r es) (type_of P c s e) (lower P c first s t e).value)
        (kept (bare P) first (λ r. assigns_any (bare P) c (bare_scope s) r (bare_trees es)) (type_of (bare P) c (bare_scope s) (bare_tree e)) (lower (bare P) c first (bare_scope s) t (bare_tree e)).value)
        (λ u. operands P c first s u es) (λ u. operands (bare P) c first (bare_scope s) u (bare_trees es))
        (operands P c first s t es) (operands (bare P) c first (bare_scope s) t (bare_trees es))
        (callee_eq s e n.name.0 es)
        (keeps (λ r. assigns_any P c s r es) (λ r. assigns_any (bare P) c (bare_scope s) r (bare_trees es)) (type_of P c s e) (type_of (bare P) c (bare_scope s) (bare_tree e)) (lower P c first s t e).value (lower (bare P) c first (bare_scope s) t (bare_tree e)).value (any_eq s es) (sym (type_is P c s e)) (ap the_value (lowered s t e)))
        (λ u. row s u es) (row s t es))
    lowered s t (PlacedOwnCall n es span) =
        as_value_bare t (own_call P first (method_of P c n.name.0 (count es)) n.span span (operands P c first s t es))
        ∙ ap (as_value t) (own_call_bare P first (method_of P c n.name.0 (count es)) n.span span (operands P c first s t es)
        ∙ ap (own_call (bare P) first (method_of P c n.name.0 (count es)) no_span no_span) (row s t es)
        ∙ ap (λ m. own_call (bare P) first m no_span no_span (operands (bare P) c first (bare_scope s) t (bare_trees es))) (sym (ap (method_of (bare P) c n.name.0) (count_bare es) ∙ method_of_is P c n.name.0 (count es))))
    lowered s t (PlacedSuperCall n es span) =
        as_value_bare t (super_call P first (super_method P c n.name.0 (count es)) n.span span (operands P c first s t es))
        ∙ ap (as_value t) (super_call_bare P first (super_method P c n.name.0 (count es)) n.span span (operands P c first s t es)
        ∙ ap (super_call (bare P) first (super_method P c n.name.0 (count es)) no_span no_span) (row s t es)
        ∙ ap (λ m. super_call (bare P) first m no_span no_span (operands (bare P) c first (bare_scope s) t (bare_trees es))) (sym (ap (super_method (bare P) c n.name.0) (count_bare es) ∙ super_method_is P c n.name.0 (count es))))
    lowered s t (PlacedIndex a i span) =
        as_place_bare P first span (λ later. element P c first span (type_of P c s a)
        (kept P first (λ r. assigns P c s r i || later r) (type_of P c s a) (lower P c first s t a).value)
        (kept P first later (type_of P c s i) (lower P c first s (kept P first (λ r. assigns P c s r i || later r) (type_of P c s a) (lower P c first s t a).value).behind i).value))
        ∙ ap (as_place (bare P) first no_span) (fun_ext (λ later.
        elements span (type_of P c s a) (type_of (bare P) c (bare_scope s) (bare_tree a))
        (kept P first (λ r. assigns P c s r i || later r) (type_of P c s a) (lower P c first s t a).value)
        (kept (bare P) first (λ r. assigns (bare P) c (bare_scope s) r (bare_tree i) || later r) (type_of (bare P) c (bare_scope s) (bare_tree a)) (lower (bare P) c first (bare_scope s) t (bare_tree a)).value)
        (λ u. kept P first later (type_of P c s i) (lower P c first s u i).value)
        (λ u. kept (bare P) first later (type_of (bare P) c (bare_scope s) (bare_tree i)) (lower (bare P) c first (bare_scope s) u (bare_tree i)).value)
        (sym (type_is P c s a))
        (keeps (λ r. assigns P c s r i || later r) (λ r. assigns (bare P) c (bare_scope s) r (bare_tree i) || later r) (type_of P c s a) (type_of (bare P) c (bare_scope s) (bare_tree a)) (lower P c first s t a).value (lower (bare P) c first (bare_scope s) t (bare_tree a)).value (or_later later (λ r. assigns P c s r i) (λ r. assigns (bare P) c (bare_scope s) r (bare_tree i)) (assigns_eq s i)) (sym (type_is P c s a)) (ap the_value (lowered s t a)))
        (λ u. keeps later later (type_of P c s i) (type_of (bare P) c (bare_scope s) (bare_tree i)) (lower P c first s u i).value (lower (bare P) c first (bare_scope s) u (bare_tree i)).value (same later) (sym (type_is P c s i)) (ap the_value (lowered s u i)))))
    lowered s t (PlacedNew n es span) =
        as_value_bare t (created P first (constructor_of P (or_zero (class_named P n.name.0)) (count es)) (or_zero (class_named P n.name.0)) span (operands P c first s t es))
        ∙ ap (as_value t) (created_bare P first (constructor_of P (or_zero (class_named P n.name.0)) (count es)) (or_zero (class_named P n.name.0)) span (operands P c first s t es)
        ∙ ap (created (bare P) first (constructor_of P (or_zero (class_named P n.name.0)) (count es)) (or_zero (class_named P n.name.0)) no_span) (row s t es)
        ∙ ap (λ m. created (bare P) first m (or_zero (class_named P n.name.0)) no_span (operands (bare P) c first (bare_scope s) t (bare_trees es))) (sym (ap (constructor_of (bare P) (or_zero (class_named P n.name.0))) (count_bare es) ∙ constructor_is P (or_zero (class_named P n.name.0)) (count es)))
        ∙ ap (λ k. created (bare P) first (constructor_of (bare P) k (count (bare_trees es))) k no_span (operands (bare P) c first (bare_scope s) t (bare_trees es))) (class_eq n.name.0))
    lowered s t (PlacedNewArray annotations base size span) =
        as_value_bare t (gives P first (lower P c first s t size).value.behind (lower P c first s t size).value.fragment (array_type P base annotations) span (λ dst. NewArray dst (array_type P base annotations) (lower P c first s t size).value.operand))
        ∙ ap (as_value t) (gives_bare P first (lower P c first s t size).value.behind (lower P c first s t size).value.fragment (array_type P base annotations) span (λ dst. NewArray dst (array_type P base annotations) (lower P c first s t size).value.operand)
        ∙ ap (λ (v : Value). gives (bare P) first v.behind v.fragment (array_type P base annotations) no_span (λ dst. NewArray dst (array_type P base annotations) v.operand)) (ap the_value (lowered s t size))
        ∙ ap (λ b. gives (bare P) first (lower (bare P) c first (bare_scope s) t (bare_tree size)).value.behind (lower (bare P) c first (bare_scope s) t (bare_tree size)).value.fragment b no_span (λ dst. NewArray dst b (lower (bare P) c first (bare_scope s) t (bare_tree size)).value.operand)) (sym (array_is P base annotations)))
    lowered s t (PlacedArrayOf annotations base es span) =
        as_value_bare t (gives P first (operands P c first s t es).behind (operands P c first s t es).fragment (array_type P base annotations) span (λ dst. ArrayOf dst (array_type P base annotations) (operands P c first s t es).values))
        ∙ ap (as_value t) (gives_bare P first (operands P c first s t es).behind (operands P c first s t es).fragment (array_type P base annotations) span (λ dst. ArrayOf dst (array_type P base annotations) (operands P c first s t es).values)
        ∙ ap (λ (v : Operands). gives (bare P) first v.behind v.fragment (array_type P base annotations) no_span (λ dst. ArrayOf dst (array_type P base annotations) v.values)) (row s t es)
        ∙ ap (λ b. gives (bare P) first (operands (bare P) c first (bare_scope s) t (bare_trees es)).behind (operands (bare P) c first (bare_scope s) t (bare_trees es)).fragment b no_span (λ dst. ArrayOf dst b (operands (bare P) c first (bare_scope s) t (bare_trees es)).values)) (sym (array_is P base annotations)))
    lowered s t (PlacedPostfix e step span) =
        as_value_bare t (postfixed P first span step ((lower P c first s t e).assigned none_later).spot (read_of P first ((lower P c first s t e).assigned none_later) (span_of e)).operand (old_value P first ((lower P c first s t e).assigned none_later).spot (type_of P c s e) span (read_of P first ((lower P c first s t e).assigned none_later) (span_of e))))
        ∙ ap (as_value t) (postfixes span step ((lower P c first s t e).assigned none_later).spot ((lower (bare P) c first (bare_scope s) t (bare_tree e)).assigned none_later).spot (type_of P c s e) (type_of (bare P) c (bare_scope s) (bare_tree e)) (read_of P first ((lower P c first s t e).assigned none_later) (span_of e)) (read_of (bare P) first ((lower (bare P) c first (bare_scope s) t (bare_tree e)).assigned none_later) (span_of (bare_tree e)))
        (ap (λ (p : Located). p.spot) (target_eq s t e none_later none_later (same none_later) (lowered s t e)))
        (sym (type_is P c s e))
        (read_eq ((lower P c first s t e).assigned none_later) ((lower (bare P) c first (bare_scope s) t (bare_tree e)).assigned none_later) e (target_eq s t e none_later none_later (same none_later) (lowered s t e))))
    lowered s t (PlacedPrefix step e span) =
        as_value_bare t (prefixed P first span step ((lower P c first s t e).assigned none_later).spot (read_of P first ((lower P c first s t e).assigned none_later) (span_of e)))
        ∙ ap (as_value t) (prefixes span step ((lower P c first s t e).assigned none_later).spot ((lower (bare P) c first (bare_scope s) t (bare_tree e)).assigned none_later).spot (read_of P first ((lower P c first s t e).assigned none_later) (span_of e)) (read_of (bare P) first ((lower (bare P) c first (bare_scope s) t (bare_tree e)).assigned none_later) (span_of (bare_tree e)))
        (ap (λ (p : Located). p.spot) (target_eq s t e none_later none_later (same none_later) (lowered s t e)))
        (read_eq ((lower P c first s t e).assigned none_later) ((lower (bare P) c first (bare_scope s) t (bare_tree e)).assigned none_later) e (target_eq s t e none_later none_later (same none_later) (lowered s t e))))
    lowered s t (PlacedUnary o e span) = unary_bare t span o (lower P c first s t e) ∙ ap (unary (bare P) c first t no_span o) (lowered s t e)
    lowered s t (PlacedCast n e span) =
        as_value_bare t (gives P first (lower P c first s t e).value.behind (lower P c first s t e).value.fragment (ref (or_zero (class_named P n.name.0))) span (λ dst. Cast dst (lower P c first s t e).value.operand (class_no (or_zero (class_named P n.name.0)))))
        ∙ ap (as_value t) (gives_bare P first (lower P c first s t e).value.behind (lower P c first s t e).value.fragment (ref (or_zero (class_named P n.name.0))) span (λ dst. Cast dst (lower P c first s t e).value.operand (class_no (or_zero (class_named P n.name.0))))
        ∙ ap (λ (v : Value). gives (bare P) first v.behind v.fragment (ref (or_zero (class_named P n.name.0))) no_span (λ dst. Cast dst v.operand (class_no (or_zero (class_named P n.name.0))))) (ap the_value (lowered s t e))
        ∙ ap (λ k. gives (bare P) first (lower (bare P) c first (bare_scope s) t (bare_tree e)).value.behind (lower (bare P) c first (bare_scope s) t (bare_tree e)).value.fragment (ref k) no_span (λ dst. Cast dst (lower (bare P) c first (bare_scope s) t (bare_tree e)).value.operand (class_no k))) (class_eq n.name.0))
    lowered s t (PlacedBinary a o b span) =
        binary_bare span o (is_null a) (is_null b) (origin_of P c s a) (origin_of P c s b) (type_of P c s a) (type_of P c s b) (λ r. assigns P c s r b) (lower P c first s t a) (λ u. lower P c first s u b) t
        ∙ ap (λ (l : Lowered). binary (bare P) c first no_span o (is_null a) (is_null b) (origin_of P c s a) (origin_of P c s b) (type_of P c s a) (type_of P c s b) (λ r. assigns P c s r b) l (λ u. bare_lowered (lower P c first s u b)) t) (lowered s t a)
        ∙ ap (λ (f : Temporaries → Lowered). binary (bare P) c first no_span o (is_null a) (is_null b) (origin_of P c s a) (origin_of P c s b) (type_of P c s a) (type_of P c s b) (λ r. assigns P c s r b) (lower (bare P) c first (bare_scope s) t (bare_tree a)) f t) (fun_ext (λ u. lowered s u b))
        ∙ binaries o s t a b
    lowered s t (PlacedInstanceOf e n span) =
        as_condition_bare P first t span (instance_tested (or_zero (class_named P n.name.0)) (origin_of P c s e) span (lower P c first s t e).value)
        ∙ ap (as_condition (bare P) first t no_span) (instance_bare (or_zero (class_named P n.name.0)) (origin_of P c s e) span (lower P c first s t e).value
        ∙ ap (instance_tested (or_zero (class_named P n.name.0)) (origin_of P c s e) no_span) (ap the_value (lowered s t e))
        ∙ ap (λ o. instance_tested (or_zero (class_named P n.name.0)) o no_span (lower (bare P) c first (bare_scope s) t (bare_tree e)).value) (sym (origin_is P c s e))
        ∙ ap (λ k. instance_tested k (origin_of (bare P) c (bare_scope s) (bare_tree e)) no_span (lower (bare P) c first (bare_scope s) t (bare_tree e)).value) (class_eq n.name.0))
    lowered s t (PlacedConditional q a b span) =
        as_value_bare t (chosen P first span (take_one (lower P c first s t q).condition.behind (wider P (type_of P c s a) (type_of P c s b))).number (lower P c first s t q).condition (lower P c first s (take_one (lower P c first s t q).condition.behind (wider P (type_of P c s a) (type_of P c s b))).behind a).value (lower P c first s (lower P c first s (take_one (lower P c first s t q).condition.behind (wider P (type_of P c s a) (type_of P c s b))).behind a).value.behind b).value)
        ∙ ap (as_value t) (choices span (lower P c first s t q).condition (lower (bare P) c first (bare_scope s) t (bare_tree q)).condition (wider P (type_of P c s a) (type_of P c s b)) (wider (bare P) (type_of (bare P) c (bare_scope s) (bare_tree a)) (type_of (bare P) c (bare_scope s) (bare_tree b)))
        (λ u. (lower P c first s u a).value) (λ u. (lower (bare P) c first (bare_scope s) u (bare_tree a)).value) (λ u. (lower P c first s u b).value) (λ u. (lower (bare P) c first (bare_scope s) u (bare_tree b)).value)
        (ap (λ (l : Lowered). l.condition) (lowered s t q))
        (sym (ap (λ x. wider (bare P) x (type_of (bare P) c (bare_scope s) (bare_tree b))) (type_is P c s a) ∙ ap (wider (bare P) (type_of P c s a)) (type_is P c s b) ∙ wider_is P (type_of P c s a) (type_of P c s b)))
        (λ u. ap the_value (lowered s u a)) (λ u. ap the_value (lowered s u b)))
    lowered s t (PlacedAssign target o e span) =
        as_value_bare t (assignment P c first span o (type_of P c s target) (type_of P c s e) (λ r. assigns P c s r e) (span_of target) ((lower P c first s t target).assigned (λ r. assigns P c s r e)) (λ u. lower P c first s u e))
        ∙ ap (as_value t) (assignment_bare span o (type_of P c s target) (type_of P c s e) (λ r. assigns P c s r e) (span_of target) ((lower P c first s t target).assigned (λ r. assigns P c s r e)) (λ u. lower P c first s u e)
        ∙ ap (λ (f : Temporaries → Lowered). assignment (bare P) c first no_span o (type_of P c s target) (type_of P c s e) (λ r. assigns P c s r e) no_span (bare_located ((lower P c first s t target).assigned (λ r. assigns P c s r e))) f) (fun_ext (λ u. lowered s u e))
        ∙ ap (λ (p : Located). assignment (bare P) c first no_span o (type_of P c s target) (type_of P c s e) (λ r. assigns P c s r e) no_span p (λ u. lower (bare P) c first (bare_scope s) u (bare_tree e))) (target_eq s t target (λ r. assigns P c s r e) (λ r. assigns (bare P) c (bare_scope s) r (bare_tree e)) (assigns_eq s e) (lowered s t target))
        ∙ ap (λ z. assignment (bare P) c first no_span o (type_of P c s target) (type_of P c s e) (λ r. assigns P c s r e) z ((lower (bare P) c first (bare_scope s) t (bare_tree target)).assigned (λ r. assigns (bare P) c (bare_scope s) r (bare_tree e))) (λ u. lower (bare P) c first (bare_scope s) u (bare_tree e))) (sym (span_bare target))
        ∙ ap (λ (z : ℕ → Bool). assignment (bare P) c first no_span o (type_of P c s target) (type_of P c s e) z (span_of (bare_tree target)) ((lower (bare P) c first (bare_scope s) t (bare_tree target)).assigned (λ r. assigns (bare P) c (bare_scope s) r (bare_tree e))) (λ u. lower (bare P) c first (bare_scope s) u (bare_tree e))) (assigns_eq s e)
        ∙ ap (λ z. assignment (bare P) c first no_span o z (type_of P c s e) (λ r. assigns (bare P) c (bare_scope s) r (bare_tree e)) (span_of (bare_tree target)) ((lower (bare P) c first (bare_scope s) t (bare_tree target)).assigned (λ r. assigns (bare P) c (bare_scope s) r (bare_tree e))) (λ u. lower (bare P) c first (bare_scope s) u (bare_tree e))) (sym (type_is P c s target))
        ∙ ap (λ z. assignment (bare P) c first no_span o (type_of (bare P) c (bare_scope s) (bare_tree target)) z (λ r. assigns (bare P) c (bare_scope s) r (bare_tree e)) (span_of (bare_tree target)) ((lower (bare P) c first (bare_scope s) t (bare_tree target)).assigned (λ r. assigns (bare P) c (bare_scope s) r (bare_tree e))) (λ u. lower (bare P) c first (bare_scope s) u (bare_tree e))) (sym (type_is P c s e)))

    -- operands
    pub row : (s : Scope) (t : Temporaries) (es : PlacedTrees) → bare_row (operands P c first s t es) ≡ operands (bare P) c first (bare_scope s) t (bare_trees es)
    row s t NoPlacedTrees = refl
    row s t (MorePlacedTrees e es) =
        sequel
        (kept P first (λ r. assigns_any P c s r es) (type_of P c s e) (lower P c first s t e).value)
        (kept (bare P) first (λ r. assigns_any (bare P) c (bare_scope s) r (bare_trees es)) (type_of (bare P) c (bare_scope s) (bare_tree e)) (lower (bare P) c first (bare_scope s) t (bare_tree e)).value)
        (λ u. operands P c first s u es) (λ u. operands (bare P) c first (bare_scope s) u (bare_trees es))
        (keeps (λ r. assigns_any P c s r es) (λ r. assigns_any (bare P) c (bare_scope s) r (bare_trees es)) (type_of P c s e) (type_of (bare P) c (bare_scope s) (bare_tree e)) (lower P c first s t e).value (lower (bare P) c first (bare_scope s) t (bare_tree e)).value (any_eq s es) (sym (type_is P c s e)) (ap the_value (lowered s t e)))
        (λ u. row s u es)

  -- an expression's value
  pub valued : (s : Scope) (t : Temporaries) (e : PlacedTree) → bare_value (lower P c first s t e).value ≡ (lower (bare P) c first (bare_scope s) t (bare_tree e)).value
  valued s t e = ap the_value (lowered s t e)

-- in alike programs and scopes
pub alike : (P Q' : Program) (c first : ℕ) (s r : Scope) (t : Temporaries) (e d : PlacedTree) → Alike P Q' → bare_scope s ≡ bare_scope r → bare_tree e ≡ bare_tree d → bare_lowered (lower P c first s t e) ≡ bare_lowered (lower Q' c first r t d)
alike P Q' c first s r t e d h k g =
    lowered P c first s t e
    ∙ ap (λ z. lower z c first (bare_scope s) t (bare_tree e)) h
    ∙ ap (λ z. lower (bare Q') c first z t (bare_tree e)) k
    ∙ ap (lower (bare Q') c first (bare_scope r) t) g
    ∙ sym (lowered Q' c first r t d)
