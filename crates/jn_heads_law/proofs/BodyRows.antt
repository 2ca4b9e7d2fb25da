-- Rows of bodies are the same in alike programs, places included, where the method's name stands at one place.
use Rattle.std.proofs.Common.{◌≡◌, ℕ, ◌+◌, Bool, true, false, not, ◌&&◌, ◌||◌, List, [], ◌∷◌, ◌++◌, length, Option, Some, None, refl, sym, ap, ◌∙◌}
use Rattle.std.specs.Prelude.{eqb, filter, flat_map, ltb}
use Rattle.std.proofs.lemmas.List.{length-map}
use Rattle.jn_base.specs.declared.code.Code.TheVariants.{J6}
use Rattle.jn_base.specs.declared.place.Row.{Row}
use Rattle.jn_base.specs.declared.place.Span.{Span}
use Rattle.jn_points.specs.declared.program.Body.{Body}
use Rattle.jn_points.specs.declared.program.Program.{Program}
use Rattle.jn_points.specs.Lookup.{class_info, ctor_of, method_at, parent_of}
use Rattle.jn_points.specs.Members.{below}
use Rattle.jn_env.specs.Keys.{distinct, is_own, kind_keys}
use Rattle.jn_places.specs.Placed.{PlacedTree, PlacedTrees, NoPlacedTrees, PlacedDeclarator, PlacedMember, PlacedStatements, PlacedThisCall, PlacedSuperCallStatement, NoPlacedStatements, MorePlacedStatements}
use Rattle.jn_lowering.specs.Scopes.{count}
use Rattle.jn_lowering.specs.Locals.{State}
use Rattle.jn_lowering.specs.Statements.{Step}
use Rattle.jn_lowering.specs.Annotations.{row, when}
use Rattle.jn_lowering.specs.Bodies.{Source, body_of_source, call_of, calls_own, class, declarators_of, fields_of, is_under_object, name_span, parent, whole}
use Rattle.jn_lowering.specs.StatementRows.{all_rows}
use Rattle.jn_lowering.specs.BodyRows.{construction_rows, ctor_call_rows, facts, field_rows, in_body, in_initializer, initializer_rows, initializers_rows, is_too_large, limit_rows, member_rows, no_this, own_fields, rows_of_body, rows_of_source, whole_rows}
use Rattle.jn_places_law.specs.Bare.{Alike, bare, bare_field}
use Rattle.jn_places_law.proofs.Lookups.{owner_is, parent_is, ref_field_is}
use Rattle.jn_heads_law.proofs.Meanings.{carried, class_at_is, ctor_at_is}
use Rattle.jn_heads_law.proofs.RowForms.{ctor_rows_is}
use Rattle.jn_heads_law.proofs.Bodies.{count_same, entry_same, whole_same}
use Rattle.jn_places_law.proofs.Meanings.{static_method_is, static_is, declared_field_is, parent_class_is}
use Rattle.jn_heads_law.proofs.ExpressionRows as expressions
use Rattle.jn_heads_law.proofs.StatementRows as statements

-- `super()` where neither it nor `this(..)` is written
abbrev unwritten_rows : Program → ℕ → State → Span → List Row
unwritten_rows P m st span = when (not (is_under_object (parent_of (class_info P (class P m))))) (ctor_call_rows P m st (parent P m) NoPlacedTrees span)

-- the call of another constructor with which statements begin, and nothing else
abbrev call_alone : PlacedStatements → PlacedStatements
call_alone (MorePlacedStatements (PlacedThisCall es span) xs) = MorePlacedStatements (PlacedThisCall es span) NoPlacedStatements
call_alone (MorePlacedStatements (PlacedSuperCallStatement es span) xs) = MorePlacedStatements (PlacedSuperCallStatement es span) NoPlacedStatements
call_alone xs = NoPlacedStatements

-- the state after a constructor's call and the initializers, in which the statements stand
abbrev begun : Program → ℕ → ℕ → Bool → State → PlacedStatements → List PlacedMember → State
begun P m first ctor st xs members = (fields_of P m first ctor (call_of P m first ctor st xs).behind xs members).behind

module _ (P : Program) where
  -- ---- how large a body is

  facts_is : (x : Body) → facts (bare P) x ≡ facts P x
  facts_is x = λ i. distinct (filter (λ k. ltb k.reg x.locals && ref_field_is P k.field i) (flat_map (λ pt. kind_keys pt.kind) x.points))

  own_is : (m f : ℕ) → is_own (bare P) (method_at (bare P) m) f ≡ is_own P (method_at P m) f
  own_is m f = λ i. ctor_at_is P m i && eqb (owner_is P f i) (class_at_is P m i) && ref_field_is P f i

  own_fields_is : (m : ℕ) → own_fields (bare P) m ≡ own_fields P m
  own_fields_is m = λ i. filter (λ f. own_is m f i) (below (length-map P.fields bare_field i))

  large_is : (x : Body) → is_too_large (bare P) x ≡ is_too_large P x
  large_is x = λ i. ltb 65535 (length x.points) || (ltb 1024 (length x.regs) || ltb 4096 (length (facts_is x i) + length (own_fields_is x.method.0 i)))

  module _ (m : ℕ) where
    -- ---- the call of another constructor

    ctor_call_is : (st : State) (k : ℕ) (es : PlacedTrees) (span : Span) → ctor_call_rows (bare P) m st k es span ≡ ctor_call_rows P m st k es span
    ctor_call_is st k es span = λ i. expressions.all_is P (class_at_is P m i) no_this st.scope es i ++ ctor_rows_is P (class_at_is P m i) k (count es) span i

    own_call_is : (st : State) (es : PlacedTrees) (span : Span) → ctor_call_rows (bare P) m st (class (bare P) m) es span ≡ ctor_call_rows P m st (class P m) es span
    own_call_is st es span = λ i. ctor_call_is st (class_at_is P m i) es span i

    super_call_is : (st : State) (es : PlacedTrees) (span : Span) → ctor_call_rows (bare P) m st (parent (bare P) m) es span ≡ ctor_call_rows P m st (parent P m) es span
    super_call_is st es span = λ i. ctor_call_is st (parent_class_is P (class_at_is P m i) i) es span i

    unwritten_is : (st : State) (span : Span) → unwritten_rows (bare P) m st span ≡ unwritten_rows P m st span
    unwritten_is st span = λ i. when (not (is_under_object (parent_is P (class_at_is P m i) i))) (super_call_is st NoPlacedTrees span i)

    -- ---- initializers

    field_rows_is : (f : Option ℕ) (e : PlacedTree) → field_rows (bare P) m f e ≡ field_rows P m f e
    field_rows_is None e = refl
    field_rows_is (Some f) e = λ i. when (not (static_is P f i)) (expressions.rows_is P (class_at_is P m i) in_initializer [] e i)

    initializer_is : (n : ℕ) (e : Option PlacedTree) → initializer_rows (bare P) m n e ≡ initializer_rows P m n e
    initializer_is n None = refl
    initializer_is n (Some e) = λ i. field_rows_is (declared_field_is P (class_at_is P m i) n (class_at_is P m i) i) e i

    one_member_is : (ds : List PlacedDeclarator) → initializers_rows (bare P) m ds ≡ initializers_rows P m ds
    one_member_is [] = refl
    one_member_is (d ∷ ds) = λ i. initializer_is d.name.name.0 d.value i ++ one_member_is ds i

    member_rows_is : (xs : List PlacedMember) → member_rows (bare P) m xs ≡ member_rows P m xs
    member_rows_is [] = refl
    member_rows_is (x ∷ xs) = λ i. one_member_is (declarators_of x) i ++ member_rows_is xs i

    -- ---- statements

    in_body_is : in_body (bare P) m ≡ in_body P m
    in_body_is = λ i. record { this_stands = not (static_method_is P m i); own_fields = ctor_at_is P m i }

    rest_is : (first : ℕ) (st : State) (xs : PlacedStatements) → all_rows (bare P) (class (bare P) m) first (in_body (bare P) m) st xs ≡ all_rows P (class P m) first (in_body P m) st xs
    rest_is first st xs = λ i. statements.all_is P (class_at_is P m i) first (in_body_is i) st xs i

    -- the state before the statements doesn't depend on those after the call
    begun_alone : (first : ℕ) (ctor : Bool) (st : State) (xs : PlacedStatements) (members : List PlacedMember) → begun P m first ctor st xs members ≡ begun P m first ctor st (call_alone xs) members
    begun_alone first false st xs members = refl
    begun_alone first true st (MorePlacedStatements (PlacedThisCall es span) xs) members = refl
    begun_alone first true st (MorePlacedStatements (PlacedSuperCallStatement es span) xs) members = refl
    begun_alone first true st xs members = refl

    -- and is the one after a body without them
    begun_is : (first : ℕ) (st : State) (xs : PlacedStatements) (members : List PlacedMember) → begun P m first (ctor_of (method_at P m)) st (call_alone xs) members ≡ (whole P m first st (call_alone xs) members).behind
    begun_is first st (MorePlacedStatements (PlacedThisCall es span) xs) members = refl
    begun_is first st (MorePlacedStatements (PlacedSuperCallStatement es span) xs) members = refl
    begun_is first st xs members = refl

module _ (P Q : Program) (h : Alike P Q) where
  module _ (m : ℕ) (named : name_span P m ≡ name_span Q m) where
    unwritten_same : (st : State) → unwritten_rows P m st (name_span P m) ≡ unwritten_rows Q m st (name_span Q m)
    unwritten_same st = carried (λ R. unwritten_rows R m st (name_span P m)) P Q h (unwritten_is P m st (name_span P m)) (unwritten_is Q m st (name_span P m)) ∙ ap (unwritten_rows Q m st) named

    construction_rows_same : (st : State) (xs : PlacedStatements) → construction_rows P m st xs ≡ construction_rows Q m st xs
    construction_rows_same st (MorePlacedStatements (PlacedThisCall es span) xs) = carried (λ R. ctor_call_rows R m st (class R m) es span) P Q h (own_call_is P m st es span) (own_call_is Q m st es span)
    construction_rows_same st (MorePlacedStatements (PlacedSuperCallStatement es span) xs) = carried (λ R. ctor_call_rows R m st (parent R m) es span) P Q h (super_call_is P m st es span) (super_call_is Q m st es span)
    construction_rows_same st xs = unwritten_same st

    members_same : (xs : List PlacedMember) → member_rows P m xs ≡ member_rows Q m xs
    members_same xs = carried (λ R. member_rows R m xs) P Q h (member_rows_is P m xs) (member_rows_is Q m xs)

    rest_same : (first : ℕ) (st : State) (xs : PlacedStatements) → all_rows P (class P m) first (in_body P m) st xs ≡ all_rows Q (class Q m) first (in_body Q m) st xs
    rest_same first st xs = carried (λ R. all_rows R (class R m) first (in_body R m) st xs) P Q h (rest_is P m first st xs) (rest_is Q m first st xs)

    begun_same : (first : ℕ) (st : State) (xs : PlacedStatements) (members : List PlacedMember) → begun P m first (ctor_of (method_at P m)) st xs members ≡ begun Q m first (ctor_of (method_at Q m)) st xs members
    begun_same first st xs members =
        begun_alone P m first (ctor_of (method_at P m)) st xs members
        ∙ begun_is P m first st xs members
        ∙ ap (λ (x : Step). x.behind) (whole_same P Q h m named first st (call_alone xs) members)
        ∙ sym (begun_alone Q m first (ctor_of (method_at Q m)) st xs members ∙ begun_is Q m first st xs members)

    ctor_same : ctor_of (method_at P m) ≡ ctor_of (method_at Q m)
    ctor_same = carried (λ R. ctor_of (method_at R m)) P Q h (ctor_at_is P m) (ctor_at_is Q m)

    whole_rows_same : (first : ℕ) (st : State) (xs : PlacedStatements) (members : List PlacedMember) → whole_rows P m first st xs members ≡ whole_rows Q m first st xs members
    whole_rows_same first st xs members = λ i. when (ctor_same i) (construction_rows_same st xs i ++ when (not (calls_own xs)) (members_same members i)) ++ rest_same first (begun_same first st xs members i) xs i

  source_rows_same : (s : Source) → name_span P s.method ≡ name_span Q s.method → rows_of_source P s ≡ rows_of_source Q s
  source_rows_same s named = λ i. whole_rows_same s.method named (count_same P Q h s.method s.body i) (entry_same P Q h s.method s.parameters i) s.body s.members i

  large_same : (x : Body) → is_too_large P x ≡ is_too_large Q x
  large_same x = carried (λ R. is_too_large R x) P Q h (large_is P x) (large_is Q x)

  -- J6 is looked for where no other row stands, and is that of one body
  limits_same : (rows : List Row) (s : Source) → name_span P s.method ≡ name_span Q s.method → body_of_source P s ≡ body_of_source Q s → limit_rows P rows s ≡ limit_rows Q rows s
  limits_same [] s named same = λ i. when (large_same (same i) i) (row J6 (named i))
  limits_same (r ∷ rs) s named same = refl

-- all rows of a body are the same in alike programs, where the method's name stands at one place and the body is the same
pub rows_same : (P Q : Program) (s : Source) → Alike P Q → name_span P s.method ≡ name_span Q s.method → body_of_source P s ≡ body_of_source Q s → rows_of_body P s ≡ rows_of_body Q s
rows_same P Q s h named same = λ i. source_rows_same P Q h s named i ++ limits_same P Q h (source_rows_same P Q h s named i) s named same i
