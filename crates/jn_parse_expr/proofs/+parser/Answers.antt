use Rattle.std.proofs.Common.{◌≡◌, refl, rules, ◌-◌, ◌<◌, List, [], ◌∷◌, sym, subst, ap, ◌∙◌, arith, length, ◌++◌, Some, None, IfOk, suc, max}
use Rattle.std.proofs.lemmas.List.{length-map}
use Rattle.jn_trees.specs.declared.token.Token.{Token}
use Rattle.jn_trees.specs.declared.token.TokenKind.TheVariants.{Id, LeftBracket, RightBracket}
use Rattle.jn_trees.specs.declared.expression.Expr.{Expr}
use Rattle.jn_trees.specs.Trees.{Tree, SuperCallTree, NewTree, ArrayOfTree, PrefixTree}
use Rattle.jn_trees.specs.WellFormed.{nesting, nesting_all}
use Rattle.jn_trees.specs.View.{view, views, annotation_names, base_view}
use Rattle.jn_trees.specs.Pieces.{kinds}
use Rattle.jn_parse_expr_law.specs.Reader.{Got, reader, choose, assign, grow, link, primary, trim, prefix, build, build_all, head, super_call, creation, annotations, array_behind, arguments, arguments_in, elements_in, all_items}
use Rattle.jn_parse_expr_law.proofs.Sound.{sound}
use Rattle.jn_parse_expr.specs.Steps.{ReadAs, TailAs, IsLinked, signed_by}
use Rattle.jn_parse_expr.proofs.Going.{stopped, went}
use Rattle.jn_parse_expr.proofs.Linked.{head_linked, link_linked}
use Rattle.jn_parse_expr.proofs.Heads.{creation_is, from_none, from_some, left_is, prefix_sign, prefix_step}
use Rattle.jn_parse_expr.proofs.Parts.{read_moves, conditional_is, whole_is, unary_is, primary_starts, items_start, items_end, items_go, read_shorter, nesting_push}
use Rattle.jn_parse_expr.proofs.Levels.{Ended, operand_starts, operand_none, climbs, climbed, ended_above, ended_below, ended_at}
use Rattle.jn_parse_expr.proofs.+parser.Goals as goal
use Rattle.jn_parse_expr.proofs.+parser.Goals.{operators::read_operand-then-next-level-via-then-next-level, operators::read_operand-then-next-level-via-else-next-level+then-next-power}

pub whole::read_conditional-returns-in_ok-go_with-in-Some : goal.whole::read_conditional-returns-in_ok-go_with-in-Some
whole::read_conditional-returns-in_ok-go_with-in-Some t c =
    let h = rw c.in-Some.is at c.in_ok-read_operand.ensures in
    let tail = c.in_ok-tail-in-Some.ensures (view c.in-Some.left.value) h.1 in
    let r = c.in_ok-go_with-in-Some.ensures c.args.depth (choose (reader (c.args.depth - 1)) c.args.depth (view c.in-Some.left.value) (kinds c.in-Some.rest.now)) h.2 tail in
    (conditional_is c.args.depth (kinds c.args.tokens.now) (view c.in-Some.left.value) (kinds c.in-Some.rest.now) h.0 ∙ r.0, r.1, r.2)

pub whole::read_whole-returns-in_ok-go_with-in-Some : goal.whole::read_whole-returns-in_ok-go_with-in-Some
whole::read_whole-returns-in_ok-go_with-in-Some t c =
    let same : c.deref.result.now ≡ c.in-Some.left.value = search rules in
    let h = rw c.in-Some.is at c.in_ok-read_conditional.ensures in
    let tail = subst (λ (x : Expr). TailAs c.args.depth (view x) c.in_ok-tail-in-Some.tail (assign (reader (c.args.depth - 1)) c.args.depth (view x) (kinds c.in-Some.rest.now))) same c.in_ok-tail-in-Some.ensures in
    let r = c.in_ok-go_with-in-Some.ensures c.args.depth (assign (reader (c.args.depth - 1)) c.args.depth (view c.in-Some.left.value) (kinds c.in-Some.rest.now)) h.2 tail in
    (whole_is c.args.depth (kinds c.args.tokens.now) (view c.in-Some.left.value) (kinds c.in-Some.rest.now) h.0 ∙ r.0, r.1, r.2)

pub operators::read_operand-returns-then-power-eq0 : goal.operators::read_operand-returns-then-power-eq0
operators::read_operand-returns-then-power-eq0 t c =
    subst (λ o. IfOk c.read_unary.result (λ r. ReadAs c.args.depth r o)) (unary_is c.args.depth c.args.power (kinds c.args.tokens.now) (omega (arith, c.if-depth-eq0.false)) c.if-power-eq0.true) c.read_unary.ensures

pub operators::read_operand-operators-init : goal.operators::read_operand-operators-init
operators::read_operand-operators-init t c =
    let h = rw c.in-Some.is at c.in_ok-read_unary.ensures in
    let deep : 0 < c.args.depth = omega (arith, c.if-depth-eq0.false) in
    record {
      some_depth = deep;
      lower = omega (arith, c.if-power-eq0.false);
      small = c.requires;
      fits = h.2;
      nests = h.1;
      on = operand_starts c.args.depth 0 (kinds c.args.tokens.now) (view c.in-Some.first.value, kinds c.in-Some.first_rest.now) deep
          (sym (unary_is c.args.depth 0 (kinds c.args.tokens.now) deep refl) ∙ h.0) c.in-Some.first_nested;
    }

pub operators::read_operand-operators-preserved : goal.operators::read_operand-operators-preserved
operators::read_operand-operators-preserved t c =
    let inv = c.operators.invariant in
    let next = c.power_at-next.result in
    let got : Got = (view c.operators.left.value, kinds c.operators.rest.now) in
    let h = rw c.in-Some-2.is at (c.in_ok-grow_tail-in-Some.ensures.gives (view c.operators.left.value) inv.nests) in
    let rises = rw c.in-Some-2.is at c.in_ok-grow_tail-in-Some.ensures.rises in
    let built = c.in_ok-left-in-Some-2.ensures in
    record {
      some_depth = inv.some_depth;
      lower = omega (arith, c.if-next-level.false, c.if-next-power.false);
      small = inv.small;
      fits = h.2;
      nests = h.1 ∙ ap nesting (sym built);
      on = went (grow (reader (c.args.depth - 1)) c.args.depth (next - 1)) c.args.depth c.operators.nested c.in-Some-2.deeper
          got (view c.in_ok-left-in-Some-2.left.value, kinds c.in-Some-2.after.now) ((reader c.args.depth).operand (suc (next - 1)) (kinds c.args.tokens.now))
          (climbs c.args.depth c.operators.nested got (kinds c.args.tokens.now) inv.some_depth c.operators.level (next - 1) (omega (arith, c.if-next-level.false))
          inv.on (ended_above c.args.depth got c.operators.level (next - 1) next c.power_at-next.ensures (omega (arith, c.if-next-level.false))))
          (h.0 ∙ ap (λ x. Some (x, kinds c.in-Some-2.after.now)) (sym built)) (omega (arith, rises, h.2)) rises;
    }

pub operators::read_operand-returns-then-next-level : goal.operators::read_operand-returns-then-next-level
operators::read_operand-returns-then-next-level t c =
    let inv = c.operators.invariant in
    let next = c.power_at-next.result in
    let got : Got = (view c.operators.left.value, kinds c.operators.rest.now) in
    let ended : Ended c.args.depth got c.operators.level c.args.power = elim c.then-next-level.branch [
      | operators::read_operand-then-next-level-via-then-next-level w ↦ ended_below c.args.depth got c.operators.level c.args.power next c.power_at-next.ensures w.if-next-level.true
      | operators::read_operand-then-next-level-via-else-next-level+then-next-power w ↦ ended_above c.args.depth got c.operators.level c.args.power next c.power_at-next.ensures w.if-next-power.true
    ] in
    (climbed c.args.depth c.operators.nested got (kinds c.args.tokens.now) inv.some_depth c.operators.level c.args.power inv.lower inv.on ended, inv.nests, inv.fits)

pub operators::read_operand-returns-in-None-2 : goal.operators::read_operand-returns-in-None-2
operators::read_operand-returns-in-None-2 t c =
    let inv = c.operators.invariant in
    let next = c.power_at-next.result in
    let got : Got = (view c.operators.left.value, kinds c.operators.rest.now) in
    let none = rw c.in-None-2.is at (c.in_ok-grow_tail-in-Some.ensures.gives (view c.operators.left.value) inv.nests) in (
      climbed c.args.depth c.operators.nested got (kinds c.args.tokens.now) inv.some_depth c.operators.level c.args.power inv.lower inv.on
          (ended_at c.args.depth got c.operators.level c.args.power next c.power_at-next.ensures (omega (arith, c.if-next-level.false)) none),
      inv.nests,
      inv.fits,
    )

pub operators::read_operand-returns : goal.operators::read_operand-returns
operators::read_operand-returns t c =
    operand_none c.args.depth c.args.power (kinds c.args.tokens.now) (omega (arith, c.if-depth-eq0.false)) (rw c.in-None.is at c.in_ok-read_unary.ensures)

pub primary::read_primary-links-init : goal.primary::read_primary-links-init
primary::read_primary-links-init t c =
    let h = rw c.in-Some.is at c.in_ok-read_head.ensures in
    record {
      some_depth = c.requires;
      fits = h.2;
      nests = h.1;
      linked = head_linked (reader (c.args.depth - 1)) (c.args.depth - 1) (sound (c.args.depth - 1)) (kinds c.args.tokens.now) (view c.in-Some.first.value) (kinds c.in-Some.first_rest.now) h.0 0 (kinds c.args.tokens.now);
      on = primary_starts (reader (c.args.depth - 1)) c.args.depth (kinds c.args.tokens.now) (view c.in-Some.first.value) (kinds c.in-Some.first_rest.now) h.0 c.in-Some.first_nested;
    }

pub primary::read_primary-links-preserved : goal.primary::read_primary-links-preserved
primary::read_primary-links-preserved t c =
    let inv = c.links.invariant in
    let same : c.deref.result.now ≡ c.links.tree.value = search rules in
    let found = rw c.in-Some-2.is at c.in_ok-link_tail-in-Some.ensures.gives in
    let h = subst (λ (x : Expr). TailAs c.args.depth (view x) (Some (c.in-Some-2.tail, c.in-Some-2.deeper, c.in-Some-2.after)) (link (reader (c.args.depth - 1)) c.args.depth (view x) (kinds c.links.rest.now))) same found in
    let rises = rw c.in-Some-2.is at c.in_ok-link_tail-in-Some.ensures.rises in
    let built = c.in_ok-tree-in-Some-2.ensures in
    let step = h.0 ∙ ap (λ (x : Tree). Some (x, kinds c.in-Some-2.after.now)) (sym built) in
    record {
      some_depth = inv.some_depth;
      fits = h.2;
      nests = h.1 ∙ ap nesting (sym built);
      linked = subst (λ n. IsLinked (kinds c.args.tokens.now) (view c.in_ok-tree-in-Some-2.tree.value) n (kinds c.links.rest.now) (kinds c.in-Some-2.after.now)) (sym inv.nests)
          (link_linked (reader (c.args.depth - 1)) (c.args.depth - 1) c.args.depth (sound (c.args.depth - 1)) (kinds c.args.tokens.now) (view c.links.tree.value) (kinds c.links.rest.now) (view c.in_ok-tree-in-Some-2.tree.value) (kinds c.in-Some-2.after.now) step);
      on = went (link (reader (c.args.depth - 1)) c.args.depth) c.args.depth c.links.nested c.in-Some-2.deeper
          (view c.links.tree.value, kinds c.links.rest.now) (view c.in_ok-tree-in-Some-2.tree.value, kinds c.in-Some-2.after.now) (primary (reader (c.args.depth - 1)) c.args.depth (kinds c.args.tokens.now))
          inv.on step (omega (arith, rises, h.2)) rises;
    }

pub primary::read_primary-returns-in-None-2 : goal.primary::read_primary-returns-in-None-2
primary::read_primary-returns-in-None-2 t c =
    let inv = c.links.invariant in
    let same : c.deref.result.now ≡ c.links.tree.value = search rules in
    let found = rw c.in-None-2.is at c.in_ok-link_tail-in-Some.ensures.gives in
    let h = subst (λ (x : Expr). link (reader (c.args.depth - 1)) c.args.depth (view x) (kinds c.links.rest.now) ≡ None) same found in
    (stopped (link (reader (c.args.depth - 1)) c.args.depth) c.args.depth c.links.nested (view c.links.tree.value, kinds c.links.rest.now) (primary (reader (c.args.depth - 1)) c.args.depth (kinds c.args.tokens.now)) inv.on h, inv.nests, inv.fits, inv.linked)

pub primary::read_head-returns-in-Some : goal.primary::read_head-returns-in-Some
primary::read_head-returns-in-Some t c =
    let r = c.in_ok-named.ensures (c.args.depth - 1) c.args.depth (arguments (reader (c.args.depth - 1)).whole (kinds c.in-Some.rest.now)) (omega (arith, c.requires)) c.in_ok-arguments.ensures in
    (ap (λ x. head (reader (c.args.depth - 1)) x) c.in-Some.ensures ∙ r.0, r.1, r.2)

pub primary::read_super-returns-in_ok-super_named-in-Some : goal.primary::read_super-returns-in_ok-super_named-in-Some
primary::read_super-returns-in_ok-super_named-in-Some t c =
    read_moves c.args.depth c.in_ok-super_named-in-Some.field-0 (build_all (λ es. SuperCallTree c.in-Some.name.name es) (arguments (reader (c.args.depth - 1)).whole (kinds c.in-Some.rest.now))) (super_call (reader (c.args.depth - 1)) (kinds c.args.tokens.now))
    (ap (λ x. super_call (reader (c.args.depth - 1)) x) c.in-Some.ensures)
    (c.in_ok-super_named-in-Some.ensures (c.args.depth - 1) c.args.depth (arguments (reader (c.args.depth - 1)).whole (kinds c.in-Some.rest.now)) (omega (arith, c.requires)) c.in_ok-arguments-in-Some.ensures)

pub creation::read_creation-returns-in_ok-object-in-Some-expect : goal.creation::read_creation-returns-in_ok-object-in-Some-expect
creation::read_creation-returns-in_ok-object-in-Some-expect t c =
    read_moves c.args.depth c.in_ok-object-in-Some-expect.field-0 (build_all (λ es. NewTree c.in-Some.class.name es) (arguments_in (reader (c.args.depth - 1)).whole (kinds c.in-Some-expect.inside.now))) (creation (reader (c.args.depth - 1)) (kinds c.args.tokens.now))
    (ap (λ x. creation (reader (c.args.depth - 1)) x) (c.in-Some.ensures ∙ ap (λ x. Id c.in-Some.class.name ∷ x) c.in-Some-expect.ensures))
    (c.in_ok-object-in-Some-expect.ensures (c.args.depth - 1) c.args.depth (arguments_in (reader (c.args.depth - 1)).whole (kinds c.in-Some-expect.inside.now)) (omega (arith, c.requires)) c.in_ok-arguments-in-Some-expect.ensures)

pub creation::read_creation-returns-in-None : goal.creation::read_creation-returns-in-None
creation::read_creation-returns-in-None t c =
    subst (λ o. IfOk c.read_annotated.result (λ r. ReadAs c.args.depth r o)) (sym (creation_is (reader (c.args.depth - 1)) (kinds c.args.tokens.now) c.in-None.ensures)) c.read_annotated.ensures

pub creation::read_annotated-returns-in-None : goal.creation::read_annotated-returns-in-None
creation::read_annotated-returns-in-None t c =
    from_none (reader (c.args.depth - 1)) (annotations (kinds c.args.tokens.now)).0 (annotations (kinds c.args.tokens.now)).1 (rw c.in-None.is at c.in_ok-read_element.ensures)

pub creation::read_annotated-returns-in-Some : goal.creation::read_annotated-returns-in-Some
creation::read_annotated-returns-in-Some t c =
    let h = rw c.in-Some.is at c.in_ok-read_element.ensures in
    subst (λ o. IfOk c.read_array.result (λ r. ReadAs c.args.depth r o))
    (sym (from_some (reader (c.args.depth - 1)) (annotations (kinds c.args.tokens.now)).0 (annotation_names c.in-Some.element.value.annotations.items) (annotations (kinds c.args.tokens.now)).1 (base_view c.in-Some.element.value.base) (kinds c.in-Some.rest.now) h.0 h.1))
    c.read_array.ensures

pub creation::read_array-returns-in_ok-array_of-in-Some-expect-2 : goal.creation::read_array-returns-in_ok-array_of-in-Some-expect-2
creation::read_array-returns-in_ok-array_of-in-Some-expect-2 t c =
    read_moves c.args.depth c.in_ok-array_of-in-Some-expect-2.field-0 (build_all (λ es. ArrayOfTree (annotation_names c.args.element.value.annotations.items) (base_view c.args.element.value.base) es) (elements_in (reader (c.args.depth - 1)).whole (kinds c.in-Some-expect-2.inside.now))) (array_behind (reader (c.args.depth - 1)) (annotation_names c.args.element.value.annotations.items) (base_view c.args.element.value.base) (kinds c.args.tokens.now))
    (ap (λ x. array_behind (reader (c.args.depth - 1)) (annotation_names c.args.element.value.annotations.items) (base_view c.args.element.value.base) x) (c.in-Some.ensures ∙ ap (λ x. LeftBracket ∷ x) (c.in-Some-expect.ensures ∙ ap (λ x. RightBracket ∷ x) c.in-Some-expect-2.ensures)))
    (c.in_ok-array_of-in-Some-expect-2.ensures (c.args.depth - 1) c.args.depth (elements_in (reader (c.args.depth - 1)).whole (kinds c.in-Some-expect-2.inside.now)) (omega (arith, c.requires)) c.in_ok-elements-in-Some-expect-2.ensures)

pub unary::read_left_side-returns-in_ok-cut-in-Some : goal.unary::read_left_side-returns-in_ok-cut-in-Some
unary::read_left_side-returns-in_ok-cut-in-Some t c =
    let h = rw c.in-Some.is at c.in_ok-read_primary.ensures in
    read_moves c.args.depth c.in_ok-cut-in-Some.field-0 (trim (view c.in-Some.primary.tree.value) (kinds c.in-Some.primary.rest.now)) ((reader c.args.depth).left (kinds c.args.tokens.now))
    (left_is c.args.depth (kinds c.args.tokens.now) (view c.in-Some.primary.tree.value) (kinds c.in-Some.primary.rest.now) (omega (arith, c.if-depth-eq0.false)) h.0)
    (c.in_ok-cut-in-Some.ensures c.args.depth h.2)

pub unary::read_prefix-returns-in_ok-signed-in-Some-sign_of : goal.unary::read_prefix-returns-in_ok-signed-in-Some-sign_of
unary::read_prefix-returns-in_ok-signed-in-Some-sign_of t c =
    read_moves c.args.depth c.in_ok-signed-in-Some-sign_of.field-0 (signed_by c.args.depth c.in-Some-sign_of.operator (kinds c.in-Some.rest.now) ((reader (c.args.depth - 1)).operand 0 (kinds c.in-Some.rest.now))) (prefix (reader (c.args.depth - 1)) c.args.depth (kinds c.args.tokens.now))
    (ap (λ x. prefix (reader (c.args.depth - 1)) c.args.depth x) c.in-Some.ensures ∙ prefix_sign (reader (c.args.depth - 1)) c.args.depth c.in-Some.first c.in-Some-sign_of.operator (kinds c.in-Some.rest.now) (sym c.in-Some-sign_of.ensures))
    (c.in_ok-signed-in-Some-sign_of.ensures (c.args.depth - 1) ((reader (c.args.depth - 1)).operand 0 (kinds c.in-Some.rest.now)) (omega (arith, c.requires)) c.in_ok-operand-in-Some-sign_of.ensures)

pub unary::read_prefix-returns-in_ok-stepped-in-Some-step_of : goal.unary::read_prefix-returns-in_ok-stepped-in-Some-step_of
unary::read_prefix-returns-in_ok-stepped-in-Some-step_of t c =
    read_moves c.args.depth c.in_ok-stepped-in-Some-step_of.field-0 (build (λ p. PrefixTree c.in-Some-step_of.step p) ((reader (c.args.depth - 1)).left (kinds c.in-Some.rest.now))) (prefix (reader (c.args.depth - 1)) c.args.depth (kinds c.args.tokens.now))
    (ap (λ x. prefix (reader (c.args.depth - 1)) c.args.depth x) c.in-Some.ensures ∙ prefix_step (reader (c.args.depth - 1)) c.args.depth c.in-Some.first c.in-Some-step_of.step (kinds c.in-Some.rest.now) (sym c.in-None-sign_of.ensures) (sym c.in-Some-step_of.ensures))
    (c.in_ok-stepped-in-Some-step_of.ensures (c.args.depth - 1) c.args.depth ((reader (c.args.depth - 1)).left (kinds c.in-Some.rest.now)) (omega (arith, c.requires)) c.in_ok-target-in-Some-step_of.ensures)

pub arguments::read_items-items-init : goal.arguments::read_items-items-init
arguments::read_items-items-init t c =
    let empty = c.new-all.ensures.items in
    record {
      fits = omega arith;
      nests = ap (λ xs. nesting_all (views xs)) (sym empty);
      on = items_start (reader c.args.depth).whole (kinds c.args.tokens.now) c.new-all.result.items empty;
    }

pub arguments::read_items-returns-in-None-expect : goal.arguments::read_items-returns-in-None-expect
arguments::read_items-returns-in-None-expect t c =
    let inv = c.items.invariant in
    let h = rw c.in-Some.is at c.in_ok-read_whole.ensures in
    let more : c.put.new.items.items ≡ c.items.all.items ++ c.in-Some.item.value ∷ [] = search rules in
    let end = items_end (reader c.args.depth).whole c.items.all.items (kinds c.items.left.now) (all_items (reader c.args.depth).whole (kinds c.args.tokens.now)) c.in-Some.item.value (kinds c.in-Some.rest.now) inv.on h.0 c.in-None-expect.ensures in
    let deep : c.larger-nested.result ≡ nesting_all (views c.put.new.items.items) =
    c.larger-nested.ensures ∙ ap (λ x. max x c.in-Some.deeper) inv.nests ∙ ap (λ x. max (nesting_all (views c.items.all.items)) x) h.1 ∙ sym (nesting_push c.items.all.items c.in-Some.item.value) ∙ ap (λ xs. nesting_all (views xs)) (sym more) in
    (end ∙ ap (λ (xs : List Expr). Some (views xs, kinds c.in-Some.rest.now)) (sym more), deep, omega (arith, c.larger-nested.ensures, inv.fits, h.2))

pub arguments::read_items-items-smaller : goal.arguments::read_items-items-smaller
arguments::read_items-items-smaller t c =
    let h = rw c.in-Some.is at c.in_ok-read_whole.ensures in
    let short = read_shorter c.args.depth (kinds c.items.left.now) (view c.in-Some.item.value) (kinds c.in-Some.rest.now) h.0 in
    let long : length (kinds c.in-Some.rest.now) ≡ suc (length (kinds c.in-Some-expect.after.now)) = ap length c.in-Some-expect.ensures in
    let before = length-map c.items.left.now (λ (x : Token). x.kind) in
    let behind = length-map c.in-Some-expect.after.now (λ (x : Token). x.kind) in
    let less : length c.in-Some-expect.after.now < length c.items.left.now = omega (arith, short, long, before, behind) in
    less

pub arguments::read_items-items-preserved : goal.arguments::read_items-items-preserved
arguments::read_items-items-preserved t c =
    let inv = c.items.invariant in
    let h = rw c.in-Some.is at c.in_ok-read_whole.ensures in
    let more : c.put.new.items.items ≡ c.items.all.items ++ c.in-Some.item.value ∷ [] = search rules in
    let deep : c.larger-nested.result ≡ nesting_all (views c.put.new.items.items) =
    c.larger-nested.ensures ∙ ap (λ x. max x c.in-Some.deeper) inv.nests ∙ ap (λ x. max (nesting_all (views c.items.all.items)) x) h.1 ∙ sym (nesting_push c.items.all.items c.in-Some.item.value) ∙ ap (λ xs. nesting_all (views xs)) (sym more) in
    record {
      fits = omega (arith, c.larger-nested.ensures, inv.fits, h.2);
      nests = deep;
      on = items_go c.args.depth c.items.all.items (kinds c.items.left.now) (all_items (reader c.args.depth).whole (kinds c.args.tokens.now)) c.in-Some.item.value (kinds c.in-Some.rest.now) (kinds c.in-Some-expect.after.now) c.put.new.items.items inv.on h.0 c.in-Some-expect.ensures more;
    }
