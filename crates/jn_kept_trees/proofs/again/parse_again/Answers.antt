use Rattle.std.proofs.Common.{◌≡◌, map, sym, ap, ◌∙◌, subst}
use Rattle.jn_known.specs.Known.{known_names}
use Rattle.jn_renumber.specs.Merged.{merged}
use Rattle.jn_kept_trees.specs.Fresh.{AreFresh, has_tree, lexical_rows, syntax_rows}
use Rattle.jn_kept_trees.proofs.Outcomes.{all_kept, fault_rows, grammar_rows, kept_after, stay_since}
use Rattle.jn_kept_trees.proofs.again.parse_again.Goals as goal

pub put_together-requires-clause-kept : goal.put_together-requires-clause-kept
put_together-requires-clause-kept g c κs within =
    let before = c.in_ok-before.before.items in
    let flags = c.deref-2.result.now in
    let are : flags ≡ map has_tree before = c.deref-2.ensures.value ∙ c.in_ok-flags.ensures ∙ ap (map has_tree) c.deref.ensures.value in
    let updated = c.update_all-kept in
    kept_after c.args.reads.now before flags c.in_ok-fresh.fresh.items are c.in_ok-before.ensures.kept c.in_ok-fresh.ensures updated.result.items updated.ensures.long c.in_ok-before.ensures.long updated.ensures.each

pub put_together-requires-clause-faults : goal.put_together-requires-clause-faults
put_together-requires-clause-faults g c κs within = λ some.
    let before = c.in_ok-before.before.items in
    let flags = c.deref-2.result.now in
    let fresh = c.in_ok-fresh.fresh.items in
    let are : flags ≡ map has_tree before = c.deref-2.ensures.value ∙ c.in_ok-flags.ensures ∙ ap (map has_tree) c.deref.ensures.value in
    fault_rows c.args.reads.now before flags fresh are c.in_ok-before.ensures.kept c.in_ok-fresh.ensures c.texts_have_one_reading.ensures.faultless c.in_ok-faults.faults.items (c.in_ok-faults.ensures ∙ ap lexical_rows c.deref-3.ensures.value)

pub put_together-requires-clause-syntax : goal.put_together-requires-clause-syntax
put_together-requires-clause-syntax g c κs within = λ none.
    let before = c.in_ok-before.before.items in
    let flags = c.deref-2.result.now in
    let fresh = c.in_ok-fresh.fresh.items in
    let are : flags ≡ map has_tree before = c.deref-2.ensures.value ∙ c.in_ok-flags.ensures ∙ ap (map has_tree) c.deref.ensures.value in
    let faults : c.in_ok-faults.faults.items ≡ lexical_rows fresh = c.in_ok-faults.ensures ∙ ap lexical_rows c.deref-3.ensures.value in
    let rows : c.in_ok-syntax.syntax.items ≡ syntax_rows fresh = c.in_ok-syntax.ensures ∙ ap syntax_rows c.deref-4.ensures.value in
    let names = c.own_names_can_be_merged.ensures in
    let trees = c.own_trees_can_be_renumbered.ensures in
    grammar_rows c.args.reads.now before flags fresh are c.in_ok-before.ensures.kept c.in_ok-fresh.ensures
    (λ all. merged all known_names ≡ all) (λ all own. names.kept all own known_names) (λ file text all own tokens. names.lexed file text known_names all own tokens)
    (λ file text all own tokens tree has is placed. (trees.parsed file text known_names all own tokens tree has is placed).1) (λ file text all own tokens end row. trees.row file text known_names all own tokens end row)
    names.begun c.in_ok-syntax.syntax.items (sym faults ∙ none) rows

pub put_together-requires-clause-all : goal.put_together-requires-clause-all
put_together-requires-clause-all g c κs within = λ none rowless.
    let before = c.in_ok-before.before.items in
    let flags = c.deref-2.result.now in
    let fresh = c.in_ok-fresh.fresh.items in
    let are : flags ≡ map has_tree before = c.deref-2.ensures.value ∙ c.in_ok-flags.ensures ∙ ap (map has_tree) c.deref.ensures.value in
    let faults : c.in_ok-faults.faults.items ≡ lexical_rows fresh = c.in_ok-faults.ensures ∙ ap lexical_rows c.deref-3.ensures.value in
    let rows : c.in_ok-syntax.syntax.items ≡ syntax_rows fresh = c.in_ok-syntax.ensures ∙ ap syntax_rows c.deref-4.ensures.value in
    let updated = c.update_all-kept in
    all_kept c.args.reads.now before flags fresh are c.in_ok-before.ensures.kept c.in_ok-fresh.ensures updated.result.items updated.ensures.long c.in_ok-before.ensures.long updated.ensures.each (sym faults ∙ none) (sym rows ∙ rowless)

pub returns-clause-same : goal.returns-clause-same
returns-clause-same g c =
    let reads = c.args.reads.now in
    let before = c.in_ok-before.before.items in
    let flags = c.deref-5.result.now in
    let fresh = c.in_ok-fresh.fresh.items in
    let are : flags ≡ map has_tree before = c.deref-5.ensures.value ∙ c.in_ok-flags.ensures ∙ ap (map has_tree) c.deref.ensures.value in
    let found = subst (λ fs. AreFresh reads fs fresh) (c.deref-2.ensures.value ∙ sym c.deref-5.ensures.value) c.in_ok-fresh.ensures in
    let updated = c.update_all-kept in
    stay_since reads before flags fresh are c.in_ok-before.ensures.kept found updated.result.items updated.ensures.long c.in_ok-before.ensures.long updated.ensures.each c.args.trees.items c.put_together.result c.in_ok-before.ensures.before c.put_together.ensures.among c.put_together.ensures.same
