use Rattle.std.proofs.Common.{◌≡◌, [], map, ap, ◌∙◌, inl, inr, subst, sym, arith}
use Rattle.jn_places.specs.PlacedView.{placed_file}
use Rattle.jn_known.specs.Known.{known_names}
use Rattle.jn_renumber.specs.Merged.{merged}
use Rattle.jn_front.specs.Files.{files_of_reads}
use Rattle.jn_front.specs.Outcomes.{lexical_rows, syntax_rows}
use Rattle.jn_front.specs.Phases.{FaultRows, SyntaxRows}
use Rattle.jn_front.proofs.Joining.{as_many, few_names, faults_are, rows_are, are_trees_of}
use Rattle.jn_front.proofs.parsing.put_together.Goals as goal

pub returns-then-not-is_empty-clause-rows : goal.returns-then-not-is_empty-clause-rows
returns-then-not-is_empty-clause-rows g c some =
    let files = files_of_reads c.args.reads.now in
    let are : c.refused.result.rows.items ≡ lexical_rows c.args.outcomes.items = c.refused.ensures.rows ∙ c.in_ok-faults.ensures ∙ ap lexical_rows c.as_slice.ensures.value in
    inl (subst (λ rows. FaultRows 0 files rows) (sym are) (faults_are c.texts_have_one_reading.ensures.faultless 0 files c.args.outcomes.items c.requires.found))

pub returns-then-not-is_empty-2-clause-rows : goal.returns-then-not-is_empty-2-clause-rows
returns-then-not-is_empty-2-clause-rows g c some =
    let files = files_of_reads c.args.reads.now in
    let outcomes = c.args.outcomes.items in
    let names = c.own_names_can_be_merged.ensures in
    let trees = c.own_trees_can_be_renumbered.ensures in
    let faults : c.in_ok-faults.faults.items ≡ lexical_rows outcomes = c.in_ok-faults.ensures ∙ ap lexical_rows c.as_slice.ensures.value in
    let none : lexical_rows outcomes ≡ [] = sym faults ∙ sym c.as_slice-2.ensures.value ∙ c.is_empty.ensures.none c.if-not-is_empty.false in
    let are : c.refused-then-not-is_empty-2.result.rows.items ≡ syntax_rows outcomes = c.refused-then-not-is_empty-2.ensures.rows ∙ c.in_ok-rows.ensures ∙ ap syntax_rows c.as_slice-3.ensures.value in
    let of = rows_are (λ all. merged all known_names ≡ all) (λ all own. names.kept all own known_names) (λ file text all own tokens. names.lexed file text known_names all own tokens)
    (λ file text all own tokens tree has is placed. (trees.parsed file text known_names all own tokens tree has is placed).1) (λ file text all own tokens end row. trees.row file text known_names all own tokens end row)
    0 files outcomes known_names names.begun c.requires.found none in
    inr (of.0, of.1, of.2, subst (λ rows. SyntaxRows 0 files of.1 rows) (sym are) of.3)

pub join_all-requires-clause-many : goal.join_all-requires-clause-many
join_all-requires-clause-many g c κs within = let many = as_many 0 c.args.reads.now c.args.outcomes.items c.requires.found in omega (arith, many, c.requires.few)

pub join_all-requires-clause-few : goal.join_all-requires-clause-few
join_all-requires-clause-few g c κs within = few_names c.texts_have_few_tokens.ensures.names 0 c.args.reads.now c.args.outcomes.items c.requires.found

pub returns-clause-trees : goal.returns-clause-trees
returns-clause-trees g c empty =
    let files = files_of_reads c.args.reads.now in
    let outcomes = c.args.outcomes.items in
    let names = c.own_names_can_be_merged.ensures in
    let trees = c.own_trees_can_be_renumbered.ensures in
    let faults : c.in_ok-faults.faults.items ≡ lexical_rows outcomes = c.in_ok-faults.ensures ∙ ap lexical_rows c.as_slice.ensures.value in
    let none : lexical_rows outcomes ≡ [] = sym faults ∙ sym c.as_slice-2.ensures.value ∙ c.is_empty.ensures.none c.if-not-is_empty.false in
    let rows : c.in_ok-rows.rows.items ≡ syntax_rows outcomes = c.in_ok-rows.ensures ∙ ap syntax_rows c.as_slice-3.ensures.value in
    let rowless : syntax_rows outcomes ≡ [] = sym rows ∙ sym c.as_slice-4.ensures.value ∙ c.is_empty-2.ensures.none c.if-not-is_empty-2.false in
    are_trees_of (λ all. merged all known_names ≡ all) (λ all own. names.kept all own known_names) (λ file text all own tokens. names.lexed file text known_names all own tokens)
    (λ file text all own tokens tree has is placed. (trees.parsed file text known_names all own tokens tree has is placed).1)
    files outcomes c.in_ok-parsed.parsed.names (map placed_file c.in_ok-parsed.parsed.trees.items) names.begun c.requires.found none rowless c.in_ok-parsed.ensures.names c.in_ok-parsed.ensures.trees
