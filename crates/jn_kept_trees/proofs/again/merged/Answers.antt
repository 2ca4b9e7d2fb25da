use Rattle.std.proofs.Common.{◌≡◌, map, sym, ◌∙◌, subst}
use Rattle.jn_known.specs.Known.{known_names}
use Rattle.jn_places.specs.PlacedView.{placed_file}
use Rattle.jn_renumber.specs.Merged.{merged}
use Rattle.jn_front.specs.Files.{files_of_reads}
use Rattle.jn_front.specs.Numbered.{numbered_tree}
use Rattle.jn_front.specs.Phases.{AreTreesOf}
use Rattle.jn_kept_trees.proofs.Joins.{are_trees_of, can_be_kept, kept_fit}
use Rattle.jn_kept_trees.proofs.ReadFiles.{as_many}
use Rattle.jn_kept_trees.proofs.Stays.{AreTold, are_among, stay_placed}
use Rattle.jn_kept_trees.proofs.again.merged.Goals as goal

pub merge_all-requires-clause-fit : goal.merge_all-requires-clause-fit
merge_all-requires-clause-fit g c = kept_fit c.texts_have_few_tokens.ensures.names c.args.reads.now c.args.kept.items c.requires.long c.requires.kept

pub returns-clause-trees : goal.returns-clause-trees
returns-clause-trees g c =
    let reads = c.args.reads.now in
    let files = files_of_reads reads in
    let kept = c.args.kept.items in
    let made = c.in_ok-names.field-0 in
    let names = c.own_names_can_be_merged.ensures in
    let trees = c.own_trees_can_be_renumbered.ensures in
    subst (AreTreesOf files made.names) (sym c.in_ok-trees.ensures)
    (are_trees_of (λ all. merged all known_names ≡ all) (λ all own. names.kept all own known_names) (λ file text all own tokens tree. trees.parsed file text known_names all own tokens tree)
    files kept (map numbered_tree made.trees.items) made.texts.items made.names names.begun (c.requires.long ∙ sym (as_many reads)) c.requires.kept c.requires.all c.in_ok-names.ensures.joined)

pub returns-clause-texts : goal.returns-clause-texts
returns-clause-texts g c =
    let reads = c.args.reads.now in
    let made = c.in_ok-names.field-0 in
    can_be_kept (files_of_reads reads) c.args.kept.items (map numbered_tree made.trees.items) made.texts.items made.names c.in_ok-trees.trees.items (c.requires.long ∙ sym (as_many reads)) c.requires.kept c.requires.all c.in_ok-names.ensures.joined c.in_ok-trees.ensures

pub returns-clause-among : goal.returns-clause-among
returns-clause-among g c =
    let flags = c.args.flags.now in
    let same = c.in_ok-same.same.items in
    let trees = c.in_ok-names.field-0.trees.items in
    are_among flags same trees (subst (AreTold flags same) c.as_slice.ensures.value c.in_ok-same.ensures)

pub returns-clause-same : goal.returns-clause-same
returns-clause-same g c =
    let flags = c.args.flags.now in
    let same = c.in_ok-same.same.items in
    let trees = c.in_ok-names.field-0.trees.items in
    let each = subst (AreTold flags same) c.as_slice.ensures.value c.in_ok-same.ensures in
    stay_placed flags same trees each c.args.kept.items (map placed_file c.in_ok-trees.trees.items) c.requires.all c.in_ok-names.ensures.raw c.in_ok-trees.ensures
