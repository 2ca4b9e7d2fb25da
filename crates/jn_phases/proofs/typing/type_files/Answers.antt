use Rattle.std.proofs.Common.{List, map, sym, subst}
use Rattle.jn_trees.specs.declared.declaration.FileTree.{FileTree}
use Rattle.jn_places.specs.PlacedView.{placed_file}
use Rattle.jn_front.specs.Files.{files_of_reads}
use Rattle.jn_front.specs.Phases.{AreParsed}
use Rattle.jn_command.proofs.Standing.{all_stand}
use Rattle.jn_phases.specs.declared.typing.TypedFiles.{TypedFiles}
use Rattle.jn_phases.specs.Phases.{IsTypedOr}
use Rattle.jn_phases.proofs.Reporting.{limited_made, limited_none, limited_stands, text_made, text_none, found_all, are_parsed, parsed_all, whole_stands, refused_whole, found_whole}
use Rattle.jn_front.proofs.Kept.{read_from}
use Rattle.jn_phases.proofs.typing.type_files.Goals as goal

pub returns-then-not-no_rows-clause-typed : goal.returns-then-not-no_rows-clause-typed
returns-then-not-no_rows-clause-typed g c = limited_made c.args.infer (λ (t : TypedFiles). map placed_file t.trees.items) c.args.reads.now c.in_ok-limits.limits.items c.in_ok-limits.ensures c.refused_texts.result (c.no_rows.ensures.some c.if-not-no_rows.true) c.refused_texts.ensures.rows c.refused_texts.ensures.base

pub returns-then-not-no_rows-2-clause-typed : goal.returns-then-not-no_rows-2-clause-typed
returns-then-not-no_rows-2-clause-typed g c =
    let r = c.refused_texts-then-not-no_rows-2 in
    let some = c.no_rows-2.ensures.some c.if-not-no_rows-2.true in
    text_made c.args.infer (λ (t : TypedFiles). map placed_file t.trees.items) c.args.reads.now c.in_ok-limits.limits.items c.in_ok-limits.ensures (c.no_rows.ensures.none c.if-not-no_rows.false) c.in_ok-parsed.parsed.rows.items r.result (c.in_ok-parsed.ensures.rows some) some r.ensures.rows r.ensures.base

pub find_trees-requires-clause-parsed : goal.find_trees-requires-clause-parsed
find_trees-requires-clause-parsed g c κs lives =
    let reads = c.args.reads.now in
    let names = c.in_ok-parsed.parsed.names in
    let trees = map placed_file c.in_ok-parsed.parsed.trees.items in
    let made = c.in_ok-parsed.ensures.trees (c.no_rows-2.ensures.none c.if-not-no_rows-2.false) in
    let parsed = are_parsed reads c.in_ok-limits.limits.items c.in_ok-limits.ensures (c.no_rows.ensures.none c.if-not-no_rows.false) names made.0 trees (read_from c.args.reads.now) made.1 made.2 in
    (made.0, subst (λ (ts : List FileTree). AreParsed (files_of_reads reads) names made.0 (map placed_file ts)) (sym c.deref.ensures.value) parsed)

pub returns-clause-typed : goal.returns-clause-typed
returns-clause-typed g c =
    let reads = c.args.reads.now in
    let names = c.in_ok-parsed.parsed.names in
    let found = c.in_ok-rows.field-0 in
    let typed = subst (λ (ts : List FileTree). IsTypedOr c.args.infer (files_of_reads reads) names (map placed_file ts) found.rows found.base) c.deref.ensures.value c.in_ok-rows.ensures in
    found_all c.args.infer (λ (t : TypedFiles). map placed_file t.trees.items) reads c.in_ok-limits.limits.items c.in_ok-limits.ensures (c.no_rows.ensures.none c.if-not-no_rows.false) names (map placed_file c.in_ok-parsed.parsed.trees.items) found.rows found.base typed

pub returns-then-not-no_rows-clause-stand : goal.returns-then-not-no_rows-clause-stand
returns-then-not-no_rows-clause-stand g c = limited_stands c.args.reads.now c.in_ok-limits.limits.items c.refused_texts.result c.in_ok-limits.ensures (read_from c.args.reads.now) c.refused_texts.ensures.rows

pub returns-then-not-no_rows-2-clause-stand : goal.returns-then-not-no_rows-2-clause-stand
returns-then-not-no_rows-2-clause-stand g c = whole_stands c.args.reads.now c.in_ok-limits.limits.items c.refused_texts-then-not-no_rows-2.result c.in_ok-limits.ensures (c.no_rows.ensures.none c.if-not-no_rows.false) (read_from c.args.reads.now)

pub returns-clause-stand : goal.returns-clause-stand
returns-clause-stand g c = all_stand c.args.reads.now c.in_ok-limits.limits.items c.in_ok-rows.field-0.rows c.in_ok-limits.ensures (c.no_rows.ensures.none c.if-not-no_rows.false) (read_from c.args.reads.now)

pub returns-then-not-no_rows-clause-whole : goal.returns-then-not-no_rows-clause-whole
returns-then-not-no_rows-clause-whole g c = refused_whole c.args.reads.now c.refused_texts.result c.refused_texts.ensures.base

pub returns-then-not-no_rows-2-clause-whole : goal.returns-then-not-no_rows-2-clause-whole
returns-then-not-no_rows-2-clause-whole g c = refused_whole c.args.reads.now c.refused_texts-then-not-no_rows-2.result c.refused_texts-then-not-no_rows-2.ensures.base

pub returns-clause-whole : goal.returns-clause-whole
returns-clause-whole g c some = found_whole c.args.reads.now c.in_ok-limits.limits.items c.in_ok-limits.ensures (c.no_rows.ensures.none c.if-not-no_rows.false)

pub returns-then-not-no_rows-clause-trees : goal.returns-then-not-no_rows-clause-trees
returns-then-not-no_rows-clause-trees g c = limited_none (λ (t : TypedFiles). map placed_file t.trees.items) c.args.reads.now c.in_ok-limits.limits.items c.in_ok-limits.ensures c.refused_texts.result (c.no_rows.ensures.some c.if-not-no_rows.true) c.refused_texts.ensures.names

pub returns-then-not-no_rows-2-clause-trees : goal.returns-then-not-no_rows-2-clause-trees
returns-then-not-no_rows-2-clause-trees g c =
    let r = c.refused_texts-then-not-no_rows-2 in
    let some = c.no_rows-2.ensures.some c.if-not-no_rows-2.true in
    text_none (λ (t : TypedFiles). map placed_file t.trees.items) c.args.reads.now c.in_ok-limits.limits.items c.in_ok-limits.ensures c.args.infer (c.no_rows.ensures.none c.if-not-no_rows.false) c.files_have_one_front.ensures.apart c.in_ok-parsed.parsed.rows.items r.result (c.in_ok-parsed.ensures.rows some) some r.ensures.names

pub returns-clause-trees : goal.returns-clause-trees
returns-clause-trees g c =
    let reads = c.args.reads.now in
    let limits = c.in_ok-limits.limits.items in
    let names = c.in_ok-parsed.parsed.names in
    let trees = map placed_file c.in_ok-parsed.parsed.trees.items in
    let none = c.no_rows.ensures.none c.if-not-no_rows.false in
    let made = c.in_ok-parsed.ensures.trees (c.no_rows-2.ensures.none c.if-not-no_rows-2.false) in
    parsed_all reads limits c.in_ok-limits.ensures none names made.0 trees (are_parsed reads limits c.in_ok-limits.ensures none names made.0 trees (read_from c.args.reads.now) made.1 made.2)
