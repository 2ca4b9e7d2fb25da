use Rattle.std.proofs.Common.{◌≡◌, List, map, refl, sym, ap, ◌∙◌, subst}
use Rattle.std.proofs.lemmas.Option.{IfSome_then}
use Rattle.jn_places.specs.PlacedView.{placed_file}
use Rattle.jn_heads.specs.declared.head.ClassHead.{ClassHead}
use Rattle.jn_heads.specs.Extract.{heads as heads_of}
use Rattle.jn_classtable.specs.Table as tables
use Rattle.jn_heads_law.specs.Plain.{plain_head}
use Rattle.jn_places_law.specs.Bare.{Alike}
use Rattle.jn_heads_law.specs.Heads.{HeadsAlike}
use Rattle.jn_kept_points.proofs.Knowing.{heads_of_table, no_class_rows}
use Rattle.jn_kept_points.proofs.typing.find_trees_again.Goals as goal

pub rebuild-requires-clause-rows : goal.rebuild-requires-clause-rows
rebuild-requires-clause-rows g c =
    let old = c.requires.earlier in
    let same : map plain_head (heads_of old.0) ≡ map plain_head c.in_ok-declared.declared =
    ap (map plain_head) (sym old.1.heads ∙ sym c.as_slice.ensures) ∙ c.if-not-same_heads.ensures refl ∙ ap (map plain_head) c.as_slice-2.ensures in
    no_class_rows (heads_of old.0) c.in_ok-declared.declared (c.alike_heads_have_alike_tables.ensures.rows (heads_of old.0) c.in_ok-declared.declared same) old.1.class_rows

pub rebuild-requires-clause-index : goal.rebuild-requires-clause-index
rebuild-requires-clause-index g c =
    let trees = map placed_file c.args.trees.now in
    let old = c.requires.earlier in
    let same : map plain_head (heads_of old.0) ≡ map plain_head (heads_of trees) =
    ap (map plain_head) (sym old.1.heads ∙ sym c.as_slice.ensures) ∙ c.if-not-same_heads.ensures refl ∙ ap (map plain_head) (c.as_slice-2.ensures ∙ c.in_ok-declared.ensures) in
    let alike : Alike (tables.table (heads_of old.0)) (tables.table (heads_of trees)) = c.alike_heads_have_alike_tables.ensures.tables (heads_of old.0) (heads_of trees) same in
    let declare : HeadsAlike c.args.base.now (tables.table c.in_ok-declared.declared) =
    subst (λ (hs : List ClassHead). HeadsAlike c.args.base.now (tables.table hs)) (sym c.in_ok-declared.ensures) (heads_of_table c.args.infer old.0 trees c.args.base.now c.args.kept.now old.1 alike) in
    IfSome_then c.take_index-index.result c.take_index-index.ensures.index (λ lists serves. c.indexes_serve_alike_programs.ensures c.args.base.now (tables.table c.in_ok-declared.declared) lists declare serves)
