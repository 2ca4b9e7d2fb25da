use Rattle.std.proofs.Common.{◌≡◌, List, Bool, map, sym, ap, ◌∙◌, subst, subst₂}
use Rattle.std.proofs.lemmas.Result.{IfOk-at_ok, IfOk-weaker}
use Rattle.jn_points.specs.declared.program.Body.{Body}
use Rattle.jn_points.specs.declared.program.Program.{Program}
use Rattle.jn_places.specs.Placed.{PlacedFile}
use Rattle.jn_places.specs.PlacedView.{placed_file}
use Rattle.jn_heads.specs.Extract.{heads as heads_of}
use Rattle.jn_heads.specs.Inferred.{Tabled}
use Rattle.jn_classtable.specs.Table as tables
use Rattle.jn_heads_law.specs.Plain.{plain_head}
use Rattle.jn_places_law.specs.Bare.{Alike}
use Rattle.jn_program.specs.declared.sources.Start.{Start}
use Rattle.jn_program.specs.Known.{AreKnown}
use Rattle.jn_program.specs.Starts.{AreStarts}
use Rattle.jn_program_law.specs.FileSources.{sources}
use Rattle.jn_kept_points.specs.declared.typing.FoundAgain.{FoundAgain}
use Rattle.jn_kept_points.specs.declared.typing.TypedTrees.{TypedTrees}
use Rattle.jn_kept_points.specs.declared.typing.Unchanged.{Unchanged}
use Rattle.jn_kept_points.specs.Stays.{KnownFrom}
use Rattle.jn_kept_points.specs.Typings.{IsKeptOf, IsUnchangedIn}
use Rattle.jn_kept_points.proofs.Knowing.{are_known, are_typed, stands}
use Rattle.jn_kept_points.proofs.typing.find_alike.Given as given
use Rattle.jn_kept_points.proofs.typing.find_alike.Goals as goal
use Rattle.jn_kept_points.proofs.typing.find_alike.Goals.{After-as_slice-in-Ok-known_of-2}

module _ (g : given.Over) (c : After-as_slice-in-Ok-known_of-2 g) where
  abbrev trees : List PlacedFile
  trees = map placed_file c.args.trees.now

  abbrev before : List PlacedFile
  before = c.requires.earlier.0

  alike : Alike (tables.table (heads_of before)) (tables.table (heads_of trees))
  alike = c.alike_heads_have_alike_tables.ensures.tables (heads_of before) (heads_of trees) (ap (map plain_head) (sym c.requires.earlier.1.heads) ∙ c.requires.alike)

  starts : AreStarts trees c.as_slice-in-Ok.result.now
  starts = subst (AreStarts trees) (sym c.as_slice-in-Ok.ensures.value) c.in-Ok.ensures

  new_table : c.indexed.result.now ≡ tables.table (heads_of trees)
  new_table = c.indexed.ensures ∙ ap (λ (t : Tabled). tables.table t.heads) c.requires.table

  told : KnownFrom c.args.base.now c.indexed.result.now c.args.same.now c.args.kept.now.starts.items c.as_slice-in-Ok.result.now c.as_slice-in-Ok-known_of-2.result.now
  told =
      subst (λ (P : Program). KnownFrom P c.indexed.result.now c.args.same.now c.args.kept.now.starts.items c.as_slice-in-Ok.result.now c.as_slice-in-Ok-known_of-2.result.now) c.indexed-old.ensures.is
      (subst₂ (λ (were : List Start) (flags : List Bool). KnownFrom c.indexed-old.result.now c.indexed.result.now c.args.same.now were c.as_slice-in-Ok.result.now flags)
      c.as_slice.ensures.value (sym c.as_slice-in-Ok-known_of-2.ensures.value) c.in-Ok-known_of.ensures)

  bodies : c.as_slice-in-Ok-known_of.result.now ≡ c.args.base.now.bodies
  bodies = c.as_slice-in-Ok-known_of.ensures ∙ ap (λ (P : Program). P.bodies) (c.program.ensures ∙ c.indexed-old.ensures.is)

pub find_with-found-requires-clause-known : goal.find_with-found-requires-clause-known
find_with-found-requires-clause-known g c κs within =
    subst (λ (items : List Body). AreKnown (tables.table (heads_of (trees g c))) (sources (trees g c)) items c.as_slice-in-Ok-known_of-2.result.now) (sym (bodies g c))
    (are_known c.args.infer (before g c) (trees g c) c.args.base.now c.args.kept.now c.requires.earlier.1 (alike g c) c.args.same.now c.as_slice-in-Ok.result.now c.as_slice-in-Ok-known_of-2.result.now
    c.indexed.result.now (new_table g c) c.requires.earlier.2 (starts g c) (told g c) c.lowering_looks_at_no_other_place.ensures.bodies c.lowering_looks_at_no_other_place.ensures.rows)

pub find_with-found-requires-clause-typed : goal.find_with-found-requires-clause-typed
find_with-found-requires-clause-typed g c κs within =
    are_typed c.args.infer (before g c) (trees g c) c.args.base.now c.args.kept.now c.requires.earlier.1 (alike g c) c.args.same.now c.as_slice-in-Ok.result.now c.as_slice-in-Ok-known_of-2.result.now
    c.indexed.result.now (new_table g c) c.requires.earlier.2 (starts g c) (told g c) c.lowering_looks_at_no_other_place.ensures.bodies c.base_typing_looks_at_no_place_of_the_class_table.ensures c.indexed-old.ensures.typed

pub returns-in-Ok-known_of-clause-unchanged : goal.returns-in-Ok-known_of-clause-unchanged
returns-in-Ok-known_of-clause-unchanged g c =
    let old : List PlacedFile = c.requires.earlier.0 in
    let new : List PlacedFile = map placed_file c.args.trees.now in
    let declare : Alike (tables.table (heads_of old)) (tables.table (heads_of new)) =
    c.alike_heads_have_alike_tables.ensures.tables (heads_of old) (heads_of new) (ap (map plain_head) (sym c.requires.earlier.1.heads) ∙ c.requires.alike) in
    let begin : AreStarts new c.in-Ok.starts.items = c.in-Ok.ensures in
    let table : c.indexed.result.now ≡ tables.table (heads_of new) = c.indexed.ensures ∙ ap (λ (t : Tabled). tables.table t.heads) c.requires.table in
    let flagged : KnownFrom c.args.base.now c.indexed.result.now c.args.same.now c.args.kept.now.starts.items c.in-Ok.starts.items c.in-Ok-known_of.known.items =
    subst (λ (P : Program). KnownFrom P c.indexed.result.now c.args.same.now c.args.kept.now.starts.items c.in-Ok.starts.items c.in-Ok-known_of.known.items) c.indexed-old.ensures.is
    (subst₂ (λ (were starts : List Start). KnownFrom c.indexed-old.result.now c.indexed.result.now c.args.same.now were starts c.in-Ok-known_of.known.items)
    c.as_slice.ensures.value c.as_slice-in-Ok.ensures.value c.in-Ok-known_of.ensures) in
    IfOk-weaker c.with_known.result _ (λ (f : FoundAgain). IsUnchangedIn c.args.base.now f.found.typing.base f.unchanged)
    (λ f h. stands c.args.infer old new c.args.base.now c.args.kept.now c.requires.earlier.1 declare c.args.same.now c.in-Ok.starts.items c.in-Ok-known_of.known.items
    c.indexed.result.now table c.requires.earlier.2 begin flagged c.lowering_looks_at_no_other_place.ensures.bodies f.found.typing.base f.found.kept f.unchanged
    (ap (λ (u : Unchanged). u.bodies.items) h.1)
    (IfOk-at_ok (λ (t : TypedTrees). IsKeptOf c.args.infer new t.typing.base t.kept) h.0 c.find_with-found.ensures.kept)) c.with_known.ensures
