-- What files come to, where trees are kept.
use Rattle.std.proofs.Common.{◌≡◌, List, [], map, Option, Some, None, inl, inr, sym, ◌∙◌, subst}
use Rattle.std.specs.Prelude.{IsSome}
use Rattle.jn_base.specs.declared.infer.Infer.{Infer}
use Rattle.jn_base.specs.declared.place.Row.{Row}
use Rattle.jn_places.specs.Placed.{PlacedFile}
use Rattle.jn_places.specs.PlacedView.{placed_file}
use Rattle.jn_diag.specs.Order.{IsOrderOf}
use Rattle.jn_front.specs.declared.source.SourceFile.{SourceFile}
use Rattle.jn_front.specs.declared.source.SourceRead.{SourceRead}
use Rattle.jn_front.specs.Files.{files_of_reads, AreReads}
use Rattle.jn_front.specs.Limits.{limit_rows}
use Rattle.jn_front.specs.Phases.{AreTreesOf, TextRows}
use Rattle.jn_phases.specs.declared.typing.Typing.{Typing}
use Rattle.jn_phases.specs.Phases.{IsPhase, IsTypedOr, PhaseRows}
use Rattle.jn_phases.specs.Typing.{IsTyping}
use Rattle.jn_phases.proofs.Reporting.{are_parsed, found_whole}
use Rattle.jn_kept_points.specs.declared.typing.TypedTrees.{TypedTrees}
use Rattle.jn_kept_points.specs.declared.typing.Unchanged.{Unchanged}
use Rattle.jn_kept_points.specs.Typings.{IsKeptOf, IsUnchangedIn}
use Rattle.jn_points.specs.declared.program.Program.{Program}
use Rattle.jn_kept_trees.specs.declared.again.ParsedAgain.{ParsedAgain}
use Rattle.jn_kept_trees.specs.declared.kept.KeptTree.{KeptTree}
use Rattle.jn_kept_trees.specs.declared.typing.TypedAgain.{TypedAgain}
use Rattle.jn_kept_trees.specs.KeptTrees.{AreAllKept, AreKeptTrees}
use Rattle.jn_kept_trees.specs.Merges.{CanBeKept}
use Rattle.jn_kept_trees.specs.Retyped.{AreParsedAgain, AreTypedAgain}
use Rattle.jn_kept_trees.specs.Staying.{HaveTrees}
use Rattle.jn_kept_trees.proofs.Keeping.{are_kept, nothing_kept}

-- it refuses by these rows, in order
abbrev pub RefusesBy : List Row → TypedAgain → Type 0
RefusesBy rows typed = (sorted : List Row) × IsOrderOf rows sorted × (typed.rows ≡ sorted)

-- the rows are those of the limits
abbrev pub Limited : List SourceRead → List Row → Type 0
Limited reads limits = (files : List SourceFile) → AreReads reads files → limits ≡ limit_rows files

-- what is told of a program is told of the same one
pub unchanged_by : (P : Program) (one two : Option Program) (unchanged : Unchanged) → two ≡ one → IsUnchangedIn P one unchanged → IsUnchangedIn P two unchanged
unchanged_by P one two unchanged e h = subst (λ (base : Option Program). IsUnchangedIn P base unchanged) (sym e) h

never_some : {A : Type 0} (found : Option A) → found ≡ None → IsSome found → ⊥
never_some None e s = absurd cc
never_some (Some x) e s = absurd cc

module _ (infer : Infer) where
  is_phase : (files : List SourceFile) (broken sorted rows : List Row) → PhaseRows infer files broken → IsOrderOf broken sorted → rows ≡ sorted → IsPhase infer files rows
  is_phase files broken sorted rows phase order is = subst (IsPhase infer files) (sym is) (record { broken = broken; phase = phase; order = order })

  refused_or : (files : List SourceFile) (typed : TypedAgain) → typed.base ≡ None → IsPhase infer files typed.rows → (placed : List PlacedFile) × IsTypedOr infer files typed.names placed typed.rows typed.base
  refused_or files typed none phase = ([], subst (λ b. IsTypedOr infer files typed.names [] typed.rows b) (sym none) phase)

  text_phase : (files : List SourceFile) (rows : List Row) → limit_rows files ≡ [] → TextRows files rows → (rows ≡ [] → ⊥) → PhaseRows infer files rows
  text_phase files rows within (inl faulty) some = inl (inr (inl (record { within = within; are = faulty; some = some })))
  text_phase files rows within (inr g) some = inl (inr (inr (record { within = within; names = g.0; tokens = g.1; lexed = g.2; are = g.3; some = some })))

  found_or : (files : List SourceFile) (placed : List PlacedFile) (parsed : ParsedAgain) (found : Typing) (typed : TypedAgain) → typed.names ≡ parsed.names → typed.rows ≡ found.rows → typed.base ≡ found.base → IsTypedOr infer files parsed.names placed found.rows found.base → IsTypedOr infer files typed.names placed typed.rows typed.base
  found_or files placed parsed found typed names rows base is =
      subst (λ n. IsTypedOr infer files n placed typed.rows typed.base) (sym names) (subst (λ r. IsTypedOr infer files parsed.names placed r typed.base) (sym rows) (subst (λ b. IsTypedOr infer files parsed.names placed found.rows b) (sym base) is))

  kept_of : (placed : List PlacedFile) (found : TypedTrees) (typed : TypedAgain) → typed.base ≡ found.typing.base → typed.typing ≡ found.kept → IsKeptOf infer placed found.typing.base found.kept → IsKeptOf infer placed typed.base typed.typing
  kept_of placed found typed base beside is = subst (λ b. IsKeptOf infer placed b typed.typing) (sym base) (subst (λ k. IsKeptOf infer placed found.typing.base k) (sym beside) is)

  -- what is found of files with trees
  pub trees_typed : (reads : List SourceRead) (parsed : ParsedAgain) (found : TypedTrees) (trees : List (Option KeptTree)) (typed : TypedAgain) → AreParsedAgain reads parsed → IsTyping infer (files_of_reads reads) parsed.names (map placed_file parsed.trees.items) found.typing → IsKeptOf infer (map placed_file parsed.trees.items) found.typing.base found.kept
      → AreAllKept (files_of_reads reads) trees → HaveTrees trees (map placed_file parsed.trees.items) → typed.rows ≡ found.typing.rows → typed.base ≡ found.typing.base → typed.names ≡ parsed.names → typed.kept.items ≡ trees → typed.typing ≡ found.kept → AreTypedAgain infer reads typed
  trees_typed reads parsed found trees typed are typing beside all have rows base names kept by =
      let placed = map placed_file parsed.trees.items in
      let all_kept : (files : List SourceFile) → AreReads reads files → AreAllKept files typed.kept.items = λ files read. subst (AreAllKept files) (sym kept) (subst (λ fs. AreAllKept fs trees) (are.whole files read) all) in
      record {
        typed = λ files read. (placed, found_or files placed parsed found.typing typed names rows base (subst (λ fs. IsTypedOr infer fs parsed.names placed found.typing.rows found.typing.base) (are.whole files read) typing));
        kept = λ files read. are_kept files typed.kept.items (all_kept files read);
        all = λ files read within. all_kept files read;
        typing = λ some. (placed, subst (λ ks. HaveTrees ks placed) (sym kept) have, kept_of placed found typed base by beside);
      }

  module _ (reads : List SourceRead) (limits : List Row) (limited : Limited reads limits) where
    -- rows of the limits; nothing is to be kept then
    pub limits_typed : (kept : List (Option KeptTree)) (typed : TypedAgain) → (limits ≡ [] → ⊥) → RefusesBy limits typed → typed.base ≡ None → kept ≡ [] → typed.kept.items ≡ kept → AreTypedAgain infer reads typed
    limits_typed kept typed some by none empty is = record {
      typed = λ files are. refused_or files typed none (is_phase files limits by.0 typed.rows (inl (inl (record { are = limited files are; some = some }))) by.1 by.2);
      kept = λ files are. subst (AreKeptTrees files) (sym (is ∙ empty)) (nothing_kept files);
      all = λ files are within. absurd (some (limited files are ∙ within));
      typing = λ base. absurd (never_some typed.base none base);
    }

    module _ (within : limits ≡ []) where
      -- rows of texts
      pub texts_typed : (rows : List Row) (kept : List (Option KeptTree)) (typed : TypedAgain) → (rows ≡ [] → ⊥) → TextRows (files_of_reads reads) rows → AreAllKept (files_of_reads reads) kept → RefusesBy rows typed → typed.base ≡ None → typed.kept.items ≡ kept → AreTypedAgain infer reads typed
      texts_typed rows kept typed some text all by none is =
          let all_kept : (files : List SourceFile) → AreReads reads files → AreAllKept files typed.kept.items = λ files are. subst (AreAllKept files) (sym is) (subst (λ fs. AreAllKept fs kept) (found_whole reads limits limited within files are) all) in
          record {
            typed = λ files are. refused_or files typed none (is_phase files rows by.0 typed.rows (text_phase files rows (sym (limited files are) ∙ within) (subst (λ fs. TextRows fs rows) (found_whole reads limits limited within files are) text) some) by.1 by.2);
            kept = λ files are. are_kept files typed.kept.items (all_kept files are);
            all = λ files are w. all_kept files are;
            typing = λ base. absurd (never_some typed.base none base);
          }

-- names and trees
pub trees_parsed : (reads : List SourceRead) (limits : List Row) → Limited reads limits → limits ≡ [] → ((files : List SourceFile) × AreReads reads files) → (parsed : ParsedAgain) → AreTreesOf (files_of_reads reads) parsed.names (map placed_file parsed.trees.items) → CanBeKept (files_of_reads reads) parsed.texts.items parsed.trees.items → AreParsedAgain reads parsed
trees_parsed reads limits limited within some parsed made can = record {
  whole = found_whole reads limits limited within;
  parsed = (made.0, are_parsed reads limits limited within parsed.names made.0 (map placed_file parsed.trees.items) some made.1 made.2);
  texts = can;
}
