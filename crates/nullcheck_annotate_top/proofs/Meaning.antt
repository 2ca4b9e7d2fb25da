-- Annotated texts of files mean what the files do.
use Rattle.std.proofs.Common.{◌≡◌, ℕ, Bool, ◌+◌, ◌<◌, ◌^◌, List, [], ◌∷◌, ◌++◌, cond, drop, length, map, take, sym, ap, ◌∙◌, subst}
use Rattle.jn_base.specs.declared.infer.Infer.{Infer}
use Rattle.jn_base.specs.declared.place.Row.{Row}
use Rattle.jn_known.specs.Known.{known_names}
use Rattle.jn_quals.specs.Qualifier.{Qualifier}
use Rattle.jn_trees.specs.declared.token.Token.{Token}
use Rattle.jn_places.specs.Placed.{PlacedFile}
use Rattle.jn_places.specs.Forget.{forget_file}
use Rattle.jn_points.specs.declared.program.Program.{Program}
use Rattle.jn_points.specs.declared.program.SlotInfo.{SlotInfo}
use Rattle.jn_points.specs.Regular.{Regular}
use Rattle.jn_inference_law.specs.Solution.{IsLeastSignature}
use Rattle.jn_declaration_rules.specs.Rows.{no_rows}
use Rattle.jn_program_law.specs.FileProgram.{inferring, j_rows, program_of_files, rows_of_files}
use Rattle.jn_front.specs.declared.source.SourceFile.{SourceFile}
use Rattle.jn_front.specs.Phases.{ArePlaced, LexedFrom}
use Rattle.jn_annotate.specs.Annotated.{AreWorded, annotated, annotated_from}
use Rattle.jn_annotate.specs.Chosen.{chosen_slots}
use Rattle.jn_annotate_law.specs.Meaning.{AllPlaced, TextsLexed}
use Rattle.jn_phases.specs.Phases.{ProgramOf, lowering_rows, table_rows}
use Rattle.nullcheck_annotate_top.specs.declared.study.Left.{Left}
use Rattle.nullcheck_annotate_top.specs.Kept.{HaveProgram, KeptBetween, KeptFiles, KeptTrees}
use Rattle.nullcheck_annotate_top.specs.Study.{AreAnnotated, texts_of, tokens_of, trees_of}

-- the law of what annotating keeps
abbrev pub KeepsMeaning : Type 0
KeepsMeaning =
    (terse imports : Bool) (infer : Infer) (texts names new : List (List ℕ)) (tokens : List (List Token)) (trees : List PlacedFile) (s : List Qualifier)
    → TextsLexed 0 known_names texts tokens names → AllPlaced tokens trees
    → rows_of_files trees ≡ [] → length (inferring infer trees).fields < 2 ^ 32 → length (inferring infer trees).methods < 2 ^ 32
    → IsLeastSignature (inferring infer trees) s → AreWorded (chosen_slots terse (inferring infer trees) s) imports (inferring infer trees) s texts tokens (map forget_file trees) new
    → KeptTrees infer terse imports names trees s new

lexed_texts : (k : ℕ) (names : List (List ℕ)) (files : List SourceFile) (tokens : List (List Token)) (last : List (List ℕ)) → LexedFrom k names files tokens last → TextsLexed k names (texts_of files) tokens last
lexed_texts k names [] [] last h = h
lexed_texts k names [] (ts ∷ tss) last h = h
lexed_texts k names (file ∷ files) [] last h = h
lexed_texts k names (file ∷ files) (ts ∷ tss) last h = (h.0, h.1, lexed_texts (k + 1) h.0 files tss last h.2)

placed_all : (tokens : List (List Token)) (trees : List PlacedFile) → ArePlaced tokens trees → AllPlaced tokens trees
placed_all [] [] h = h
placed_all [] (tree ∷ trees) h = h
placed_all (ts ∷ tss) [] h = h
placed_all (ts ∷ tss) (tree ∷ trees) h = (h.0, placed_all tss trees h.1)

rowless : (trees : List PlacedFile) → table_rows trees ≡ [] → lowering_rows trees ≡ [] → rows_of_files trees ≡ []
rowless trees none lowered = ap (λ (rows : List Row). cond (no_rows rows) (j_rows trees) rows) none ∙ lowered

pub keeps_meaning : KeepsMeaning → (infer : Infer) (terse imports : Bool) (files : List SourceFile) (new : List (List ℕ)) (left : List Left) (a : AreAnnotated infer terse imports files new left) → KeptFiles infer terse imports files new left a
keeps_meaning law infer terse imports files new left a =
    let of : ProgramOf infer files a.solved.names a.solved.P = a.solved.of_files.of_files in
    let parsed = of.lowered.declared.parsed in
    let regular : Regular (inferring infer of.trees) = subst Regular of.is of.regular in
    law terse imports infer (texts_of files) a.solved.names new of.tokens of.trees a.solved.signature
    (lexed_texts 0 _ files of.tokens a.solved.names parsed.lexed)
    (placed_all of.tokens of.trees parsed.parsed)
    (rowless of.trees of.lowered.declared.rowless of.lowered.rowless)
    regular.few.fields
    regular.few.methods
    (subst (λ (Q : Program). IsLeastSignature Q a.solved.signature) of.is a.solved.least)
    (subst (λ (Q : Program). AreWorded (chosen_slots terse Q a.solved.signature) imports Q a.solved.signature (texts_of files) (tokens_of infer files a.solved) (trees_of infer files a.solved) new) of.is a.are)

-- the law of files of which only the first ones were replaced
abbrev pub KeepsProgram : Type 0
KeepsProgram =
    (imports : Bool) (slots : List SlotInfo) (s : List Qualifier) (texts names : List (List ℕ)) (tokens : List (List Token)) (trees : List PlacedFile) (count : ℕ)
    → TextsLexed 0 known_names texts tokens names → AllPlaced tokens trees
    → HaveProgram names trees (take count (annotated_from imports slots s texts tokens (map forget_file trees) (program_of_files trees).fields (drop 1 (program_of_files trees).methods)) ++ drop count texts)

pub keeps_program : KeepsProgram → (infer : Infer) (terse imports : Bool) (files : List SourceFile) (new : List (List ℕ)) (left : List Left) (a : AreAnnotated infer terse imports files new left) (count : ℕ) → KeptBetween infer terse imports files new left a count
keeps_program law infer terse imports files new left a count =
    let of : ProgramOf infer files a.solved.names a.solved.P = a.solved.of_files.of_files in
    let parsed = of.lowered.declared.parsed in
    let s = a.solved.signature in
    let tokens = of.tokens in
    let bare = trees_of infer files a.solved in
    let made : new ≡ annotated imports (chosen_slots terse (inferring infer of.trees) s) (inferring infer of.trees) s (texts_of files) tokens bare = a.are.are ∙ ap (λ (Q : Program). annotated imports (chosen_slots terse Q s) Q s (texts_of files) tokens bare) of.is in
    subst (λ xs. HaveProgram a.solved.names of.trees (take count xs ++ drop count (texts_of files))) (sym made)
    (law imports (chosen_slots terse (inferring infer of.trees) s) s (texts_of files) a.solved.names tokens of.trees count (lexed_texts 0 _ files tokens a.solved.names parsed.lexed) (placed_all tokens of.trees parsed.parsed))
