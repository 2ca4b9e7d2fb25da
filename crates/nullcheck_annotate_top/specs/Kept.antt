-- That annotated texts mean what the files do.
use Rattle.std.specs.Prelude.{ℕ, Bool, List, ◌++◌, drop, map, take}
use Rattle.jn_base.specs.declared.infer.Infer.{Infer}
use Rattle.jn_known.specs.Known.{known_names}
use Rattle.jn_quals.specs.Qualifier.{Qualifier}
use Rattle.jn_trees.specs.declared.token.Token.{Token}
use Rattle.jn_places.specs.Placed.{PlacedFile}
use Rattle.jn_places.specs.Forget.{forget_file}
use Rattle.jn_program_law.specs.FileProgram.{inferring, program_of_files}
use Rattle.jn_places_law.specs.Bare.{Alike}
use Rattle.jn_front.specs.declared.source.SourceFile.{SourceFile}
use Rattle.jn_annotate.specs.Chosen.{chosen_slots}
use Rattle.jn_annotate_law.specs.Kept.{KeptRowless}
use Rattle.jn_annotate_law.specs.Meaning.{AllPlaced, TextsLexed}
use Rattle.jn_annotate_law.specs.Trees.{noted_files}
use Rattle.nullcheck_annotate_top.specs.declared.study.Left.{Left}
use Rattle.nullcheck_annotate_top.specs.Study.{AreAnnotated, texts_of}

-- what annotating keeps of trees with these names and signature
abbrev pub KeptTrees : Infer → Bool → Bool → List (List ℕ) → List PlacedFile → List Qualifier → List (List ℕ) → Type 0
KeptTrees infer terse imports names trees s new =
    KeptRowless terse imports infer names trees s (noted_files (chosen_slots terse (inferring infer trees) s) s (map forget_file trees) (inferring infer trees).fields (drop 1 (inferring infer trees).methods)) new

-- what it keeps of the files' own trees, names and least signature
abbrev pub KeptFiles : (infer : Infer) (terse imports : Bool) (files : List SourceFile) (new : List (List ℕ)) (left : List Left) → AreAnnotated infer terse imports files new left → Type 0
KeptFiles infer terse imports files new left a = KeptTrees infer terse imports a.solved.names a.solved.of_files.of_files.trees a.solved.signature new

-- texts that lex and parse to files with these names and the program of these trees, but for places and what is inferred of it
abbrev pub HaveProgram : List (List ℕ) → List PlacedFile → List (List ℕ) → Type 0
HaveProgram names trees texts = (tokens : List (List Token)) × (places : List PlacedFile) × TextsLexed 0 known_names texts tokens names × AllPlaced tokens places × Alike (program_of_files trees) (program_of_files places)

-- it is so of the files where so many first ones have their annotated texts
abbrev pub KeptBetween : (infer : Infer) (terse imports : Bool) (files : List SourceFile) (new : List (List ℕ)) (left : List Left) → AreAnnotated infer terse imports files new left → ℕ → Type 0
KeptBetween infer terse imports files new left a count = HaveProgram a.solved.names a.solved.of_files.of_files.trees (take count new ++ drop count (texts_of files))
