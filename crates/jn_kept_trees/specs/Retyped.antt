-- What files come to before their rules are looked at, where trees are kept.
use Rattle.std.specs.Prelude.{◌≡◌, List, [], IsSome, map}
use Rattle.jn_base.specs.declared.infer.Infer.{Infer}
use Rattle.jn_trees.specs.declared.token.Token.{Token}
use Rattle.jn_places.specs.Placed.{PlacedFile}
use Rattle.jn_places.specs.PlacedView.{placed_file}
use Rattle.jn_front.specs.declared.source.SourceFile.{SourceFile}
use Rattle.jn_front.specs.declared.source.SourceRead.{SourceRead}
use Rattle.jn_front.specs.Files.{files_of_reads, AreReads}
use Rattle.jn_front.specs.Limits.{limit_rows}
use Rattle.jn_front.specs.Phases.{AreParsed}
use Rattle.jn_phases.specs.Phases.{IsTypedOr}
use Rattle.jn_kept_points.specs.Typings.{IsKeptOf}
use Rattle.jn_kept_trees.specs.declared.again.ParsedAgain.{ParsedAgain}
use Rattle.jn_kept_trees.specs.declared.typing.TypedAgain.{TypedAgain}
use Rattle.jn_kept_trees.specs.KeptTrees.{AreAllKept, AreKeptTrees}
use Rattle.jn_kept_trees.specs.Merges.{CanBeKept}
use Rattle.jn_kept_trees.specs.Staying.{HaveTrees}

-- the files pass no limit and all have trees, which can be kept
pub record AreParsedAgain (reads : List SourceRead) (made : ParsedAgain) : Type 0 where
  pub whole : (files : List SourceFile) → AreReads reads files → files_of_reads reads ≡ files
  pub parsed : (tokens : List (List Token)) × AreParsed (files_of_reads reads) made.names tokens (map placed_file made.trees.items)
  pub texts : CanBeKept (files_of_reads reads) made.texts.items made.trees.items

-- the rows of the first phase that has any, or a program, and what is to be kept of the files and beside the program
pub record AreTypedAgain (infer : Infer) (reads : List SourceRead) (made : TypedAgain) : Type 0 where
  pub typed : (files : List SourceFile) → AreReads reads files → (placed : List PlacedFile) × IsTypedOr infer files made.names placed made.rows made.base
  pub kept : (files : List SourceFile) → AreReads reads files → AreKeptTrees files made.kept.items
  pub all : (files : List SourceFile) → AreReads reads files → limit_rows files ≡ [] → AreAllKept files made.kept.items
  pub typing : IsSome made.base → (placed : List PlacedFile) × HaveTrees made.kept.items placed × IsKeptOf infer placed made.base made.typing
