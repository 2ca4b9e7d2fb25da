-- What is found of files with these names and trees.
use Rattle.std.specs.Prelude.{ℕ, List}
use Rattle.jn_base.specs.declared.infer.Infer.{Infer}
use Rattle.jn_places.specs.Placed.{PlacedFile}
use Rattle.jn_front.specs.declared.source.SourceFile.{SourceFile}
use Rattle.jn_phases.specs.declared.typing.Typing.{Typing}
use Rattle.jn_phases.specs.Phases.{IsTypedOr}

abbrev pub IsTyping : Infer → List SourceFile → List (List ℕ) → List PlacedFile → Typing → Type 0
IsTyping infer files names trees typing = IsTypedOr infer files names trees typing.rows typing.base
