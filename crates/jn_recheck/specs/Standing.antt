-- What is kept beside the kept program, where that is the program of the files whose trees are kept.
use Rattle.std.specs.Prelude.{◌≡◌, List, Option, Some, None}
use Rattle.jn_base.specs.declared.infer.Infer.{Infer}
use Rattle.jn_places.specs.Placed.{PlacedFile}
use Rattle.jn_points.specs.declared.program.Program.{Program}
use Rattle.jn_kept_points.specs.declared.typing.KeptTyping.{KeptTyping}
use Rattle.jn_kept_points.specs.declared.typing.Unchanged.{Unchanged}
use Rattle.jn_kept_points.specs.Typings.{IsTypingOf, IsUnchangedIn}
use Rattle.jn_kept_trees.specs.declared.kept.KeptTree.{KeptTree}
use Rattle.jn_kept_trees.specs.Staying.{HaveTrees}
use Rattle.jn_recheck_law.specs.Reusable.{Solved}

-- where something is kept, the program is that of files with the trees that are kept of them
abbrev pub StandsOn : Infer → List (Option KeptTree) → Option Solved → Option KeptTyping → Type 0
StandsOn infer trees kept None = Unit {0}
StandsOn infer trees None (Some typing) = ⊥
StandsOn infer trees (Some solved) (Some typing) = (placed : List PlacedFile) × HaveTrees trees placed × IsTypingOf infer placed solved.program typing

-- the program is what is kept
abbrev pub KeepsProgram : Option Solved → Program → Type 0
KeepsProgram None P = ⊥
KeepsProgram (Some solved) P = solved.program ≡ P

-- so it is where there is one; else nothing is kept
abbrev pub KeepsBase : Option Solved → Option Program → Type 0
KeepsBase kept None = kept ≡ None
KeepsBase kept (Some P) = KeepsProgram kept P

-- nothing is kept beside nothing
abbrev pub beside : Option Solved → Option KeptTyping → Option KeptTyping
beside None typing = None
beside (Some solved) typing = typing

-- what is told of the kept program stands in the one that is found
abbrev pub StandsIn : Option Solved → Option Program → Unchanged → Type 0
StandsIn None base unchanged = Unit {0}
StandsIn (Some old) base unchanged = IsUnchangedIn old.program base unchanged
