-- What is kept beside the kept program stands on it.
use Rattle.std.proofs.Common.{◌≡◌, List, [], Option, Some, None, refl, sym, subst}
use Rattle.std.specs.Prelude.{IsSome}
use Rattle.jn_base.specs.declared.infer.Infer.{Infer}
use Rattle.jn_places.specs.Placed.{PlacedFile}
use Rattle.jn_points.specs.declared.program.Program.{Program}
use Rattle.jn_kept_points.specs.declared.typing.KeptTyping.{KeptTyping}
use Rattle.jn_kept_points.specs.Typings.{IsKeptOf, IsTypingOf}
use Rattle.jn_kept_trees.specs.declared.kept.KeptTree.{KeptTree}
use Rattle.jn_kept_trees.specs.Staying.{HaveTrees}
use Rattle.jn_recheck_law.specs.Reusable.{Solved}
use Rattle.jn_recheck.specs.Sessions.{or_else}
use Rattle.jn_recheck.specs.Standing.{KeepsBase, StandsOn, beside}

-- where no tree is kept, any files have the kept trees
none_has : (placed : List PlacedFile) → HaveTrees [] placed
none_has placed n one e = absurd (let k : None ≡ Some one = e in cc)

-- what stands on kept trees stands where none is kept any more
pub stands_without : (infer : Infer) (trees : List (Option KeptTree)) (kept : Option Solved) (typing : Option KeptTyping) → StandsOn infer trees kept typing → StandsOn infer [] kept typing
stands_without infer trees kept None stands = tt
stands_without infer trees None (Some typing) stands = absurd stands
stands_without infer trees (Some solved) (Some typing) (placed, have, is) = (placed, none_has placed, is)

-- it stands where what was found is kept in place of what was
pub stands_instead : (infer : Infer) (trees : List (Option KeptTree)) (found old : Option Solved) (typing : Option KeptTyping) → StandsOn infer trees found typing → StandsOn infer trees (or_else found old) typing
stands_instead infer trees found old None stands = tt
stands_instead infer trees None old (Some typing) stands = absurd stands
stands_instead infer trees (Some solved) old (Some typing) stands = stands

-- what comes beside the files' program stands on what is kept of it
pub stands_beside : (infer : Infer) (trees : List (Option KeptTree)) (base : Option Program) (kept : Option Solved) (typing : Option KeptTyping) → (IsSome base → (placed : List PlacedFile) × HaveTrees trees placed × IsKeptOf infer placed base typing) → KeepsBase kept base → StandsOn infer trees kept (beside kept typing)
stands_beside infer trees base None typing found keeps = tt
stands_beside infer trees base (Some solved) None found keeps = tt
stands_beside infer trees None (Some solved) (Some typing) found keeps = absurd (let k : Some solved ≡ None = keeps in cc)
stands_beside infer trees (Some P) (Some solved) (Some typing) found keeps = on (found refl)
  where
    on : (placed : List PlacedFile) × HaveTrees trees placed × IsTypingOf infer placed P typing → (placed : List PlacedFile) × HaveTrees trees placed × IsTypingOf infer placed solved.program typing
    on (placed, have, is) = (placed, have, subst (λ (Q : Program). IsTypingOf infer placed Q typing) (sym keeps) is)
