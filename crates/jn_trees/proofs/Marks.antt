-- Modifiers at the front, and the test that no two clash.
use Rattle.std.proofs.Common.{◌≡◌, List, [], ◌∷◌, true, ◌&&◌, refl, ap}
use Rattle.jn_base.specs.declared.number.NameNo.{NameNo}
use Rattle.jn_trees.specs.Trees.{Mark, NoteMark, PublicMark, StaticMark, ConstantMark, AbstractMark}
use Rattle.jn_trees.specs.WellFormed.{clashes_none, no_clash}
use Rattle.jn_trees.specs.declared.well_formed.Words.{Words}
use Rattle.jn_trees.specs.Clear.{clear, unless}

note_none : (n : NameNo) (ms : List Mark) → clashes_none (NoteMark n) ms ≡ true
note_none n [] = refl
note_none n (m ∷ ms) = note_none n ms

pub clear_note : (n : NameNo) (w : Words) (ms : List Mark) → clear w (NoteMark n ∷ ms) ≡ clear w ms
clear_note n w ms = ap (λ b. (b && no_clash ms) && (unless w.access PublicMark ms && (unless w.fixed StaticMark ms && (unless w.constant ConstantMark ms && unless w.without_body AbstractMark ms)))) (note_none n ms)
