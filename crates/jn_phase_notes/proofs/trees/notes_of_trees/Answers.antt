use Rattle.std.proofs.Common.{◌≡◌, List, map, subst, ◌∙◌}
use Rattle.std.specs.Prelude.{IfOk}
use Rattle.jn_note_words.specs.declared.note.Notes.{Notes}
use Rattle.jn_places.specs.PlacedView.{placed_file}
use Rattle.jn_phase_notes.proofs.Unread.{all_same}
use Rattle.jn_phase_notes.proofs.trees.notes_of_trees.Goals as goal

pub returns : goal.returns
returns g c =
    let same = all_same c.args.names.now (map placed_file c.args.trees.now) c.args.rows.now c.in_ok-declared.declared c.in_ok-gathered.gathered c.some_typed-typed.result (c.in_ok-declared.ensures ∙ c.in_ok-heads.ensures) c.in_ok-gathered.ensures c.some_typed-typed.ensures in
    subst (λ (all : List Notes). IfOk c.notes_of_declared.result (λ notes. notes.items ≡ all)) same c.notes_of_declared.ensures
