use Rattle.std.proofs.Common.{map, sym, ◌∙◌}
use Rattle.jn_front.specs.Files.{files_of_reads}
use Rattle.jn_places.specs.PlacedView.{placed_file}
use Rattle.jn_phase_notes.proofs.Reading.{by_texts, by_trees}
use Rattle.jn_phase_notes.proofs.phases.notes_of_phase.Goals as goal

pub returns-then-len-eq0 : goal.returns-then-len-eq0
returns-then-len-eq0 g c = by_texts (files_of_reads c.args.reads.now) (map placed_file c.args.trees.now) c.args.rows.now c.args.names.now c.notes_of_texts.result (sym c.len.ensures ∙ c.if-len-eq0.true) c.notes_of_texts.ensures

pub returns-else-len-eq0 : goal.returns-else-len-eq0
returns-else-len-eq0 g c = by_trees (files_of_reads c.args.reads.now) (map placed_file c.args.trees.now) c.args.rows.now c.args.names.now c.notes_of_trees.result (λ none. c.if-len-eq0.false (c.len.ensures ∙ none)) c.notes_of_trees.ensures
