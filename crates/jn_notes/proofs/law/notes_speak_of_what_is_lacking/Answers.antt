use Rattle.jn_notes.proofs.Lacking.{item_lacks, none_lacks}
use Rattle.jn_notes.proofs.law.notes_speak_of_what_is_lacking.Goals as goal

pub returns-clause-item : goal.returns-clause-item
returns-clause-item c = item_lacks

pub returns-clause-none : goal.returns-clause-none
returns-clause-none c = none_lacks
