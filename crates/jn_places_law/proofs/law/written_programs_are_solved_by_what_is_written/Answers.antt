use Rattle.jn_places_law.proofs.Starts.{start_is, closed, not_below, below_others}
use Rattle.jn_places_law.proofs.law.written_programs_are_solved_by_what_is_written.Goals as goal

pub returns : goal.returns
returns c = record { start = start_is; closed = λ P s t h. closed P s h t; starts = not_below; least = λ P s t h. below_others P s h t }
