use Rattle.std.proofs.Common.{◌≡◌, ◌++◌, map, take}
use Rattle.jn_notes.specs.Noted.{note_of}
use Rattle.jn_notes.proofs.explain.put_steps.Given as goal

abbrev pub invariant-loop-step : goal.invariant-loop-step
invariant-loop-step l = l.notes.items ≡ l.fn.notes.items ++ map (note_of l.program l.names l.ends) (take l.step-index l.steps)
