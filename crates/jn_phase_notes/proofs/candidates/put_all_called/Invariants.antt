use Rattle.std.proofs.Common.{◌≡◌, ◌++◌, drop, flat_map}
use Rattle.jn_phase_notes.specs.Possible.{called}
use Rattle.jn_phase_notes.proofs.candidates.put_all_called.Given as goal

abbrev pub invariant-loop-method : goal.invariant-loop-method
invariant-loop-method l = l.found ++ flat_map (called l.program l.name.0 l.arguments) (drop l.method-index l.program.methods) ≡ l.fn.found ++ flat_map (called l.program l.name.0 l.arguments) l.program.methods
