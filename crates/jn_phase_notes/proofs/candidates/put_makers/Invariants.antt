use Rattle.std.proofs.Common.{◌≡◌, ◌++◌, drop, flat_map}
use Rattle.jn_phase_notes.specs.Possible.{maker}
use Rattle.jn_phase_notes.proofs.candidates.put_makers.Given as goal

abbrev pub invariant-loop-method : goal.invariant-loop-method
invariant-loop-method l = l.found ++ flat_map (maker l.program l.class l.arguments) (drop l.method-index l.program.methods) ≡ l.fn.found ++ flat_map (maker l.program l.class l.arguments) l.program.methods
