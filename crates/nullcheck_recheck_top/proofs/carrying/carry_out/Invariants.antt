use Rattle.std.proofs.Common.{◌≡◌, take}
use Rattle.jn_front.specs.Files.{AllHeld}
use Rattle.nullcheck_recheck_top.specs.Carrying.{files_of}
use Rattle.nullcheck_recheck_top.specs.Stepping.{DidAll, world}
use Rattle.nullcheck_recheck_top.proofs.carrying.carry_out.Given as goal

abbrev pub invariant-loop-step : goal.invariant-loop-step
invariant-loop-step g l =
    DidAll l.fn.infer (g.F.Files.held l.fn.files)
    (world (g.F.Files.gave l.fn.files) (g.K.Sink.written l.fn.out) (g.F.Files.faults l.fn.files) (g.K.Sink.faults l.fn.out))
    (world (g.F.Files.gave l.files) (g.K.Sink.written l.out) (g.F.Files.faults l.files) (g.K.Sink.faults l.out))
    (take l.step-index l.steps) l.last l.session
    × (g.F.Files.held l.files ≡ g.F.Files.held l.fn.files)
    × (g.F.Files.steady l.fn.files → AllHeld (g.F.Files.held l.fn.files) (files_of l.steps) → g.F.Files.steady l.files)
