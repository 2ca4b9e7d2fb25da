use Rattle.std.proofs.Common.{◌≡◌}
use Rattle.jn_machine.specs.declared.state.Stepped.TheVariants.{Goes as WillGo}
use Rattle.jn_machine.specs.Printed.{PrintsTo}
use Rattle.jn_machine.proofs.Printing.{runs}
use Rattle.jn_machine.proofs.printed.run_to.Given as goal

abbrev pub invariant-loop : goal.invariant-loop
invariant-loop g l = record {
  told : PrintsTo (runs l.program l.names l.initial.state l.counter) WillGo l.state (g.K.Sink.written l.initial.sink) (g.K.Sink.written l.sink);
  same : g.K.Sink.faults l.sink ≡ g.K.Sink.faults l.initial.sink;
}
