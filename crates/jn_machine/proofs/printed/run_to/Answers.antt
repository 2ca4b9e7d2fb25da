use Rattle.std.proofs.Common.{◌+◌, arith, subst, sym}
use Rattle.jn_machine.specs.declared.state.Stepped.TheVariants.{Goes as WillGo}
use Rattle.jn_machine.specs.Printed.{PrintsTo}
use Rattle.jn_machine.proofs.Printing.{prints_ended, prints_prefix, prints_stuck, runs}
use Rattle.jn_machine.proofs.printed.run_to.Goals as goal

pub returns-in-Ok-Ends-clause-ok : goal.returns-in-Ok-Ends-clause-ok
returns-in-Ok-Ends-clause-ok g c = prints_ended c.args.program.now c.args.names.now c.args.state.now c.loop.counter c.args.steps c.loop.state c.step_to.new.state c.in-Ok-Ends.end (g.K.Sink.written c.args.sink.now) (g.K.Sink.written c.loop.sink) (g.K.Sink.written c.step_to.new.sink) c.loop-test.true c.loop.invariant.told (rw c.in-Ok-Ends.field-0-is at c.in-Ok-Ends.ensures.ok)

pub returns-in-Ok-Stuck-clause-ok : goal.returns-in-Ok-Stuck-clause-ok
returns-in-Ok-Stuck-clause-ok g c = prints_stuck c.args.program.now c.args.names.now c.args.state.now c.loop.counter c.args.steps c.loop.state c.step_to.new.state (g.K.Sink.written c.args.sink.now) (g.K.Sink.written c.loop.sink) (g.K.Sink.written c.step_to.new.sink) c.loop-test.true c.loop.invariant.told (rw c.in-Ok-Stuck.field-0-is at c.in-Ok-Stuck.ensures.ok)

pub returns-in-Err-WriteFault-clause-prefix : goal.returns-in-Err-WriteFault-clause-prefix
returns-in-Err-WriteFault-clause-prefix g c = λ e. (c.loop.counter + 1, omega arith, prints_prefix c.args.program.now c.args.names.now c.args.state.now c.loop.counter c.loop.state c.step_to.new.state (g.K.Sink.written c.args.sink.now) (g.K.Sink.written c.loop.sink) (g.K.Sink.written c.step_to.new.sink) c.loop.invariant.told (c.in-Err-WriteFault.ensures.prefix (cc)))

pub returns-in-Err-OutOfMemory-clause-memory : goal.returns-in-Err-OutOfMemory-clause-memory
returns-in-Err-OutOfMemory-clause-memory g c = λ e. (
  c.loop.counter,
  c.loop-test.true,
  record {
    state = c.loop.state;
    told = subst (λ w. PrintsTo (runs c.args.program.now c.args.names.now c.args.state.now c.loop.counter) WillGo c.loop.state (g.K.Sink.written c.args.sink.now) w) (sym (c.in-Err-OutOfMemory.ensures.memory (cc))) c.loop.invariant.told;
  },
)
