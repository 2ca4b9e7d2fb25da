use Rattle.std.proofs.Common.{[], ap, append-nil, sym, ◌∙◌}
use Rattle.jn_machine.specs.StateView.{acted_next}
use Rattle.jn_machine.proofs.Printing.{appends_none}
use Rattle.jn_machine.proofs.printed.step_to.Goals as goal

pub returns-in-Ok-Ends-clause-ok : goal.returns-in-Ok-Ends-clause-ok
returns-in-Ok-Ends-clause-ok g c = record {
  text = [];
  gives = λ out. rw c.in-Ok-Ends.field-0-is at (c.in-Ok-Ends.ensures out ∙ ap (acted_next c.in-Ok-Ends.field-0 c.step_once.new.state) (sym (append-nil out)));
  taken = appends_none (g.K.Sink.written c.args.sink.now);
}
