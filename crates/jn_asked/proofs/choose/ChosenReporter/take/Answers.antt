use Rattle.jn_asked.proofs.Boxing.{left_same}
use Rattle.jn_asked.proofs.choose.ChosenReporter.take.Goals as goal

pub returns-clause-err : goal.returns-clause-err
returns-clause-err g c = left_same c.take.result (λ p. record { reporter = record { ptr = c.args.self.now.reporter.ptr; vtable = p.0; alloc = c.args.self.now.reporter.alloc; value = p.1 } }) _ (c.args.self.now.reporter.vtable, c.args.self.now.reporter.value) c.take.new.self c.deref_box_mut-1.ensures.value.1 c.take.ensures.1.0
