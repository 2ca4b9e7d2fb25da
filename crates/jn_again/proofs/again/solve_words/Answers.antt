use Rattle.std.proofs.Common.{◌≡◌, subst}
use Rattle.jn_points.specs.declared.program.Program.{Program}
use Rattle.jn_sigtable.specs.System.{least}
use Rattle.jn_inference_law.specs.Inference.{inference}
use Rattle.jn_again.proofs.Editing.{is_ready}
use Rattle.jn_again.proofs.again.solve_words.Goals as goal

pub invariant_of-solve_on : goal.invariant_of-solve_on
invariant_of-solve_on c = record {
  ready = is_ready c.args.old.now.program.now c.args.new.now.program.now c.new-was.result.program.now c.new-is.result.program.now c.new-reach.result.program.now c.args.before.now c.args.start.now c.args.last.now c.args.changed.now c.new-was.ensures c.new-is.ensures c.new-reach.ensures c.requires.flags c.requires.edit;
}

pub returns : goal.returns
returns c = subst (λ (P : Program). c.in_ok-words.words.items ≡ least (inference P) c.args.start.now) c.new-is.ensures c.in_ok-words.ensures
