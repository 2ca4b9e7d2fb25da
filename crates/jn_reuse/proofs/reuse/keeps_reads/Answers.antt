use Rattle.jn_recheck_law.specs.RuleReads.{rule_reads}
use Rattle.jn_reuse.proofs.Told.{agree_same, holds}
use Rattle.jn_reuse.proofs.reuse.keeps_reads.Goals as goal

pub returns-then-equal : goal.returns-then-equal
returns-then-equal c = holds (agree_same c.args.old.now.sig.now c.args.new.now.sig.now (rule_reads c.args.new.now.program.now c.args.body.0) (c.requires.equal c.if-equal.true))
