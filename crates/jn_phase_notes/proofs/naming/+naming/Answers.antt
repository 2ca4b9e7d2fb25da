use Rattle.jn_refused_notes.proofs.Shown.{on_ok}
use Rattle.jn_phase_notes.proofs.Forms.{block_named}
use Rattle.jn_phase_notes.proofs.naming.+naming.Goals as goal

pub statement-returns-in-Block : goal.statement-returns-in-Block
statement-returns-in-Block t c = on_ok c.statements.result (λ h. block_named c.args.within.own c.args.within.parent c.args.tree.now c.in-Block.inner c.in-Block.span _ _ _ c.in-Block.is c.deref.ensures.value h) c.statements.ensures
