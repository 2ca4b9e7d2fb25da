use Rattle.jn_recheck_law.proofs.ReadTables.{least_kept}
use Rattle.jn_recheck_law.proofs.SameSends.{sends_kept}
use Rattle.jn_recheck_law.proofs.law.unchanged_bodies_send_the_same.Goals as goal

pub returns : goal.returns
returns c = record {
  table = λ old new b t u l. least_kept old.names new.names old.program new.program old.signature new.signature u.declarations b u.body u.slots t l;
  sends = λ old new b t u. sends_kept old.names new.names old.program new.program u.declarations b u.body t;
}
