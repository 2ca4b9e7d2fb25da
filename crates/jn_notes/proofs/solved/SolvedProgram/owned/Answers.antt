use Rattle.std.proofs.Common.{sym, subst}
use Rattle.jn_points.specs.declared.program.Program.{Program}
use Rattle.jn_note_words.specs.Owned.{AreOwners}
use Rattle.jn_notes.proofs.solved.SolvedProgram.owned.Goals as goal

pub new-requires : goal.new-requires
new-requires c = subst (λ (P : Program). AreOwners P c.self.inside.owners.now) (sym c.program.ensures) c.self.invariant.owners_are
