use Rattle.std.proofs.Common.{◌∙◌, ap}
use Rattle.jn_points.specs.declared.program.Program.{Program}
use Rattle.jn_note_words.specs.Owned.{owner_of}
use Rattle.jn_note_words.proofs.owners.OwnedProgram.owner_at.Goals as goal

pub returns : goal.returns
returns c = c.owner_at.ensures ∙ c.self.invariant.each c.args.slot ∙ ap (λ (P : Program). owner_of P c.args.slot) c.self.view_is
