use Rattle.std.proofs.Common.{sym, subst}
use Rattle.jn_note_words.specs.Owned.{AreOwners}
use Rattle.jn_points.specs.declared.program.Program.{Program}
use Rattle.jn_reasons_law.specs.declared.item.Bit.TheVariants.{Nullable, Free}
use Rattle.jn_lsp_solved.proofs.Reasoning.{bit_notes, least_for, tables_for}
use Rattle.jn_lsp_solved.proofs.reasons.reasons_by.Goals as goal

pub new-of-requires-clause-least : goal.new-of-requires-clause-least
new-of-requires-clause-least c =
    let p = c.args.parts.now in
    let o = c.requires.origins in
    least_for p.program.now p.sig.now c.args.origins.now (sym o.program) (sym o.sig) c.requires.hold.least

pub new-of-requires-clause-solved : goal.new-of-requires-clause-solved
new-of-requires-clause-solved c =
    let p = c.args.parts.now in
    let o = c.requires.origins in
    tables_for p.program.now p.sig.now p.tables.now c.args.origins.now (sym o.program) (sym o.sig) (sym o.tables) c.requires.hold.solved

pub new-of-requires-clause-owners : goal.new-of-requires-clause-owners
new-of-requires-clause-owners c = subst (λ (P : Program). AreOwners P c.args.parts.now.owners.now) (sym c.requires.origins.program) c.requires.hold.owners

pub returns : goal.returns
returns c =
    let p = c.args.parts.now in
    let o = c.requires.origins in
    record {
      null = c.in_ok-null.null;
      free = c.in_ok-free.free;
      of_null = bit_notes p.names.now p.program.now p.sig.now p.tables.now c.args.origins.now c.new-of.result c.args.slot Nullable c.in_ok-null.null c.new-of.ensures o.program o.sig o.tables c.in_ok-null.ensures;
      of_free = bit_notes p.names.now p.program.now p.sig.now p.tables.now c.args.origins.now c.new-of.result c.args.slot Free c.in_ok-free.free c.new-of.ensures o.program o.sig o.tables c.in_ok-free.ensures;
      are = c.in_ok-all.ensures;
    }
