use Rattle.std.proofs.Common.{refl}
use Rattle.jn_notes.specs.Walked.{ground_in}
use Rattle.jn_notes.proofs.Noting.{from_said}
use Rattle.jn_notes.proofs.Saying.{said_inside}
use Rattle.jn_notes.proofs.walk.notes_said.Goals as goal

pub notes_by-requires-clause-inside : goal.notes_by-requires-clause-inside
notes_by-requires-clause-inside c = let v = c.args.of.now in said_inside (ground_in v) v.program c.args.item c.in-Some.found.now refl (c.requires.said c.args.item c.in-Some.found.now c.in-Some.ensures)

pub returns-clause-notes : goal.returns-clause-notes
returns-clause-notes c =
    let v = c.args.of.now in
    from_said v.program v.names v.sig v.tables (ground_in v) c.args.item c.in-Some.found.now c.in_ok-notes-in-Some.notes refl refl refl (c.requires.said c.args.item c.in-Some.found.now c.in-Some.ensures) c.requires.chain c.shortest_ways_are_first_chains.ensures c.in_ok-notes-in-Some.ensures.notes
