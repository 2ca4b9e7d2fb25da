use Rattle.std.proofs.Common.{◌≡◌, take}
use Rattle.jn_notes.specs.Noted.{AreEach}
use Rattle.jn_notes.proofs.explain.notes_of_each.Given as goal

abbrev pub invariant-loop-row : goal.invariant-loop-row
invariant-loop-row l = AreEach l.fn.of.program l.fn.of.names l.fn.of.sig l.fn.of.tables (take l.row-index l.rows) l.list.items × (l.walk ≡ l.fn.of)
