use Rattle.std.proofs.Common.{◌≡◌, ◌++◌, drop}
use Rattle.jn_lsp.specs.Telling.{diagnostics_at, told_from}
use Rattle.jn_lsp.proofs.diagnostics.told_of_marked.Given as goal

abbrev pub invariant-loop-at : goal.invariant-loop-at
invariant-loop-at l =
    let diagnostics = diagnostics_at l.marked.encoding l.marked.files l.rows l.notes in
    l.told.items ++ told_from diagnostics l.at (drop l.at l.files) ≡ told_from diagnostics 0 l.files
