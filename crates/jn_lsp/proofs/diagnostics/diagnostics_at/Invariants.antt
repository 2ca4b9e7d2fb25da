use Rattle.std.proofs.Common.{◌≡◌, ◌++◌, drop}
use Rattle.jn_lsp.specs.Telling.{diagnostics_at}
use Rattle.jn_lsp.proofs.diagnostics.diagnostics_at.Given as goal

abbrev pub invariant-loop-at : goal.invariant-loop-at
invariant-loop-at l =
    let there = diagnostics_at l.marked.encoding l.marked.files in
    l.diagnostics ++ there (drop l.at l.rows) (drop l.at l.notes) l.file ≡ there l.rows l.notes l.file
