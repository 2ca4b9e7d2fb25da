use Rattle.std.proofs.Common.{ℕ, List, subst}
use Rattle.nullcheck_lsp_top.specs.Looking.{AreBelow, finds, listing}
use Rattle.nullcheck_lsp_top.proofs.finding.find_below.Goals as goal

pub returns-clause-below : goal.returns-clause-below
returns-clause-below g c =
    let old = listing (g.D.Folder.told c.args.folder.now) (g.D.Folder.faults c.args.folder.now) in
    let new = listing (g.D.Folder.told c.walk.new.folder) (g.D.Folder.faults c.walk.new.folder) in
    let more = finds c.in_ok-more.more.names.items c.in_ok-more.more.missed.items c.in_ok-more.more.unnamed.items in
    (more, subst (λ (path : List ℕ). AreBelow c.args.exclude.now path old new more) c.as_str.ensures (c.in_ok-more.ensures.walks, c.in_ok-more.ensures.counts), c.in_ok-put_found.ensures)
