use Rattle.std.proofs.Common.{take}
use Rattle.nullcheck_lsp_top.specs.Looking.{AreReal, listing}
use Rattle.nullcheck_lsp_top.proofs.finding.real_homes.Given as goal

abbrev pub invariant-loop-home : goal.invariant-loop-home
invariant-loop-home g l =
    AreReal (take l.home-index l.homes) l.after (listing (g.D.Folder.told l.fn.folder) (g.D.Folder.faults l.fn.folder)) (listing (g.D.Folder.told l.folder) (g.D.Folder.faults l.folder))
