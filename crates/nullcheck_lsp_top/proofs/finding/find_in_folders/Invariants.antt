use Rattle.std.proofs.Common.{take}
use Rattle.nullcheck_lsp_top.specs.Looking.{AreInFolders, finds, listing}
use Rattle.nullcheck_lsp_top.proofs.finding.find_in_folders.Given as goal

abbrev pub invariant-loop-home : goal.invariant-loop-home
invariant-loop-home g l =
    AreInFolders l.exclude (take l.home-index l.homes) (listing (g.D.Folder.told l.fn.folder) (g.D.Folder.faults l.fn.folder)) (listing (g.D.Folder.told l.folder) (g.D.Folder.faults l.folder))
    (finds l.found.names.items l.found.missed.items l.found.unnamed.items)
