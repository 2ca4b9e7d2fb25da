use Rattle.std.proofs.Common.{◌≡◌, take}
use Rattle.nullcheck_lsp_top.specs.Reading.{AreRead, source}
use Rattle.nullcheck_lsp_top.proofs.texts.read_files.Given as goal

abbrev pub invariant-loop-name : goal.invariant-loop-name
invariant-loop-name g l = record {
  held : g.F.Files.held l.files ≡ g.F.Files.held l.fn.files;
  read : AreRead (g.F.Files.held l.fn.files) (take l.name-index l.names) (source (g.F.Files.gave l.fn.files) (g.F.Files.faults l.fn.files)) (source (g.F.Files.gave l.files) (g.F.Files.faults l.files)) l.reads.files l.reads.lost;
}
