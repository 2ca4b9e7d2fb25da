use Rattle.std.proofs.Common.{◌≡◌}
use Rattle.nullcheck_lsp_top.specs.Answer.{AsksInTime, channels}
use Rattle.nullcheck_lsp_top.specs.Looking.{outside}
use Rattle.nullcheck_lsp_top.proofs.Looping.{Running}
use Rattle.nullcheck_lsp_top.proofs.frames.take_frames.Given as goal

abbrev pub invariant-loop-turn : goal.invariant-loop-turn
invariant-loop-turn g l = record {
  held : g.F.Files.held l.files ≡ g.F.Files.held l.fn.files;
  runs : Running l.setup (g.F.Files.held l.fn.files)
      (channels (g.S.Stream.given l.fn.input) (g.S.Stream.ended l.fn.input) (g.S.Stream.faults l.fn.input) (g.S.Stream.asked l.fn.input) (g.K.Sink.written l.fn.out) (g.K.Sink.faults l.fn.out))
      (channels (g.S.Stream.given l.input) (g.S.Stream.ended l.input) (g.S.Stream.faults l.input) (g.S.Stream.asked l.input) (g.K.Sink.written l.out) (g.K.Sink.faults l.out))
      (outside (g.D.Folder.told l.fn.folder) (g.D.Folder.faults l.fn.folder) (g.F.Files.gave l.fn.files) (g.F.Files.faults l.fn.files))
      (outside (g.D.Folder.told l.folder) (g.D.Folder.faults l.folder) (g.F.Files.gave l.files) (g.F.Files.faults l.files))
      l._turn l.reader.pending.items l.client;
  in_time : AsksInTime l.setup (g.F.Files.held l.fn.files)
      (channels (g.S.Stream.given l.fn.input) (g.S.Stream.ended l.fn.input) (g.S.Stream.faults l.fn.input) (g.S.Stream.asked l.fn.input) (g.K.Sink.written l.fn.out) (g.K.Sink.faults l.fn.out))
      (channels (g.S.Stream.given l.input) (g.S.Stream.ended l.input) (g.S.Stream.faults l.input) (g.S.Stream.asked l.input) (g.K.Sink.written l.out) (g.K.Sink.faults l.out))
      (outside (g.D.Folder.told l.fn.folder) (g.D.Folder.faults l.fn.folder) (g.F.Files.gave l.fn.files) (g.F.Files.faults l.fn.files));
}
