use Rattle.std.proofs.Common.{◌≡◌, ◌-◌, ◌≤◌, length}
use Rattle.jn_lsp_frames.specs.Asking.{Asks}
use Rattle.jn_lsp_frames.specs.Reading.{IsShorter, Takes}
use Rattle.jn_lsp_frames.proofs.reader.FrameReader.read_body.Given as goal

abbrev pub invariant-loop-body : goal.invariant-loop-body
invariant-loop-body g l = let s = g.S.Stream in record {
  taken : Takes (s.given l.fn.input) l.fn.self.pending.items (s.given l.input) l.self.pending.items l.body.items;
  few : length l.body.items ≤ l.total;
  faults : s.faults l.input ≡ s.faults l.fn.input;
  asked : Asks (IsShorter l.total) (s.given l.fn.input) l.fn.self.pending.items (g.K.Sink.written l.fn.out) (s.asked l.fn.input) (s.asked l.input);
  unasked : l.total ≤ length l.fn.self.pending.items → l.input ≡ l.fn.input;
}

abbrev pub decreases-loop-body : goal.decreases-loop-body
decreases-loop-body g l = l.total - length l.body.items
