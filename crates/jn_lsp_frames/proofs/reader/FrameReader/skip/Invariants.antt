use Rattle.std.proofs.Common.{◌≡◌, ◌+◌, ◌≤◌, ℕ, List, length}
use Rattle.jn_lsp_frames.specs.Asking.{Asks}
use Rattle.jn_lsp_frames.specs.Reading.{IsShorter, Takes}
use Rattle.jn_lsp_frames.proofs.reader.FrameReader.skip.Given as goal

abbrev pub invariant-loop-left : goal.invariant-loop-left
invariant-loop-left g l = let s = g.S.Stream in record {
  taken : (own : List ℕ) × (length own + l.left ≡ l.total) × Takes (s.given l.fn.input) l.fn.self.pending.items (s.given l.input) l.self.pending.items own;
  faults : s.faults l.input ≡ s.faults l.fn.input;
  asked : Asks (IsShorter l.total) (s.given l.fn.input) l.fn.self.pending.items (g.K.Sink.written l.fn.out) (s.asked l.fn.input) (s.asked l.input);
  unasked : l.total ≤ length l.fn.self.pending.items → l.input ≡ l.fn.input;
}

abbrev pub decreases-loop-left : goal.decreases-loop-left
decreases-loop-left g l = l.left
