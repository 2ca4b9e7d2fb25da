use Rattle.std.proofs.Common.{◌≡◌, ◌-◌, [], length}
use Rattle.jn_lsp_frames.specs.Asking.{Asks}
use Rattle.jn_lsp_frames.specs.Reading.{IsKnown, IsUnknown, Takes}
use Rattle.jn_lsp_frames.proofs.reader.FrameReader.read_head.Given as goal

abbrev pub invariant-loop-self : goal.invariant-loop-self
invariant-loop-self g l = let s = g.S.Stream in record {
  taken : Takes (s.given l.fn.input) l.fn.self.pending.items (s.given l.input) l.self.pending.items [];
  faults : s.faults l.input ≡ s.faults l.fn.input;
  asked : Asks IsUnknown (s.given l.fn.input) l.fn.self.pending.items (g.K.Sink.written l.fn.out) (s.asked l.fn.input) (s.asked l.input);
  unasked : IsKnown l.fn.self.pending.items → (l.input ≡ l.fn.input) × (l.self.pending.items ≡ l.fn.self.pending.items);
}

abbrev pub decreases-loop-self : goal.decreases-loop-self
decreases-loop-self g l = 8192 - length l.self.pending.items
