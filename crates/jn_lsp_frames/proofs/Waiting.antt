-- Where a frame is pending, the input isn't asked.
use Rattle.std.proofs.Common.{◌≡◌, ℕ, ◌+◌, ◌<◌, ◌≤◌, List, length, take, drop, Some, sym, ap, ◌∙◌, ◌⊎◌, inl, inr, arith, length-append}
use Rattle.std.proofs.lemmas.Bool.{cases_lt}
use Rattle.std.proofs.lemmas.List.{take-append-drop}
use Rattle.jn_lsp_frames.specs.Header.{IsBlock, Says}
use Rattle.jn_lsp_frames.specs.Reading.{IsKnown, StandsFrame, Takes}
use Rattle.jn_lsp_frames.proofs.Taking.{partial_body, partial_header}

pub known_frame : (pending : List ℕ) → StandsFrame pending → IsKnown pending
known_frame pending stands none few = partial_header pending few none stands.0 stands.1 stands.2 stands.3 stands.4

-- the bytes that its header says are there
pub rest_there : (pending : List ℕ) (end count : ℕ) (block : IsBlock (take end pending)) → Says block.lines (Some count) → StandsFrame pending → count ≤ length (drop end pending)
rest_there pending end count block says stands = by (cases_lt (length (drop end pending)) count)
  where
    by : (length (drop end pending) < count) ⊎ (count ≤ length (drop end pending)) → count ≤ length (drop end pending)
    by (inl lt) = absurd (partial_body block.lines (take end pending) (drop end pending) count block.is says lt stands.0 stands.1 stands.2 stands.3 (take-append-drop end pending ∙ stands.4))
    by (inr le) = le

-- where the input gave nothing, all that was taken was pending
pub left_long : (gave pending now left own : List ℕ) → Takes gave pending now left own → now ≡ gave → length pending ≡ length own + length left
left_long gave pending now left own t e = omega (arith, ap length (sym e ∙ t.given), length-append gave t.more, ap length t.parts, length-append pending t.more, length-append own left)
