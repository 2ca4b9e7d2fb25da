-- What a reader of frames took from its input.
use Rattle.std.specs.Prelude.{ℕ, ◌≤◌, ◌≡◌, ◌≢◌, Bool, true, false, List, [], ◌++◌, length, take, ◌<◌, Option, Some, None, Result, Ok, Err}
use Rattle.jn_base.specs.declared.refusal.Fail.{Fail}
use Rattle.jn_base.specs.declared.refusal.Fail.TheVariants.{Refused, OutOfMemory}
use Rattle.jn_outside.specs.Causes.{Rose}
use Rattle.jn_lsp_frames.specs.declared.frame.Frame.{Frame}
use Rattle.jn_lsp_frames.specs.declared.frame.End.{End}
use Rattle.jn_lsp_frames.specs.declared.frame.End.TheVariants.{Between, Within}
use Rattle.jn_lsp_frames.specs.declared.frame.Next.{Next}
use Rattle.jn_lsp_frames.specs.declared.frame.Next.TheVariants as next
use Rattle.jn_lsp_frames.specs.declared.reader.Head.{Head}
use Rattle.jn_lsp_frames.specs.declared.reader.Head.TheVariants.{Block, Overlong, Missing}
use Rattle.jn_lsp_frames.specs.Header.{IsBlock, HasNoBlock}
use Rattle.jn_lsp_frames.specs.Frames.{FrameOf, AreFrames, IsPartial, frame_by}

-- the input gave more bytes, or none
abbrev pub Grows : List ℕ → List ℕ → Type 0
Grows gave now = (more : List ℕ) × (now ≡ gave ++ more)

-- the bytes that were pending and those that the input gave more are the own ones and those that are pending now
pub record Takes (gave pending now left own : List ℕ) : Type 0 where
  pub more : List ℕ
  pub given : now ≡ gave ++ more
  pub parts : pending ++ more ≡ own ++ left

-- what is left at the end of the input
abbrev pub EndsSo : End → List ℕ → Type 0
EndsSo Between rest = rest ≡ []
EndsSo Within rest = (rest ≢ []) × IsPartial rest

-- what was read: a frame, whose bytes were taken; or the input's end, after what is pending and no frame
abbrev pub HasRead : Bool → List ℕ → List ℕ → List ℕ → List ℕ → Next → Type 0
HasRead ended gave pending now left (next.Frame frame) = (own : List ℕ) × FrameOf own frame × Takes gave pending now left own
HasRead ended gave pending now left (next.End end) = (ended ≡ true) × (rest : List ℕ) × Takes gave pending now rest [] × EndsSo end rest

-- a frame stands at the front of what is pending
abbrev pub StandsFrame : List ℕ → Type 0
StandsFrame pending = (own : List ℕ) × (behind : List ℕ) × (frame : Frame) × FrameOf own frame × (pending ≡ own ++ behind)

-- a header stands there, or none can
abbrev pub IsKnown : List ℕ → Type 0
IsKnown pending = HasNoBlock pending → length pending < 8192 → ⊥

-- no header stands there yet, and one can
abbrev pub IsUnknown : List ℕ → Type 0
IsUnknown bytes = HasNoBlock bytes × (length bytes < 8192)

-- there are fewer bytes than these
abbrev pub IsShorter : ℕ → List ℕ → Type 0
IsShorter count bytes = length bytes < count

abbrev pub IsNone : List ℕ → Type 0
IsNone bytes = bytes ≡ []

-- after the start the input gave these frames, and what is pending
pub record Gives (start now : List ℕ) (frames : List Frame) (pending : List ℕ) : Type 0 where
  pub bytes : List ℕ
  pub gave : now ≡ start ++ bytes
  pub are : AreFrames bytes frames pending

-- a call is refused only where the count of faults rose, and leaves the count else
abbrev pub Counts : {T E : Type 0} → ℕ → ℕ → Result T (Fail E) → Type 0
Counts before now (Ok x) = now ≡ before
Counts before now (Err OutOfMemory) = now ≡ before
Counts before now (Err (Refused e)) = (before ≤ now) × Rose before now

-- a call is refused only where the input gave nothing more
abbrev pub Spares : {T E : Type 0} → List ℕ → List ℕ → Result T (Fail E) → Type 0
Spares gave now (Ok x) = Unit {0}
Spares gave now (Err OutOfMemory) = Unit {0}
Spares gave now (Err (Refused e)) = now ≡ gave

-- a call is refused only where what was pending and what the input gave since is such bytes
abbrev pub Lacks : {T E : Type 0} → (List ℕ → Type 0) → List ℕ → List ℕ → List ℕ → Result T (Fail E) → Type 0
Lacks Such gave pending now (Ok x) = Unit {0}
Lacks Such gave pending now (Err OutOfMemory) = Unit {0}
Lacks Such gave pending now (Err (Refused e)) = (more : List ℕ) × (now ≡ gave ++ more) × Such (pending ++ more)

-- a byte is pending; or none is, and the input ended
abbrev pub StandsSome : Bool → List ℕ → Bool → Type 0
StandsSome ended pending true = 0 < length pending
StandsSome ended pending false = (ended ≡ true) × (pending ≡ [])

-- so many bytes were taken, at most as many as were asked for; none only where the input ended
pub record TakesSome (ended : Bool) (gave pending now left : List ℕ) (most count : ℕ) (own : List ℕ) : Type 0 where
  pub many : length own ≡ count
  pub few : count ≤ most
  pub taken : Takes gave pending now left own
  pub end : count ≡ 0 → (ended ≡ true) × (left ≡ [])

-- the input ended when fewer bytes than these were taken
abbrev pub EndsBefore : Bool → List ℕ → List ℕ → List ℕ → List ℕ → ℕ → Type 0
EndsBefore ended gave pending now left count = (ended ≡ true) × (left ≡ []) × (own : List ℕ) × (length own < count) × Takes gave pending now left own

-- so many bytes were taken, or the input ended before
abbrev pub Passes : Bool → List ℕ → List ℕ → List ℕ → List ℕ → ℕ → Bool → Type 0
Passes ended gave pending now left count true = (own : List ℕ) × (length own ≡ count) × Takes gave pending now left own
Passes ended gave pending now left count false = EndsBefore ended gave pending now left count

-- a body of so many bytes was taken, or the input ended before
abbrev pub TakesBody : Bool → List ℕ → List ℕ → List ℕ → List ℕ → ℕ → Option (List ℕ) → Type 0
TakesBody ended gave pending now left count (Some body) = (length body ≡ count) × Takes gave pending now left body
TakesBody ended gave pending now left count None = EndsBefore ended gave pending now left count

-- what stands at the front of what is pending
abbrev pub IsHead : Bool → List ℕ → Head → Type 0
IsHead ended pending (Block end) = (end ≤ length pending) × IsBlock (take end pending)
IsHead ended pending Overlong = (8192 ≤ length pending) × HasNoBlock pending
IsHead ended pending Missing = (ended ≡ true) × (length pending < 8192) × HasNoBlock pending

-- what was read after a header that says so many bytes
abbrev pub HasRest : Bool → List ℕ → List ℕ → List ℕ → List ℕ → ℕ → Next → Type 0
HasRest ended gave pending now left count (next.Frame frame) = (body : List ℕ) × (length body ≡ count) × (frame ≡ frame_by (Some count) body) × Takes gave pending now left body
HasRest ended gave pending now left count (next.End end) = (end ≡ Within) × EndsBefore ended gave pending now left count
