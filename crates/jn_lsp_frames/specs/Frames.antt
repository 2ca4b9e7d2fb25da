-- Frames of the base protocol: a header, and as many bytes as it says.
use Rattle.std.specs.Prelude.{ℕ, ◌≡◌, ◌≢◌, ◌⊎◌, List, [], ◌∷◌, ◌++◌, length, codes, decimal, cond, nat_le, Option, Some, None}
use Rattle.jn_lsp_frames.specs.declared.frame.Frame.{Frame}
use Rattle.jn_lsp_frames.specs.declared.frame.Frame.TheVariants.{Body, BadHeader, TooLarge}
use Rattle.jn_lsp_frames.specs.Header.{IsHeader, HasNoBlock, Says}

-- how many bytes follow a header; none where it isn't legal
abbrev pub body_length : Option ℕ → ℕ
body_length None = 0
body_length (Some length) = length

-- the frame of a header that says so many bytes, where these follow
abbrev pub frame_by : Option ℕ → List ℕ → Frame
frame_by None body = BadHeader
frame_by (Some length) body = cond (nat_le length 16777216) (Body body) TooLarge

-- a header, and as many bytes as it says
pub record HasHeader (own : List ℕ) (frame : Frame) : Type 0 where
  pub lines : List (List ℕ)
  pub block : List ℕ
  pub said : Option ℕ
  pub body : List ℕ
  pub is : IsHeader lines block
  pub says : Says lines said
  pub whole : length body ≡ body_length said
  pub parts : own ≡ block ++ body
  pub frame_is : frame ≡ frame_by said body

-- so many bytes, and no header among them
pub record IsOverlong (own : List ℕ) : Type 0 where
  pub many : length own ≡ 8192
  pub none : HasNoBlock own

-- the frame's own bytes
abbrev pub FrameOf : List ℕ → Frame → Type 0
FrameOf own frame = HasHeader own frame ⊎ (IsOverlong own × (frame ≡ BadHeader))

-- the bytes are these frames, one after the other, and a rest
abbrev pub AreFrames : List ℕ → List Frame → List ℕ → Type 0
AreFrames bytes [] rest = bytes ≡ rest
AreFrames bytes (frame ∷ frames) rest = (own : List ℕ) × (behind : List ℕ) × FrameOf own frame × (bytes ≡ own ++ behind) × AreFrames behind frames rest

-- no frame stands at the front
abbrev pub IsPartial : List ℕ → Type 0
IsPartial rest = (own behind : List ℕ) (frame : Frame) → FrameOf own frame → rest ≢ own ++ behind

-- the frame of these bytes, as it is written
abbrev pub frame_of : List ℕ → List ℕ
frame_of body = codes "Content-Length: " ++ decimal (length body) ++ codes "\r\n\r\n" ++ body
