-- What each status means.
use Rattle.std.specs.Prelude.{ℕ, ◌-◌, ◌^◌, ◌≡◌, ◌≤◌, ◌⊎◌, ◌++◌, Bool, true, false, List, [], ◌∷◌, Option, Some, None, length}
use Rattle.std.specs.List.{All}
use Rattle.jn_base.specs.declared.infer.Infer.{Infer}
use Rattle.jn_outside.specs.Causes.{Rose}
use Rattle.jn_outside.specs.Files.{Holding}
use Rattle.jn_outside.specs.Sink.{Appends, AppendsPrefix}
use Rattle.jn_lsp_frames.specs.declared.asking.Asking.{Asking}
use Rattle.jn_lsp_frames.specs.declared.frame.Frame.{Frame}
use Rattle.jn_lsp_frames.specs.Frames.{IsPartial}
use Rattle.jn_lsp_frames.specs.Reading.{Gives, Grows}
use Rattle.jn_lsp_text.specs.declared.message.Message.{Message}
use Rattle.jn_lsp_text.specs.declared.reply.Reply.{Reply}
use Rattle.jn_lsp.specs.declared.phase.Phase.{Phase}
use Rattle.jn_lsp.specs.declared.phase.Phase.TheVariants.{Waiting, Serving, ShutDown, Exited}
use Rattle.nullcheck_lsp_top.specs.declared.client.Client.{Client}
use Rattle.nullcheck_lsp_top.specs.declared.frames.Heard.{Heard}
use Rattle.nullcheck_lsp_top.specs.declared.frames.Opening.{Opening}
use Rattle.nullcheck_lsp_top.specs.declared.frames.Heard.TheVariants.{Goes, Ends}
use Rattle.nullcheck_lsp_top.specs.declared.status.Status.{Status}
use Rattle.nullcheck_lsp_top.specs.declared.status.Status.TheVariants.{Done, Ended, ReadFault, WriteFault, OutOfMemory, Usage}
use Rattle.jn_cli.specs.declared.server.Setup.{Setup}
use Rattle.nullcheck_lsp_top.specs.Hearing.{Hears, HearsAll, IsMessageOf, IsTask, StartsBy, announced, begun, framed}
use Rattle.nullcheck_lsp_top.specs.Looking.{Outside, new_client}
use Rattle.jn_cli.specs.Server.{setup_of}

abbrev pub number_of : Status → ℕ
number_of Done = 0
number_of Ended = 1
number_of ReadFault = 5
number_of WriteFault = 6
number_of OutOfMemory = 7
number_of Usage = 64

-- what the input and the output tell: the bytes that reads gave, whether they came to the end, the bytes that were taken, and the counts of
-- faults; and how both stood at each read
pub record Channels : Type 0 where
  pub given : List ℕ
  pub ended : Bool
  pub hears : ℕ
  pub asks : List Asking
  pub written : Option (List ℕ)
  pub writes : ℕ

abbrev pub channels : List ℕ → Bool → ℕ → List Asking → Option (List ℕ) → ℕ → Channels
channels given ended hears asks written writes = record { given = given; ended = ended; hears = hears; asks = asks; written = written; writes = writes }

-- the frames of the bytes that the input gave were taken, with these replies, by a server that infers these members where the client
-- chooses none
pub record Served (infer : Infer) (held : Option Holding) (before now : List ℕ) (old new : Outside) (frames : List Frame) (pending : List ℕ) (replies : List Reply) (client : Client) : Type 0 where
  pub gives : Gives before now frames pending
  pub hears : HearsAll held old new (new_client infer) frames replies client

-- as many messages as are taken at all
abbrev pub most_messages : ℕ
most_messages = 2 ^ 64 - 1

-- no fault of the input, and none of the output
abbrev pub IsHeardWhole : Channels → Channels → Type 0
IsHeardWhole from to = to.hears ≡ from.hears

abbrev pub IsWrittenWhole : Channels → Channels → Type 0
IsWrittenWhole from to = to.writes ≡ from.writes

-- what each status means, by what the input and the output told before and after, and what files and folders did
module _ (setup : Setup) (held : Option Holding) (from to : Channels) (old new : Outside) where
  -- all that the input gave is these frames and what is pending; folders and files were read for them and for no other, and of the replies so
  -- much was written
  pub record Answered (Took : Option (List ℕ) → Option (List ℕ) → List ℕ → Type 0) (IsEnd : List Frame → List ℕ → Client → Type 0) : Type 0 where
    pub frames : List Frame
    pub pending : List ℕ
    pub replies : List Reply
    pub client : Client
    pub served : Served setup.infer held from.given to.given old new frames pending replies client
    pub taken : Took from.written to.written (framed setup.address replies)
    pub ends : IsEnd frames pending client

  -- the client exited after `shutdown`
  abbrev pub IsDone : List Frame → List ℕ → Client → Type 0
  IsDone frames pending client = client.server.phase ≡ Exited true

  -- the input ended, after a frame or in the middle of one
  abbrev pub IsInputEnd : List ℕ → Type 0
  IsInputEnd pending = (to.ended ≡ true) × ((pending ≡ []) ⊎ IsPartial pending)

  -- the client exited without it, the input ended, or so many messages came as are taken at all
  abbrev pub IsEnded : List Frame → List ℕ → Client → Type 0
  IsEnded frames pending client = (client.server.phase ≡ Exited false) ⊎ IsInputEnd pending ⊎ (most_messages ≤ length frames)

  -- no other frame is whole
  abbrev pub IsAllRead : List Frame → List ℕ → Client → Type 0
  IsAllRead frames pending client = IsPartial pending

  -- after a write fault whole frames may be pending
  abbrev pub IsCut : List Frame → List ℕ → Client → Type 0
  IsCut frames pending client = Unit {0}

  -- the first frames of the input were taken; folders and files were read for them
  pub record First : Type 0 where
    pub heard : List ℕ
    pub grows : Grows heard to.given
    pub mid : Outside
    pub frames : List Frame
    pub pending : List ℕ
    pub replies : List Reply
    pub client : Client
    pub served : Served setup.infer held from.given heard old mid frames pending replies client

  -- their replies were written, and nothing else was asked or written
  abbrev pub IsStill : First → Type 0
  IsStill first = (new ≡ first.mid) × Appends from.written to.written (framed setup.address first.replies)

  -- one frame more was read; after their replies what is sent before its message is worked on was written, so much of it
  pub record BeginsOne (Took : Option (List ℕ) → Option (List ℕ) → List ℕ → Type 0) (first : First) : Type 0 where
    pub frame : Frame
    pub left : List ℕ
    pub gives : Gives from.given to.given (first.frames ++ frame ∷ []) left
    pub message : Message
    pub is : IsMessageOf frame message
    pub taken : Took from.written to.written (framed setup.address (first.replies ++ begun first.client message))

  -- and folders and files were read for it, so far as memory was found
  abbrev pub StartsOne : First → Type 0
  StartsOne first = (one : BeginsOne Appends first) × ((new ≡ first.mid) ⊎ StartsBy held first.mid new first.client one.message)

  -- the first frames of the input were taken, and their replies were written; folders and files were read for them, and for one more at most,
  -- once what is sent before was written
  abbrev pub AnsweredFirst : Type 0
  AnsweredFirst = (first : First) × (IsStill first ⊎ StartsOne first)

  -- they were, the check at the message of one more is announced, and of what is sent before it a prefix was written; for that one nothing was asked
  abbrev pub BegunFirst : Type 0
  BegunFirst = (first : First) × (one : BeginsOne AppendsPrefix first) × (announced first.client one.message ≡ true) × (new ≡ first.mid)

  abbrev pub Answers : Status → Type 0
  Answers Done = Answered Appends IsDone × IsHeardWhole from to × IsWrittenWhole from to
  Answers Ended = Answered Appends IsEnded × IsHeardWhole from to × IsWrittenWhole from to
  Answers ReadFault = Answered Appends IsAllRead × Rose from.hears to.hears × IsWrittenWhole from to
  Answers WriteFault = (Answered AppendsPrefix IsCut ⊎ BegunFirst) × IsHeardWhole from to × Rose from.writes to.writes
  Answers OutOfMemory = AnsweredFirst × IsHeardWhole from to × IsWrittenWhole from to
  Answers Usage = ⊥

-- ---- in time

-- when the input was asked for more, all frames that it had given whole had been taken, and all replies to them written
pub record IsInTime (setup : Setup) (held : Option Holding) (from : Channels) (old : Outside) (asking : Asking) : Type 0 where
  pub mid : Outside
  pub frames : List Frame
  pub pending : List ℕ
  pub replies : List Reply
  pub client : Client
  pub served : Served setup.infer held from.given asking.given old mid frames pending replies client
  pub partial : IsPartial pending
  pub taken : Appends from.written asking.written (framed setup.address replies)

-- so it was each time
pub record AsksInTime (setup : Setup) (held : Option Holding) (from to : Channels) (old : Outside) : Type 0 where
  pub own : List Asking
  pub all : to.asks ≡ from.asks ++ own
  pub each : All (IsInTime setup held from old) own

-- words are wrong, or no memory was found to read them: nothing is heard, read or written
abbrev pub AnswersUsage : Channels → Channels → Outside → Outside → Status → Type 0
AnswersUsage from to old new status = (to ≡ from) × (new ≡ old) × ((status ≡ Usage) ⊎ (status ≡ OutOfMemory))

-- replies link to the document that the words name, and the members are inferred that they choose; other words are wrong
abbrev pub AnswersBy : Option Setup → Option Holding → Channels → Channels → Outside → Outside → Status → Type 0
AnswersBy None held from to old new status = AnswersUsage from to old new status
AnswersBy (Some setup) held from to old new status = Answers setup held from to old new status × AsksInTime setup held from to old

abbrev pub AnswersWords : Option Holding → Channels → Channels → Outside → Outside → List (List ℕ) → Status → Type 0
AnswersWords held from to old new words status = AnswersBy (setup_of words) held from to old new status

-- ---- one frame

-- the frame's message, and what is written before it is worked on
pub record IsOpening (address : Option (List ℕ)) (client : Client) (frame : Frame) (opening : Opening) : Type 0 where
  pub message : Message
  pub is : IsMessageOf frame message
  pub task : IsTask client message opening.task
  pub bytes : opening.bytes.items ≡ framed address (begun client message)

-- the bytes are the written replies to a message behind those that are written before it is worked on
pub record IsAnswer (address : Option (List ℕ)) (held : Option Holding) (old new : Outside) (client : Client) (message : Message) (after : Client) (bytes : List ℕ) : Type 0 where
  pub replies : List Reply
  pub hears : Hears held old new client message (begun client message ++ replies) after
  pub are : bytes ≡ framed address replies

-- how a server in this phase goes on
abbrev pub goes_on : Phase → Heard
goes_on Waiting = Goes
goes_on Serving = Goes
goes_on ShutDown = Goes
goes_on (Exited true) = Ends Done
goes_on (Exited false) = Ends Ended

module _ (address : Option (List ℕ)) (held : Option Holding) (from to : Option (List ℕ)) (before now : ℕ) (old new : Outside) (client : Client) (frame : Frame) (after : Client) where
  -- the frame was taken, and of the replies so much was written
  pub record Takes (Took : Option (List ℕ) → Option (List ℕ) → List ℕ → Type 0) : Type 0 where
    pub message : Message
    pub is : IsMessageOf frame message
    pub replies : List Reply
    pub hears : Hears held old new client message replies after
    pub taken : Took from to (framed address replies)

  -- what is sent before its message is worked on was written, so much of it
  pub record Begins (Took : Option (List ℕ) → Option (List ℕ) → List ℕ → Type 0) : Type 0 where
    pub message : Message
    pub is : IsMessageOf frame message
    pub taken : Took from to (framed address (begun client message))

  -- and folders and files were read for it, so far as memory was found
  abbrev pub Starts : Type 0
  Starts = (one : Begins Appends) × ((new ≡ old) ⊎ StartsBy held old new client one.message)

  -- its check is announced, and of what is sent before it a prefix was written; nothing was asked for it
  abbrev pub Breaks : Type 0
  Breaks = (one : Begins AppendsPrefix) × (announced client one.message ≡ true) × (new ≡ old)

  abbrev pub EndsBy : Status → Type 0
  EndsBy Done = Takes Appends × (after.server.phase ≡ Exited true) × (now ≡ before)
  EndsBy Ended = Takes Appends × (after.server.phase ≡ Exited false) × (now ≡ before)
  EndsBy WriteFault = (Takes AppendsPrefix ⊎ Breaks) × Rose before now
  EndsBy OutOfMemory = (((to ≡ from) × (new ≡ old)) ⊎ Starts) × (now ≡ before)
  EndsBy ReadFault = ⊥
  EndsBy Usage = ⊥

  abbrev pub IsHeard : Heard → Type 0
  IsHeard Goes = Takes Appends × (now ≡ before)
  IsHeard (Ends status) = EndsBy status
