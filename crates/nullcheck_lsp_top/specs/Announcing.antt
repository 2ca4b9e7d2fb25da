-- Which checks are announced to the client while they go on (Language Server Protocol 3.17, "Work Done Progress"): those that may take longer
-- than half a second.
use Rattle.std.specs.Prelude.{ℕ, ◌+◌, ◌^◌, ◌&&◌, ◌||◌, Bool, true, false, List, [], ◌∷◌, length, nat_le, nat_lt}
use Rattle.jn_front.specs.declared.source.SourceFile.{SourceFile}
use Rattle.jn_lsp.specs.declared.documents.Workspace.{Workspace}
use Rattle.jn_lsp.specs.declared.phase.Phase.{Phase}
use Rattle.jn_lsp.specs.declared.phase.Phase.TheVariants.{Waiting, Serving, ShutDown, Exited}
use Rattle.jn_lsp.specs.Serving.{wants_folder}
use Rattle.jn_lsp_text.specs.declared.message.Message.{Message}
use Rattle.jn_lsp_text.specs.declared.message.Message.TheVariants.{Initialize, DidOpen, DidChange}
use Rattle.jn_lsp_text.specs.declared.reply.Reply.{Reply}
use Rattle.jn_lsp_text.specs.declared.reply.Reply.TheVariants.{Announce, Begin, End}
use Rattle.nullcheck_lsp_top.specs.declared.client.Progress.{Progress}
use Rattle.nullcheck_lsp_top.specs.Placing.{is_initialized}

-- ---- which checks are announced

-- the bytes of texts
abbrev pub bytes_of : List SourceFile → ℕ
bytes_of [] = 0
bytes_of (file ∷ files) = length file.bytes + bytes_of files

-- 2 MiB; fewer bytes are checked in less than half a second
abbrev pub long_bytes : ℕ
long_bytes = 2 ^ 21

-- the texts that stand have together so many
abbrev pub is_long : Workspace → Bool
is_long workspace = nat_le long_bytes (bytes_of workspace.disk + bytes_of workspace.documents)

-- files are checked anew at this message
abbrev pub checks : Message → Bool
checks (DidOpen name version text) = true
checks (DidChange name version changes) = true
checks m = wants_folder m

-- the folder is read for the first time, and nobody knows how much there is; or much stands already
abbrev pub may_last : Workspace → Message → Bool
may_last workspace m = is_initialized m || (checks m && is_long workspace)

-- the client shows that a check goes on, and a number for it is left: an integer of the protocol, below 2^31
abbrev pub is_shown : Progress → Bool
is_shown progress = progress.able && nat_lt progress.next (2 ^ 31)

-- while the server serves
abbrev pub announces : Phase → Workspace → Progress → Message → Bool
announces Waiting workspace progress m = false
announces Serving workspace progress m = is_shown progress && may_last workspace m
announces ShutDown workspace progress m = false
announces (Exited in_order) workspace progress m = false

-- ---- what is said of them

-- before a check
abbrev pub begins : Bool → ℕ → List Reply
begins false number = []
begins true number = Announce number ∷ Begin number ∷ []

-- after it
abbrev pub ends : Bool → ℕ → List Reply
ends false number = []
ends true number = End number ∷ []

-- ---- what is kept

-- the first `initialize` says whether the client shows that a check goes on
abbrev pub able_in : Bool → Message → Bool
able_in able (Initialize id folders infer files exclude markup encoding progress) = progress
able_in able m = able

-- by the phase before the message
abbrev pub able_behind : Phase → Bool → Message → Bool
able_behind Waiting able m = able_in able m
able_behind Serving able m = able
able_behind ShutDown able m = able
able_behind (Exited in_order) able m = able

-- a number is used for one check
abbrev pub next_behind : Bool → ℕ → ℕ
next_behind false number = number
next_behind true number = number + 1

-- whether it is shown, and the number of the next check
abbrev pub progress_with : Bool → ℕ → Progress
progress_with able next = record { able = able; next = next }
