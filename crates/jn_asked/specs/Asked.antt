-- What the words of the command line ask for.
use Rattle.std.specs.Prelude.{ℕ, Bool, List, Option, Some, None, if◌then◌else◌, codes}
use Rattle.jn_reporters.specs.declared.shown.ShownRow.{ShownRow}
use Rattle.jn_diag.specs.declared.shown.Verdict.{Verdict}
use Rattle.jn_cli.specs.declared.command.Command.{Command}
use Rattle.jn_cli.specs.Words.{command_of, is_usage, options_of}
use Rattle.jn_command.specs.Reporters.{first_named, shown_behind}
use Rattle.jn_reporters.specs.Forms.{Form, linked_at}

-- a command, and how the report of its files is shown: whether it is one document, whether with notes, and its bytes
pub record Asked : Type 0 where
  pub command : Command
  pub document : Bool
  pub notes : Bool
  pub show : List ShownRow → Option Verdict → List ℕ

-- the same from its four parts
abbrev pub asked : Command → Bool → Bool → (List ShownRow → Option Verdict → List ℕ) → Asked
asked command document notes show = record { command = command; document = document; notes = notes; show = show }

-- the same of a reporter
abbrev pub asked_with : Command → Form → Asked
asked_with command form = asked command form.document form.notes (shown_behind form.rows form.shown)

-- a reporter that was told where codes are explained, if that is known
abbrev pub linked_with : Option (List ℕ) → Form → Form
linked_with None form = form
linked_with (Some address) form = linked_at form address

-- a command with the reporter that was found, which knows where codes are explained if the command says so; none without one
abbrev pub shown_by : Command → Option Form → Option Asked
shown_by command None = None
shown_by command (Some form) = Some (asked_with command (linked_with command.codes form))

-- a command with the first reporter of its name; none where no reporter has it
abbrev pub asked_by : List Form → Command → Option Asked
asked_by forms command = shown_by command (first_named command.report forms)

-- what the words ask for; none where they are not those of a command
unfoldable pub asked_of : List Form → List (List ℕ) → Option Asked
asked_of forms words = if is_usage words then None else asked_by forms (command_of (options_of words))

-- the one line that is the answer to words that are no command
abbrev pub usage_line : List ℕ
usage_line = codes "usage: nullcheck [--workers N] [--report NAME] [--codes ADDRESS] [--infer NAME] [--run] [--steps N] [--words TEXT] [--gen N] FILE..\n"
