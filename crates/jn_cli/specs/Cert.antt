-- What the words of `nullcheck_cert` mean: NAME [--infer CHOICE] CERT FILE.., where NAME is a command's.
use Rattle.std.specs.Prelude.{ℕ, List, [], ◌∷◌, Option, Some, None, codes, if◌then◌else◌}
use Rattle.std.specs.Str.{bytes_eq}
use Rattle.clap.specs.Words.{App, matches_of}
use Rattle.jn_base.specs.declared.infer.Infer.{Infer}
use Rattle.jn_cli.specs.Names.{names_app, options_in}
use Rattle.jn_cli.specs.Tables.{infer_of, is_chosen, takes}
use Rattle.jn_cli.specs.declared.names.Options.{Options}

-- the command as clap sees it: an option, and names
abbrev pub cert_app : App
cert_app = names_app (codes "nullcheck_cert")

-- a certificate, the files that it is of, and the choice of members that are inferred
pub record Command : Type 0 where
  pub infer : Infer
  pub cert : List ℕ
  pub files : List (List ℕ)

-- the same from its three parts
abbrev pub command : Infer → List ℕ → List (List ℕ) → Command
command infer cert files = record { infer = infer; cert = cert; files = files }

-- the names are those of this command, of a certificate, and of at least one file
abbrev pub named_by : List ℕ → Infer → List (List ℕ) → Option Command
named_by first infer [] = None
named_by first infer (name ∷ []) = None
named_by first infer (name ∷ cert ∷ []) = None
named_by first infer (name ∷ cert ∷ file ∷ files) = if bytes_eq name first then Some (command infer cert (file ∷ files)) else None

-- what options ask of the command of this name; none where they ask nothing of it
abbrev pub command_of : List ℕ → Options → Option Command
command_of first o = if is_chosen o.infer then named_by first (infer_of o.infer) o.names else None

-- what words ask of it
unfoldable pub asked_of : List ℕ → List (List ℕ) → Option Command
asked_of first words = if takes cert_app words then command_of first (options_in (matches_of cert_app words)) else None

-- the lines that are the answer to words that ask nothing of either command
abbrev pub usage_line : List ℕ
usage_line = codes "usage: nullcheck_cert check [--infer NAME] CERT FILE..\n       nullcheck_cert write [--infer NAME] CERT FILE..\n"
