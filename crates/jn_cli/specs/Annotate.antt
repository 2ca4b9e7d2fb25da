-- What the words of `nullcheck_annotate` mean.
use Rattle.std.specs.Prelude.{ℕ, ◌==◌, ◌&&◌, ◌||◌, Bool, true, false, not, cond, ltb, List, [], ◌∷◌, length, Option, Some, None, codes}
use Rattle.clap.specs.Words.{App, Row, first_of, matches_of}
use Rattle.jn_cli.specs.Tables.{app_with, infer_of, is_chosen, is_on, names_in, table, takes}
use Rattle.jn_cli.specs.declared.annotate.Options.{Options}
use Rattle.jn_cli.specs.declared.annotate.Mode.{Mode}
use Rattle.jn_cli.specs.declared.annotate.Mode.TheVariants.{Show, Check, Write}
use Rattle.jn_cli.specs.declared.annotate.Wanted.{Wanted}

-- ---- the command as clap sees it

-- the command as a whole: an option, four flags, and files
unfoldable pub annotate_app : App
annotate_app = app_with (table (codes "nullcheck_annotate") (codes "infer" ∷ []) (codes "imports" ∷ codes "terse" ∷ codes "check" ∷ codes "write" ∷ []))

-- the command takes the words
abbrev pub takes_words : List (List ℕ) → Bool
takes_words words = takes annotate_app words

-- the options and files by their names among what clap matched
abbrev pub options_in : List Row → Options
options_in rows = record {
  infer = first_of (codes "infer") rows;
  imports = is_on (first_of (codes "imports") rows);
  terse = is_on (first_of (codes "terse") rows);
  check = is_on (first_of (codes "check") rows);
  write = is_on (first_of (codes "write") rows);
  files = names_in rows;
}

-- the texts that stand after the options
abbrev pub options_of : List (List ℕ) → Options
options_of words = options_in (matches_of annotate_app words)

-- ---- usage

-- more than 64 files
abbrev pub are_many : List (List ℕ) → Bool
are_many files = ltb 64 (length files)

-- --infer with another name; --check with --write; no FILE, or more than 64
abbrev pub are_refused : Options → Bool
are_refused o = not (is_chosen o.infer) || (o.check && o.write) || length o.files == 0 || are_many o.files

-- ---- what is asked for

-- what becomes of the annotated texts: they are shown where neither flag is on
abbrev pub mode_of : Bool → Bool → Mode
mode_of check write = cond check Check (cond write Write Show)

-- what options ask for
unfoldable pub wanted_in : Options → Wanted
wanted_in o = record { infer = infer_of o.infer; terse = o.terse; imports = o.imports; mode = mode_of o.check o.write; files = o.files }

-- the same where the words are taken and the options are not refused
abbrev pub wanted_if : Bool → Bool → Options → Option Wanted
wanted_if false refused o = None
wanted_if true true o = None
wanted_if true false o = Some (wanted_in o)

-- what the words ask for; none where they are not those of a command
unfoldable pub wanted_of : List (List ℕ) → Option Wanted
wanted_of words = wanted_if (takes_words words) (are_refused (options_of words)) (options_of words)
