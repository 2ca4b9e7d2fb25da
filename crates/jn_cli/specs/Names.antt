-- The words of a program that takes names, and a choice of members that are inferred.
use Rattle.std.specs.Prelude.{ℕ, List, [], ◌∷◌, codes}
use Rattle.clap.specs.Words.{App, Row, first_of}
use Rattle.jn_cli.specs.Tables.{app_with, names_in, table}
use Rattle.jn_cli.specs.declared.names.Options.{Options}

-- the program of this name as clap sees it: an option, and names
unfoldable pub names_app : List ℕ → App
names_app program = app_with (table program (codes "infer" ∷ []) [])

-- the option and the names among what clap matched
abbrev pub options_in : List Row → Options
options_in rows = record { infer = first_of (codes "infer") rows; names = names_in rows }
