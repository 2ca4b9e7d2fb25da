-- What the words of `nullcheck_lsp` mean: [--codes ADDRESS] [--infer NAME].
use Rattle.std.specs.Prelude.{ℕ, ◌==◌, ◌&&◌, Bool, List, [], ◌∷◌, Option, Some, None, codes, length, if◌then◌else◌}
use Rattle.clap.specs.Words.{App, Row, first_of, matches_of}
use Rattle.jn_cli.specs.Tables.{app_with, infer_of, is_chosen, names_in, table, takes}
use Rattle.jn_cli.specs.declared.server.Options.{Options}
use Rattle.jn_cli.specs.declared.server.Setup.{Setup}

-- the command as clap sees it: two options, and names
unfoldable pub server_app : App
server_app = app_with (table (codes "nullcheck_lsp") (codes "codes" ∷ codes "infer" ∷ []) [])

-- the options and the names among what clap matched
abbrev pub options_in : List Row → Options
options_in rows = record { codes = first_of (codes "codes") rows; infer = first_of (codes "infer") rows; names = names_in rows }

-- a choice of members that is one, or none, and no name
abbrev pub are_taken : Options → Bool
are_taken o = is_chosen o.infer && length o.names == 0

-- a server's choice of members, and the address of the document of the codes
abbrev pub setup_in : Options → Setup
setup_in o = record { infer = infer_of o.infer; address = o.codes }

-- what words ask of a server; none where they are none of its words
unfoldable pub setup_of : List (List ℕ) → Option Setup
setup_of words =
    if takes server_app words && are_taken (options_in (matches_of server_app words))
    then Some (setup_in (options_in (matches_of server_app words))) else None
