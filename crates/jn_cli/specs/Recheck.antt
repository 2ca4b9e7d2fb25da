-- What the words of `nullcheck_recheck` mean: [--infer NAME] SCRIPT.
use Rattle.std.specs.Prelude.{ℕ, List, [], ◌∷◌, Option, Some, None, codes, if◌then◌else◌}
use Rattle.clap.specs.Words.{App, matches_of}
use Rattle.jn_base.specs.declared.infer.Infer.{Infer}
use Rattle.jn_cli.specs.Names.{names_app, options_in}
use Rattle.jn_cli.specs.Tables.{infer_of, is_chosen, takes}
use Rattle.jn_cli.specs.declared.names.Options.{Options}
use Rattle.jn_cli.specs.declared.recheck.AskedFor.{AskedFor}

-- the command as clap sees it: an option, and names
abbrev pub recheck_app : App
recheck_app = names_app (codes "nullcheck_recheck")

-- a script, and the members that are inferred in its checks
abbrev pub asking : Infer → List ℕ → AskedFor
asking infer script = record { infer = infer; script = script }

-- the script is the one name
abbrev pub asked_by : Infer → List (List ℕ) → Option AskedFor
asked_by infer [] = None
asked_by infer (name ∷ []) = Some (asking infer name)
asked_by infer (name ∷ other ∷ names) = None

-- what options ask for; none where they ask for nothing
abbrev pub asked_in : Options → Option AskedFor
asked_in o = if is_chosen o.infer then asked_by (infer_of o.infer) o.names else None

-- what words ask for
unfoldable pub asked_of : List (List ℕ) → Option AskedFor
asked_of words = if takes recheck_app words then asked_in (options_in (matches_of recheck_app words)) else None
