-- The options of a program, as clap sees them, and what clap makes of words.
use Rattle.std.specs.Prelude.{ℕ, ◌||◌, ◌++◌, Bool, true, false, List, [], ◌∷◌, Option, Some, None, codes, fold, map, unwrap_or, if◌then◌else◌}
use Rattle.std.specs.Option.{option_map_or}
use Rattle.std.specs.Str.{bytes_eq}
use Rattle.clap.specs.Words.{App, Kinds, Row, Rule, fault_of, all_of, new_app, new_rule, with_rule}
use Rattle.clap.specs.Simple.{on_top}
use Rattle.clap.specs.declared.builder.ArgAction.TheVariants.{Append, SetTrue}
use Rattle.jn_base.specs.declared.infer.Infer.{Infer}
use Rattle.jn_base.specs.declared.infer.Infer.TheVariants.{Private, Package}
use Rattle.jn_cli.specs.declared.table.Table.{Table as ProgramTable}

-- ---- the command as clap sees it

-- the options of a program: the names of those that have a value, and of those that are on or off
pub record Table : Type 0 where
  pub program : List ℕ
  pub values : List (List ℕ)
  pub flags : List (List ℕ)

-- the same from its three parts
abbrev pub table : List ℕ → List (List ℕ) → List (List ℕ) → Table
table program values flags = record { program = program; values = values; flags = flags }

-- the table of a program
abbrev pub table_of : ProgramTable → Table
table_of t = table t.program.now (map (λ n. n.now) t.values.now) (map (λ n. n.now) t.flags.now)

-- an option that is written by its long name, with one value
abbrev pub single : List ℕ → Rule
single name = record (new_rule name) { long = Some name }

-- an option that is written by its long name, and has no value
abbrev pub flag : List ℕ → Rule
flag name = record (single name) { action = Some SetTrue }

-- the names that are no options, each added to those before it
abbrev pub file_rule : Rule
file_rule = record (new_rule (codes "FILE")) { action = Some Append }

-- the words are those after the program's name, and there is no help flag
abbrev pub bare_app : List ℕ → App
bare_app program = on_top (λ s. record s { no_binary_name = true; disable_help_flag = true }) (new_app program)

-- the command as a whole: the options, and names
abbrev pub app_with : Table → App
app_with t = with_rule (fold with_rule (fold with_rule (bare_app t.program) (map single t.values)) (map flag t.flags)) file_rule

-- nothing is wrong with the words
abbrev pub no_fault : Kinds → Bool
no_fault [] = true
no_fault (kind ∷ kinds) = false

-- the command takes the words
abbrev pub takes : App → List (List ℕ) → Bool
takes app words = no_fault (fault_of app words)

-- ---- what clap matched

-- what clap has for a flag says that it was given
abbrev pub is_on : Option (List ℕ) → Bool
is_on text = option_map_or (λ t. bytes_eq t (codes "true")) text false

-- the names among what clap matched
abbrev pub names_in : List Row → List (List ℕ)
names_in rows = unwrap_or (all_of (codes "FILE") rows) []

-- ---- members that are inferred

-- a name of members that are inferred
abbrev pub is_infer : List ℕ → Bool
is_infer name = bytes_eq name (codes "private") || bytes_eq name (codes "package")

-- no name, or one of members that are inferred
abbrev pub is_chosen : Option (List ℕ) → Bool
is_chosen name = option_map_or is_infer name true

-- the members that are inferred; private ones where nothing is said
abbrev pub infer_of : Option (List ℕ) → Infer
infer_of None = Private
infer_of (Some name) = if bytes_eq name (codes "package") then Package else Private
