-- What the words of `write` ask for: those of the command whose certificate takes no source's place.
use Rattle.std.specs.Prelude.{ℕ, Bool, ◌||◌, List, codes, nat_eq, Option, Some, None, if◌then◌else◌}
use Rattle.std.specs.List.{ends_with}
use Rattle.jn_targets.specs.Replacing.{is_one}
use Rattle.jn_cli.specs.Cert.{Command, asked_of}

-- the name is that of a Java file
abbrev pub is_java : List ℕ → Bool
is_java name = ends_with nat_eq name (codes ".java")

-- it is, or it is that of one of the files
abbrev pub takes_source : List ℕ → List (List ℕ) → Bool
takes_source cert files = is_java cert || is_one files cert

abbrev pub unless_source : Option Command → Option Command
unless_source None = None
unless_source (Some c) = if takes_source c.cert c.files then None else Some c

abbrev pub write_asked : List (List ℕ) → Option Command
write_asked words = unless_source (asked_of (codes "write") words)
