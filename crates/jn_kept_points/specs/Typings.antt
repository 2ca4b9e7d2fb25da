-- A program that is kept, and what is kept beside it of the trees that it is of.
use Rattle.std.specs.Prelude.{ℕ, ◌≡◌, Bool, true, false, List, [], Option, Some, None, get_or, map, slice_get}
use Rattle.jn_base.specs.declared.infer.Infer.{Infer}
use Rattle.jn_places.specs.Placed.{PlacedFile}
use Rattle.jn_points.specs.declared.program.Program.{Program}
use Rattle.jn_points.specs.Lookup.{body_at}
use Rattle.jn_heads_law.specs.Heads.{HeadsAlike}
use Rattle.jn_heads.specs.declared.head.ClassHead.{ClassHead}
use Rattle.jn_heads.specs.Extract.{heads}
use Rattle.jn_classtable.specs.Rows.{t_rows}
use Rattle.jn_heads_law.specs.Plain.{plain_head}
use Rattle.jn_program.specs.Starts.{AreStarts}
use Rattle.jn_program_law.specs.FileProgram.{inferring, j_rows}
use Rattle.jn_kept_points.specs.declared.typing.KeptTyping.{KeptTyping}
use Rattle.jn_kept_points.specs.declared.typing.Unchanged.{Unchanged}

-- the program is that of files with these trees, which have no row T1 to T10 or J1 to J6; what their types declare and where the files begin is kept
pub record IsTypingOf (infer : Infer) (trees : List PlacedFile) (P : Program) (kept : KeptTyping) : Type 0 where
  pub program : P ≡ inferring infer trees
  pub class_rows : t_rows (heads trees) ≡ []
  pub rows : j_rows trees ≡ []
  pub heads : kept.heads ≡ heads trees
  pub starts : AreStarts trees kept.starts.items

-- where there is a program, so much is kept beside it
abbrev pub IsKeptOf : Infer → List PlacedFile → Option Program → Option KeptTyping → Type 0
IsKeptOf infer trees None kept = Unit {0}
IsKeptOf infer trees (Some P) None = ⊥
IsKeptOf infer trees (Some P) (Some kept) = IsTypingOf infer trees P kept

-- the files that are told have the tree that they had
abbrev pub SameTrees : List PlacedFile → List Bool → List PlacedFile → Type 0
SameTrees before same trees = (n : ℕ) → get_or same n false ≡ true → (tree : PlacedFile) × (slice_get before n ≡ Some tree) × (slice_get trees n ≡ Some tree)

-- types declare the same but for places and what is written of nullness and initialization
abbrev pub IsAlike : List ClassHead → List ClassHead → Type 0
IsAlike one other = map plain_head one ≡ map plain_head other

-- what is told of an earlier program stands in the one that is found: what it declares but for places, and bodies of their numbers
abbrev pub IsUnchangedIn : Program → Option Program → Unchanged → Type 0
IsUnchangedIn P None unchanged = Unit {0}
IsUnchangedIn P (Some Q) unchanged = (unchanged.alike ≡ true → HeadsAlike P Q) × ((b : ℕ) → get_or unchanged.bodies.items b false ≡ true → body_at P b ≡ body_at Q b)
