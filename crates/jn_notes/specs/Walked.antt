-- What notes are made of, and what is known of its chains from one note to the next.
use Rattle.std.specs.Prelude.{ℕ, ◌≡◌, List, Option}
use Rattle.jn_quals.specs.Qualifier.{Qualifier}
use Rattle.jn_points.specs.declared.program.Program.{Program}
use Rattle.jn_env.specs.Order.{Table}
use Rattle.jn_inference_law.specs.Solution.{IsLeastSignature}
use Rattle.jn_reasons_law.specs.declared.item.Item.{Item}
use Rattle.jn_chain.specs.declared.chains.Rest.{Rest}
use Rattle.jn_chain.specs.Search.{AreRests, Ground}
use Rattle.jn_note_words.specs.declared.owners.Owner.{Owner}
use Rattle.jn_note_words.specs.Owned.{AreOwners}
use Rattle.jn_voided.specs.Kept.{Scene, scene_by}
use Rattle.jn_notes.specs.declared.said.Said.{Said}
use Rattle.jn_notes.specs.Noted.{AreLeastTables}
use Rattle.jn_notes.specs.Said.{AreSaid}

-- a program with the texts of its names, a signature, and tables of its bodies
pub record Subject : Type 0 where
  pub program : Program
  pub names : List (List ℕ)
  pub sig : List Qualifier
  pub tables : List Table

abbrev pub subject_of : List (List ℕ) → Ground → Subject
subject_of names G = record { program = G.program; names = names; sig = G.sig; tables = G.tables }

abbrev pub ground_in : Subject → Ground
ground_in v = record { program = v.program; sig = v.sig; tables = v.tables }

-- the signature and the tables are the least ones, and the slots have these owners
pub record IsSolved (G : Ground) (owners : List (Option Owner)) : Type 0 where
  pub least : IsLeastSignature G.program G.sig
  pub solved : AreLeastTables G.program G.sig G.tables
  pub owners_are : AreOwners G.program owners

abbrev pub scene_in : Subject → Scene
scene_in v = scene_by v.program v.sig v.tables

-- what is known of chains, and what is said of them, is so; facts are made void in the same program
pub record IsWalked (v : Subject) (rests : Item → Option Rest) (says : Item → Option Said) (scene : Scene) : Type 0 where
  pub rests_are : AreRests (ground_in v) rests
  pub said : AreSaid (ground_in v) says
  pub voids : scene ≡ scene_in v
