-- What is said of a chain: what is told of it, and the read of a field by which it leaves its first registers.
use Rattle.std.specs.Prelude.{◌≡◌, List, Option, Some}
use Rattle.jn_points.specs.declared.program.Program.{Program}
use Rattle.jn_reasons_law.specs.declared.item.Item.{Item}
use Rattle.jn_reasons_law.specs.declared.item.Step.{Step}
use Rattle.jn_chain.specs.Search.{Ground, IsShortestWay}
use Rattle.jn_chain.specs.Told.{told_of}
use Rattle.jn_notes.specs.declared.said.Said.{Said}
use Rattle.jn_notes.specs.Noted.{most_shown}
use Rattle.jn_note_words.specs.Leaving.{read_in}

-- of these steps
abbrev pub said_of : Program → List Step → Said
said_of P steps = record { told = told_of most_shown steps; read = read_in P steps }

module _ (G : Ground) where
  -- of the shortest way from an item by least steps
  pub record IsSaid (x : Item) (said : Said) : Type 0 where
    pub steps : List Step
    pub way : IsShortestWay G (Some x) steps
    pub is : said ≡ said_of G.program steps

  -- all that is said of items is so
  abbrev pub AreSaid : (Item → Option Said) → Type 0
  AreSaid says = (x : Item) (said : Said) → says x ≡ Some said → IsSaid x said
