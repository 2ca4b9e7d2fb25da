-- The narrowest place as it is found: place by place, those that pass.
use Rattle.std.specs.Prelude.{Bool, cond, List, [], ◌∷◌, nat_lt, Option, Some, None}
use Rattle.jn_lsp_hover.specs.declared.sought.Sought.{Sought}
use Rattle.jn_lsp_hover.specs.declared.spot.Spot.{Spot}
use Rattle.jn_lsp_hover.specs.Spots.{is_there, width}

-- the byte that is sought is in what stands there
abbrev pub passes : Sought → Spot → Bool
passes sought spot = is_there sought.program.now sought.file sought.text.now sought.offset spot

-- one place more, where it passes and there is none that is as narrow
abbrev pub narrower : Option Spot → Spot → Spot
narrower None spot = spot
narrower (Some best) spot = cond (nat_lt (width spot) (width best)) spot best

module _ (sought : Sought) where
  -- the best after one place more
  abbrev pub better : Option Spot → Spot → Option Spot
  better best spot = cond (passes sought spot) (Some (narrower best spot)) best

  -- after these places
  abbrev pub searched : Option Spot → List Spot → Option Spot
  searched best [] = best
  searched best (spot ∷ spots) = searched (better best spot) spots
