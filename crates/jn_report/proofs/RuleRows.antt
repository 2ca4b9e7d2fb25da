-- The rows of the rules are one list.
use Rattle.std.proofs.Common.{◌≡◌, ℕ, List, [], ◌∷◌, ◌++◌, length, Option, refl, sym, ap, ◌∙◌}
use Rattle.std.specs.Prelude.{slice_index_or}
use Rattle.jn_base.specs.declared.place.Row.{Row}
use Rattle.jn_quals.specs.Qualifier.{Qualifier}
use Rattle.jn_points.specs.declared.program.Program.{Program}
use Rattle.jn_points.specs.Members.{below}
use Rattle.jn_env.specs.Environment.{Env}
use Rattle.jn_transfer.specs.Least.{IsLeastTable}
use Rattle.jn_transfer.specs.Rules.{Breaks, body_rows, bodies_rows, pairs_rows}

module _ (P : Program) (s : List Qualifier) (one : (b : ℕ) (t u : List (Option Env)) → IsLeastTable P s b t → IsLeastTable P s b u → t ≡ u) where
  same_rows : (tables others : List (List (Option Env))) → ((b : ℕ) → slice_index_or tables b [] ≡ slice_index_or others b []) → (bs : List ℕ) → bodies_rows P s bs tables ≡ bodies_rows P s bs others
  same_rows tables others e [] = refl
  same_rows tables others e (b ∷ bs) =
      ap (λ t. body_rows P s b t ++ bodies_rows P s bs tables) (e b) ∙ ap (λ r. body_rows P s b (slice_index_or others b []) ++ r) (same_rows tables others e bs)

  pub breaks_once : (broken other : List Row) → Breaks P s broken → Breaks P s other → broken ≡ other
  breaks_once broken other x y =
      x.all ∙ ap (λ r. r ++ pairs_rows P s) (same_rows x.tables y.tables (λ b. one b _ _ (x.least b) (y.least b)) (below (length P.bodies))) ∙ sym y.all
