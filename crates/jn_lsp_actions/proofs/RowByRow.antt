-- Slots of rows, row after row.
use Rattle.std.proofs.Common.{◌≡◌, ℕ, ◌+◌, ◌<◌, ◌≤◌, Bool, List, [], ◌∷◌, ◌++◌, length, take, sym, subst}
use Rattle.std.specs.Prelude.{slice_index_or}
use Rattle.std.proofs.lemmas.List.{take_more, take_all}
use Rattle.jn_base.specs.declared.place.Row.{Row}
use Rattle.jn_env.specs.Order.{Table}
use Rattle.jn_points.specs.declared.program.Program.{Program}
use Rattle.jn_notes.specs.Asked.{item_of}
use Rattle.jn_quals.specs.Qualifier.{Qualifier}
use Rattle.jn_lsp_actions.specs.Offered.{AreSlotsFrom, AreSlotsOf}

module _ (P : Program) (s : List Qualifier) (tables : List Table) (test : ℕ → Bool) where
  both_more : (rows : List Row) (row : Row) (wants : List (List ℕ)) (slots : List ℕ) → AreSlotsOf P s tables test rows wants → AreSlotsFrom P s tables test (item_of P s row tables) slots → AreSlotsOf P s tables test (rows ++ row ∷ []) (wants ++ slots ∷ [])
  both_more [] row [] slots h g = (g, tt)
  both_more [] row (m ∷ wants) slots h g = absurd h
  both_more (r ∷ rows) row [] slots h g = absurd h
  both_more (r ∷ rows) row (m ∷ wants) slots h g = (h.0, both_more rows row wants slots h.1 g)

  pub row_more : (rows : List Row) (i : ℕ) (d : Row) (slots : List ℕ) (old new : List (List ℕ)) → i < length rows → AreSlotsFrom P s tables test (item_of P s (slice_index_or rows i d) tables) slots → new ≡ old ++ slots ∷ []
      → AreSlotsOf P s tables test (take i rows) old → AreSlotsOf P s tables test (take (i + 1) rows) new
  row_more rows i d slots old new lt g h e =
      subst (AreSlotsOf P s tables test (take (i + 1) rows)) (sym h)
      (subst (λ (rs : List Row). AreSlotsOf P s tables test rs (old ++ slots ∷ [])) (sym (take_more rows i d lt))
      (both_more (take i rows) (slice_index_or rows i d) old slots e g))

  pub rows_done : (rows : List Row) (i : ℕ) (list : List (List ℕ)) → length rows ≤ i → AreSlotsOf P s tables test (take i rows) list → AreSlotsOf P s tables test rows list
  rows_done rows i list le h = subst (λ (rs : List Row). AreSlotsOf P s tables test rs list) (take_all i rows le) h

  pub none_rows : (rows : List Row) (list : List (List ℕ)) → list ≡ [] → AreSlotsOf P s tables test (take 0 rows) list
  none_rows [] list e = subst (AreSlotsOf P s tables test []) (sym e) tt
  none_rows (row ∷ rows) list e = subst (AreSlotsOf P s tables test []) (sym e) tt
