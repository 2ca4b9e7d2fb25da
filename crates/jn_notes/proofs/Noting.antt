-- Notes, step after step and row after row.
use Rattle.std.proofs.Common.{◌≡◌, true, ℕ, ◌+◌, ◌-◌, ◌<◌, List, [], ◌∷◌, ◌++◌, length, map, take, Some, sym, ap, ◌∙◌, subst, arith}
use Rattle.std.specs.Prelude.{slice_index_or}
use Rattle.std.specs.List.{range_with_len}
use Rattle.std.proofs.lemmas.List.FromFn.{get_or-map-range_with_len, length-map-range_with_len}
use Rattle.std.proofs.lemmas.List.{take_more}
use Rattle.jn_base.specs.declared.place.Row.{Row}
use Rattle.jn_quals.specs.Qualifier.{Qualifier}
use Rattle.jn_points.specs.declared.program.Program.{Program}
use Rattle.jn_env.specs.Order.{Table}
use Rattle.jn_transfer.specs.Least.{IsLeastTable}
use Rattle.jn_transfer.specs.Sized.{StaysInside}
use Rattle.jn_tables_law.specs.Inferable.{IsInferable, least_table}
use Rattle.jn_reasons_law.specs.declared.item.Item.{Item}
use Rattle.jn_reasons_law.specs.declared.item.Step.{Step}
use Rattle.jn_reasons_law.specs.Items.{Stands}
use Rattle.jn_reasons_law.specs.Chains.{HasChain}
use Rattle.jn_reasons_law.specs.Choice.{IsFirstChain}
use Rattle.jn_chain.specs.Search.{Ground, IsShortestWay}
use Rattle.jn_chain.proofs.Walks.{chain_stands}
use Rattle.jn_note_words.specs.declared.note.Note.{Note}
use Rattle.jn_note_words.specs.declared.note.Notes.{Notes}
use Rattle.jn_notes.specs.declared.said.Said.{Said}
use Rattle.jn_notes.specs.Said.{IsSaid, said_of}
use Rattle.jn_notes.specs.Noted.{last_of, note_of, AreBy, AreFrom, AreNotes, AreEach, AreNotesOf}

module _ (P : Program) (names : List (List ℕ)) where
  module _ (s : List Qualifier) (tables : List Table) where
    both_more : (rows : List Row) (row : Row) (notes : List Notes) (n : Notes) → AreEach P names s tables rows notes → AreNotes P names s tables row n → AreEach P names s tables (rows ++ row ∷ []) (notes ++ n ∷ [])
    both_more [] row [] n h g = (g, tt)
    both_more [] row (m ∷ notes) n h g = absurd h
    both_more (r ∷ rows) row [] n h g = absurd h
    both_more (r ∷ rows) row (m ∷ notes) n h g = (h.0, both_more rows row notes n h.1 g)

    pub row_more : (rows : List Row) (i : ℕ) (d : Row) (n : Notes) (old new : List Notes) → i < length rows → AreNotes P names s tables (slice_index_or rows i d) n → new ≡ old ++ n ∷ []
        → AreEach P names s tables (take i rows) old → AreEach P names s tables (take (i + 1) rows) new
    row_more rows i d n old new lt g h e =
        subst (AreEach P names s tables (take (i + 1) rows)) (sym h)
        (subst (λ (rs : List Row). AreEach P names s tables rs (old ++ n ∷ [])) (sym (take_more rows i d lt))
        (both_more (take i rows) (slice_index_or rows i d) old n e g))

    pub none_rows : (rows : List Row) (list : List Notes) → list ≡ [] → AreEach P names s tables (take 0 rows) list
    none_rows [] list e = subst (AreEach P names s tables []) (sym e) tt
    none_rows (row ∷ rows) list e = subst (AreEach P names s tables []) (sym e) tt

  abbrev ends : List Step → List Note
  ends xs = map (note_of P names true) (last_of xs)

  -- of what is said of an item
  pub from_said : (s : List Qualifier) (tables : List Table) (G : Ground) (x : Item) (said : Said) (notes : Notes) → G.program ≡ P → G.sig ≡ s → G.tables ≡ tables → IsSaid G x said
      → HasChain P G.sig G.tables x → ((F : Ground) (y : Item) (steps : List Step) → Stands F.sig F.tables y → IsShortestWay F (Some y) steps → IsFirstChain F.program F.sig F.tables y steps)
      → ((steps : List Step) → said ≡ said_of P steps → AreBy P names s tables steps notes) → AreFrom P names s tables (Some x) notes
  from_said s tables G x said notes p q t h chain law n = (
    h.steps,
    subst (λ (us : List Table). IsFirstChain P s us x h.steps) t (subst (λ (r : List Qualifier). IsFirstChain P r G.tables x h.steps) q (subst (λ (Q : Program). IsFirstChain Q G.sig G.tables x h.steps) p (law G x h.steps (chain_stands G x (subst (λ (Q : Program). HasChain Q G.sig G.tables x) (sym p) chain)) h.way))),
    n h.steps (h.is ∙ ap (λ (Q : Program). said_of Q h.steps) p),
  )

-- of no rows, under the least tables
pub of_no_rows : (P : Program) (names : List (List ℕ)) (s : List Qualifier) (rows : List Row) (notes : List Notes) → IsInferable P
    → ((b : ℕ) → StaysInside P b → IsLeastTable P s b (least_table P s b)) → rows ≡ [] → notes ≡ [] → AreNotesOf P names s rows notes
of_no_rows P names s rows notes can exists none empty =
    subst (λ (rs : List Row). AreNotesOf P names s rs notes) (sym none) (subst (λ (ns : List Notes). AreNotesOf P names s [] ns) (sym empty) (record {
      tables = map (least_table P s) (range_with_len 0 (length P.bodies));
      solved = record {
        long = length-map-range_with_len (least_table P s) 0 (length P.bodies);
        least = λ b lt. subst (IsLeastTable P s b) (sym (get_or-map-range_with_len (least_table P s) 0 (length P.bodies) b b [] lt (omega arith))) (exists b (can.inside b lt));
      };
      each = tt;
    }))
