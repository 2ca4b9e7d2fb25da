-- Rows have one list of notes.
use Rattle.std.proofs.Common.{◌≡◌, ℕ, ◌<◌, List, [], ◌∷◌, length, Option, Some, None, refl, sym, ap, ◌∙◌, subst, arith}
use Rattle.std.specs.Prelude.{slice_index_or}
use Rattle.std.proofs.lemmas.List.{ext_get_or}
use Rattle.jn_base.specs.declared.place.Row.{Row}
use Rattle.jn_quals.specs.Qualifier.{Qualifier}
use Rattle.jn_points.specs.declared.program.Program.{Program}
use Rattle.jn_env.specs.Keys.{Key}
use Rattle.jn_env.specs.Order.{Table}
use Rattle.jn_transfer.specs.Least.{IsLeastTable}
use Rattle.jn_reasons_law.specs.declared.item.Item.{Item}
use Rattle.jn_reasons_law.specs.declared.item.Step.{Step}
use Rattle.jn_reasons_law.specs.Choice.{IsFirstChain, told}
use Rattle.jn_voided.specs.Voided.{IsFound}
use Rattle.jn_voided.specs.declared.search.Voided.{Voided}
use Rattle.jn_note_words.specs.declared.note.Note.{Note}
use Rattle.jn_note_words.specs.declared.note.Notes.{Notes}
use Rattle.jn_notes.specs.Asked.{item_of}
use Rattle.jn_notes.specs.Noted.{headed, noted, AreBy, AreFrom, AreNotes, AreEach, AreLeastTables, AreNotesOf}
use Rattle.jn_notes.specs.Spoken.{topics_of}
use Rattle.jn_note_words.specs.Unkept.{preceded}
use Rattle.jn_note_words.specs.Leaving.{read_in}
use Rattle.jn_notes.specs.Voids.{AreVoids, key_of, void_notes}
use Rattle.jn_note_words.specs.declared.leaving.ReadAt.{ReadAt}

module _ (P : Program) (names : List (List ℕ)) (s : List Qualifier)
    (tables_one : (b : ℕ) (t u : Table) → IsLeastTable P s b t → IsLeastTable P s b u → t ≡ u)
    (chain_one : (tables : List Table) (x : Item) (a b : List Step) → IsFirstChain P s tables x a → IsFirstChain P s tables x b → a ≡ b)
    (pair_one : (b : ℕ) (t : Table) (k : Key) (read : ℕ) (one other : Option Voided) → IsFound P s b t k read one → IsFound P s b t k read other → one ≡ other) where
  same_tables : (ts us : List Table) → AreLeastTables P s ts → AreLeastTables P s us → ts ≡ us
  same_tables ts us h i =
      let l = h.long in
      let m = i.long in
      ext_get_or [] ts us (l ∙ sym m) (λ b lt.
      let low : b < length P.bodies = omega (arith, lt, l) in
      tables_one b (slice_index_or ts b []) (slice_index_or us b []) (h.least b low) (i.least b low))

  module _ (tables : List Table) where
    same_voids : (read : Option ReadAt) (ns ms : List Note) → AreVoids P names s tables read ns → AreVoids P names s tables read ms → ns ≡ ms
    same_voids None ns ms h i = h ∙ sym i
    same_voids (Some read) ns ms h i =
        h.2 ∙ ap (λ (found : Option Voided). void_notes P names read found) (pair_one read.body (slice_index_or tables read.body []) (key_of read) read.point h.0 i.0 h.1 i.1) ∙ sym i.2

    same_by : (steps : List Step) (n m : Notes) → AreBy P names s tables steps n → AreBy P names s tables steps m → n ≡ m
    same_by steps n m h i = h.2 ∙ ap (λ (voids : List Note). noted P names voids (told steps)) (same_voids (read_in P steps) h.0 i.0 h.1 i.1) ∙ sym i.2

    same_from : (o : Option Item) (n m : Notes) → AreFrom P names s tables o n → AreFrom P names s tables o m → n ≡ m
    same_from None n m h i = h ∙ sym i
    same_from (Some x) n m h i = same_by i.0 n m (subst (λ (steps : List Step). AreBy P names s tables steps n) (chain_one tables x h.0 i.0 h.1 i.1) h.2) i.2

    same_row : (row : Row) (n m : Notes) → AreNotes P names s tables row n → AreNotes P names s tables row m → n ≡ m
    same_row row n m h i = h.2 ∙ ap (λ (rest : Notes). headed P names row (topics_of P s row tables) (preceded P (item_of P s row tables) rest)) (same_from (item_of P s row tables) h.0 i.0 h.1 i.1) ∙ sym i.2

    same_each : (rows : List Row) (ns ms : List Notes) → AreEach P names s tables rows ns → AreEach P names s tables rows ms → ns ≡ ms
    same_each [] [] [] h i = refl
    same_each [] [] (m ∷ ms) h i = absurd i
    same_each [] (n ∷ ns) ms h i = absurd h
    same_each (row ∷ rows) [] ms h i = absurd h
    same_each (row ∷ rows) (n ∷ ns) [] h i = absurd i
    same_each (row ∷ rows) (n ∷ ns) (m ∷ ms) h i =
        ap (λ (x : Notes). x ∷ ns) (same_row row n m h.0 i.0) ∙ ap (λ (xs : List Notes). m ∷ xs) (same_each rows ns ms h.1 i.1)

  pub one_list : (rows : List Row) (one other : List Notes) → AreNotesOf P names s rows one → AreNotesOf P names s rows other → one ≡ other
  one_list rows one other h i =
      same_each i.tables rows one other (subst (λ (ts : List Table). AreEach P names s ts rows one) (same_tables h.tables i.tables h.solved i.solved) h.each) i.each
