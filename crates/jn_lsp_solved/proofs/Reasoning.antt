-- Reasons of a program that is solved.
use Rattle.std.proofs.Common.{ℕ, ◌≡◌, List, subst}
use Rattle.std.specs.Prelude.{slice_index_or}
use Rattle.jn_chain.specs.Search.{Ground}
use Rattle.jn_env.specs.Order.{Table}
use Rattle.jn_inference_law.specs.Solution.{IsLeastSignature}
use Rattle.jn_note_words.specs.declared.note.Notes.{Notes}
use Rattle.jn_notes.specs.Noted.{AreFrom, AreLeastTables}
use Rattle.jn_notes.specs.Walked.{Subject, subject_of}
use Rattle.jn_points.specs.declared.program.Program.{Program}
use Rattle.jn_quals.specs.Order.{no_qual}
use Rattle.jn_quals.specs.Qualifier.{Qualifier}
use Rattle.jn_reasons_law.specs.declared.item.Bit.{Bit}
use Rattle.jn_lsp_solved.specs.Reasons.{bit_item}

pub least_for : (P : Program) (s : List Qualifier) (g : Ground) → P ≡ g.program → s ≡ g.sig → IsLeastSignature P s → IsLeastSignature g.program g.sig
least_for P s g p q h = subst (λ (Q : Program). IsLeastSignature Q g.sig) p (subst (IsLeastSignature P) q h)

pub tables_for : (P : Program) (s : List Qualifier) (ts : List Table) (g : Ground) → P ≡ g.program → s ≡ g.sig → ts ≡ g.tables → AreLeastTables P s ts → AreLeastTables g.program g.sig g.tables
tables_for P s ts g p q t h = subst (λ (Q : Program). AreLeastTables Q g.sig g.tables) p (subst (λ (r : List Qualifier). AreLeastTables P r g.tables) q (subst (AreLeastTables P s) t h))

-- the notes of a bit
pub bit_notes : (names : List (List ℕ)) (P : Program) (s : List Qualifier) (ts : List Table) (g : Ground) (u : Subject) (k : ℕ) (bit : Bit) (n : Notes) → u ≡ subject_of names g → g.program ≡ P → g.sig ≡ s → g.tables ≡ ts
    → AreFrom u.program u.names u.sig u.tables (bit_item k (slice_index_or u.sig k no_qual) bit) n → AreFrom P names s ts (bit_item k (slice_index_or s k no_qual) bit) n
bit_notes names P s ts g u k bit n e p q t h =
    subst (λ (us : List Table). AreFrom P names s us (bit_item k (slice_index_or s k no_qual) bit) n) t
    (subst (λ (r : List Qualifier). AreFrom P names r g.tables (bit_item k (slice_index_or r k no_qual) bit) n) q
    (subst (λ (Q : Program). AreFrom Q names g.sig g.tables (bit_item k (slice_index_or g.sig k no_qual) bit) n) p
    (subst (λ (v : Subject). AreFrom v.program v.names v.sig v.tables (bit_item k (slice_index_or v.sig k no_qual) bit) n) e h)))
