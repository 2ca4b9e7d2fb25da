-- What is shown in files is what their annotated texts have more.
use Rattle.std.specs.Prelude.{ℕ, ◌≡◌, Bool, true, false, bytes_eq, filter, List, [], ◌∷◌, map}
use Rattle.jn_base.specs.declared.infer.Infer.{Infer}
use Rattle.jn_annotate.specs.Annotated.{Annotated}
use Rattle.jn_front.specs.declared.source.SourceFile.{SourceFile}
use Rattle.jn_lsp_text.specs.declared.encoding.Encoding.{Encoding}
use Rattle.jn_lsp_text.specs.declared.range.Range.{Range}
use Rattle.jn_lsp_text.specs.declared.reply.Hint.{Hint}
use Rattle.jn_places.specs.Forget.{forget_file}
use Rattle.jn_splice_law.specs.Inserted.{Insertion as Words, inserted}
use Rattle.jn_lsp_actions.specs.Hinted.{AreInferred, hint_at, is_shown, with_related}

abbrev pub text_of : SourceFile → List ℕ
text_of file = file.bytes

-- a hint without what tells why
abbrev pub bare : Hint → Hint
bare hint = with_related hint []

-- these hints are, of the words that a new text has more, those in the range
pub record AreAdded (encoding : Encoding) (range : Range) (text new : List ℕ) (hints : List Hint) : Type 0 where
  pub words : List Words
  pub put : new ≡ inserted text words
  pub are : map bare hints ≡ filter (is_shown range) (map (hint_at encoding text) words)

abbrev pub Either : Bool → Type 0 → Type 0 → Type 0
Either true one other = one
Either false one other = other

-- the same of the first file of a name; none where there is no such file
abbrev pub AreAddedIn : Encoding → List ℕ → Range → List SourceFile → List (List ℕ) → List Hint → Type 0
AreAddedIn encoding name range [] new hints = hints ≡ []
AreAddedIn encoding name range (file ∷ files) [] hints = hints ≡ []
AreAddedIn encoding name range (file ∷ files) (text ∷ new) hints = Either (bytes_eq file.name name) (AreAdded encoding range file.bytes text hints) (AreAddedIn encoding name range files new hints)

-- where files have annotated texts, without lines that import annotations
abbrev pub AreOfAnnotated : Type 0
AreOfAnnotated =
    (infer : Infer) (encoding : Encoding) (files : List SourceFile) (name : List ℕ) (range : Range) (hints : List Hint) (new : List (List ℕ)) (of : AreInferred infer encoding files name range hints)
    → Annotated false of.P of.signature (map text_of files) of.of_files.of_files.tokens (map forget_file of.of_files.of_files.trees) new
    → AreAddedIn encoding name range files new hints
