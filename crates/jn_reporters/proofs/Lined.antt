-- A sheet whose lines are those of its rows stays one.
use Rattle.std.proofs.Common.{◌≡◌, ℕ, List, [], ◌∷◌, ◌++◌, Result, Ok, Err, OnOk, OnErr, sym, subst, ap, ◌∙◌, append-nil}
use Rattle.std.specs.List.{flat_map}
use Rattle.std.proofs.lemmas.Grind.{flat_map-append}
use Rattle.jn_base.specs.declared.refusal.OutOfMemory.{OutOfMemory}
use Rattle.jn_reporters.specs.Sheet.{Lined, with_line}
use Rattle.jn_reporters.specs.declared.shown.ShownRow.{ShownRow}

module _ (f : ShownRow → List ℕ) where
  one_more : (rows : List ShownRow) (row : ShownRow) → flat_map f rows ++ f row ≡ flat_map f (rows ++ row ∷ [])
  one_more rows row = ap (λ xs. flat_map f rows ++ xs) (sym (append-nil (f row))) ∙ sym (flat_map-append f rows (row ∷ []))

  pub lined_after : (old new : Lined) (row : ShownRow) (line : List ℕ) (r : Result (Unit {0}) OutOfMemory)
      → OnOk r (new ≡ with_line old row line) → OnErr r (new ≡ old) → line ≡ f row
      → old.lines ≡ flat_map f old.rows → new.lines ≡ flat_map f new.rows
  lined_after old new row line (Ok u) ok err is h =
      let more : old.lines ++ line ≡ flat_map f (old.rows ++ row ∷ []) = ap (λ xs. xs ++ line) h ∙ ap (λ xs. flat_map f old.rows ++ xs) is ∙ one_more old.rows row in
      subst (λ (s : Lined). s.lines ≡ flat_map f s.rows) (sym ok) more
  lined_after old new row line (Err e) ok err is h = subst (λ (s : Lined). s.lines ≡ flat_map f s.rows) (sym err) h
