-- What is shown of words, one after the other, and of files.
use Rattle.std.proofs.Common.{◌≡◌, ℕ, Bool, List, [], ◌∷◌, ◌++◌, map, Some, None, inl, inr, sym, ap, ◌∙◌, subst, append_assoc}
use Rattle.std.specs.Prelude.{filter}
use Rattle.std.proofs.lemmas.Bool.{false≢true}
use Rattle.std.proofs.lemmas.List.Elements.{filter-append}
use Rattle.jn_annotate.specs.Puts.{insertions}
use Rattle.jn_annotate.specs.Shared.{IsLeast}
use Rattle.jn_annotate.specs.declared.insert.Put.{Put}
use Rattle.jn_base.specs.declared.infer.Infer.{Infer}
use Rattle.jn_base.specs.declared.place.Row.{Row}
use Rattle.jn_front.specs.declared.source.SourceFile.{SourceFile}
use Rattle.jn_inference_law.specs.Solution.{IsLeastSignature}
use Rattle.jn_lsp_text.specs.Positions.{position_at}
use Rattle.jn_lsp_text.specs.declared.encoding.Encoding.{Encoding}
use Rattle.jn_lsp_text.specs.declared.position.Position.{Position}
use Rattle.jn_lsp_text.specs.declared.range.Range.{Range}
use Rattle.jn_lsp_text.specs.declared.reply.Hint.{Hint}
use Rattle.jn_phases.specs.Phases.{IsPhase, TypedProgramOf}
use Rattle.jn_places.specs.Forget.{forget_file}
use Rattle.jn_places.specs.PlacedView.{placed_file}
use Rattle.jn_points.specs.declared.program.Program.{Program}
use Rattle.jn_quals.specs.Qualifier.{Qualifier}
use Rattle.jn_trees.specs.declared.declaration.FileTree.{FileTree}
use Rattle.jn_trees.specs.declared.token.Token.{Token}
use Rattle.jn_trees.specs.View.{file_view}
use Rattle.jn_lsp_actions.specs.Hinted.{AreHints, HaveReasons, hint_at, hint_of, hints_of, is_slot_shown, shown, slotted, unless_shared}
use Rattle.jn_lsp_actions.specs.declared.hints.SlotHint.{SlotHint}
use Rattle.jn_lsp_actions.proofs.Offering.{views}

-- one more of words that are put
pub next_shown : (encoding : Encoding) (text : List ℕ) (range : Range) (slot : ℕ) (slots : List ℕ) (put : Put) (puts : List Put) (at : Position) (old new whole : List SlotHint)
    → at ≡ position_at encoding text put.at → new ≡ old ++ filter (is_slot_shown range) (record { slot = slot; hint = hint_of at put.words } ∷ [])
    → old ++ shown encoding text range (slot ∷ slots) (insertions (put ∷ puts)) ≡ whole → new ++ shown encoding text range slots (insertions puts) ≡ whole
next_shown encoding text range slot slots put puts at old new whole is e before =
    let test : SlotHint → Bool = is_slot_shown range in
    let one : SlotHint = record { slot = slot; hint = hint_of (position_at encoding text put.at) put.words } in
    ap (λ (hs : List SlotHint). hs ++ shown encoding text range slots (insertions puts)) (e ∙ (λ j. old ++ filter test (record { slot = slot; hint = hint_of (is j) put.words } ∷ [])))
    ∙ append_assoc old (filter test (one ∷ [])) (shown encoding text range slots (insertions puts))
    ∙ ap (λ (hs : List SlotHint). old ++ hs) (sym (filter-append test (one ∷ []) (slotted slots (map (hint_at encoding text) (insertions puts)))))
    ∙ before

-- where a type is shared, and where none is
pub some_shared : (n : ℕ) (slots : List ℕ) (found hints : List SlotHint) → IsLeast (Some n) slots → found ≡ [] → found ≡ unless_shared slots hints
some_shared n [] found hints h e = absurd (false≢true h.0)
some_shared n (slot ∷ slots) found hints h e = e

pub none_shared : (slots : List ℕ) (found hints : List SlotHint) → IsLeast None slots → found ≡ hints → found ≡ unless_shared slots hints
none_shared slots found hints none e = e ∙ ap (λ (ns : List ℕ). unless_shared ns hints) (sym none)

module _ (infer : Infer) (encoding : Encoding) (files : List SourceFile) (name : List ℕ) (range : Range) where
  -- of files that are refused, and of those that aren't
  pub of_refused : (rows : List Row) (hints : List Hint) → IsPhase infer files rows → hints ≡ [] → AreHints infer encoding files name range hints
  of_refused rows hints phase none = inl (rows, phase, none)

  pub of_inferred : (names : List (List ℕ)) (P : Program) (s : List Qualifier) (tokens : List (List Token)) (trees : List FileTree) (hints : List Hint)
      → ((tree : FileTree) → forget_file (placed_file tree) ≡ file_view tree)
      → (typed : TypedProgramOf infer files names P) → typed.of_files.trees ≡ map placed_file trees → tokens ≡ typed.of_files.tokens
      → IsLeastSignature P s
      → HaveReasons encoding files names P s (hints_of encoding name range files tokens (map file_view trees) P s) hints → AreHints infer encoding files name range hints
  of_inferred names P s tokens trees hints view typed these same least are =
      let forgotten : map file_view trees ≡ map forget_file typed.of_files.trees = views view trees ∙ ap (map forget_file) (sym these) in
      inr (record {
        names = names;
        P = P;
        of_files = typed;
        signature = s;
        least = least;
        are = subst (λ (shown : List SlotHint). HaveReasons encoding files names P s shown hints) (λ i. hints_of encoding name range files (same i) (forgotten i) P s) are;
      })
