-- What is shown is what annotated texts have more.
use Rattle.std.proofs.Common.{◌≡◌, ℕ, suc, ◌+◌, Bool, true, false, not, ◌&&◌, Some, inl, inr, List, [], ◌∷◌, drop, length, map, refl, sym, ap, ◌∙◌, subst, arith, cond, leb}
use Rattle.std.specs.Prelude.{bytes_eq, filter, slice_get, slice_index_or}
use Rattle.std.proofs.lemmas.Bool.{false≢true, leb-false, leb-true}
use Rattle.jn_annotate.specs.Annotated.{Annotated, HasNone, annotated_from, has_no_spelling, has_shared_type}
use Rattle.jn_annotate.specs.Chosen.{chosen_from, chosen_slots}
use Rattle.jn_annotate.specs.Imports.{with_lines}
use Rattle.jn_annotate.specs.Insertions.{file_fields, file_methods, in_file}
use Rattle.jn_annotate.specs.Shared.{IsLeast, shared_slots}
use Rattle.jn_annotate.specs.Words.{is_unspelled}
use Rattle.jn_annotate.proofs.Sharing.{Least, first_is, least_all, least_next, least_start}
use Rattle.jn_base.specs.declared.infer.Infer.{Infer}
use Rattle.jn_front.specs.declared.source.SourceFile.{SourceFile}
use Rattle.jn_lsp_text.specs.declared.encoding.Encoding.{Encoding}
use Rattle.jn_lsp_text.specs.declared.range.Range.{Range}
use Rattle.jn_lsp_text.specs.declared.reply.Hint.{Hint}
use Rattle.jn_places.specs.Forget.{forget_file}
use Rattle.jn_points.specs.declared.program.Field.{Field}
use Rattle.jn_points.specs.declared.program.Method.{Method}
use Rattle.jn_points.specs.declared.program.Program.{Program}
use Rattle.jn_points.specs.declared.program.SlotInfo.{SlotInfo}
use Rattle.jn_quals.specs.Order.{no_qual}
use Rattle.jn_quals.specs.Qualifier.{Qualifier}
use Rattle.jn_splice_law.specs.Inserted.{Insertion, inserted}
use Rattle.jn_transfer.specs.Contributions.{is_inferred}
use Rattle.jn_trees.specs.declared.token.Token.{Token}
use Rattle.jn_trees.specs.Trees.{SourceTree}
use Rattle.jn_lsp_actions.specs.Annotating.{AreAdded, AreAddedIn, Either, bare, text_of}
use Rattle.jn_lsp_actions.specs.Hinted.{AreInferred, hint_at, hints_of, is_shown, shown, shown_in, unless_shared}
use Rattle.jn_lsp_actions.specs.Slots.{types_slots}
use Rattle.jn_lsp_actions.specs.declared.hints.SlotHint.{SlotHint}
use Rattle.jn_lsp_actions.proofs.Reasoned.{all_bare}
use Rattle.jn_lsp_actions.proofs.Slotting.{file_long}

-- ---- slots

kept : (a b : Bool) → (a && b) ≡ false → (a && (not b && true)) ≡ a
kept true true e = sym e
kept true false e = refl
kept false b e = refl

-- all stay that an annotation says
all_spelled : (s : List Qualifier) (at : ℕ) (slots : List SlotInfo) → ((i : ℕ) → (is_inferred (slice_get slots i) && is_unspelled (slice_index_or s (at + i) no_qual)) ≡ false) → chosen_from false s at slots ≡ slots
all_spelled s at [] none = refl
all_spelled s at (info ∷ slots) none =
    let first : (info.inferred && is_unspelled (slice_index_or s at no_qual)) ≡ false = subst (λ n. (info.inferred && is_unspelled (slice_index_or s n no_qual)) ≡ false) (omega arith) (none 0) in
    let rest : chosen_from false s (at + 1) slots ≡ slots = all_spelled s (at + 1) slots (λ i. subst (λ n. (is_inferred (slice_get slots i) && is_unspelled (slice_index_or s n no_qual)) ≡ false) (omega arith) (none (suc i))) in
    λ j. record { start = info.start; inferred = kept info.inferred (is_unspelled (slice_index_or s at no_qual)) first j } ∷ rest j

same_slots : (P : Program) (s : List Qualifier) → HasNone (has_no_spelling P s) → chosen_slots false P s ≡ P.slots
same_slots P s none = all_spelled s 0 P.slots (λ i. subst (λ n. (is_inferred (slice_get P.slots i) && is_unspelled (slice_index_or s n no_qual)) ≡ false) (omega arith) (none i))

-- ---- texts

no_lines : (text : List ℕ) (ts : List Token) (tree : SourceTree) (words : List Insertion) → with_lines false text ts tree words ≡ words
unfolding with_lines
no_lines text ts tree words = refl

-- with as many slots as words, all words are shown that stand in the range
abbrev without_why : List SlotHint → List Hint
without_why shown = map (λ (one : SlotHint). bare one.hint) shown

one_shown : (encoding : Encoding) (text : List ℕ) (range : Range) (slot : ℕ) (words : Insertion) (b : Bool) (l : List SlotHint) (r : List Hint) → without_why l ≡ r
    → without_why (cond b (record { slot = slot; hint = hint_at encoding text words } ∷ l) l) ≡ cond b (hint_at encoding text words ∷ r) r
one_shown encoding text range slot words true l r e = λ i. hint_at encoding text words ∷ e i
one_shown encoding text range slot words false l r e = e

all_shown : (encoding : Encoding) (text : List ℕ) (range : Range) (slots : List ℕ) (words : List Insertion) → length words ≡ length slots → without_why (shown encoding text range slots words) ≡ filter (is_shown range) (map (hint_at encoding text) words)
all_shown encoding text range [] [] e = refl
all_shown encoding text range (k ∷ slots) [] e = refl
all_shown encoding text range [] (w ∷ words) e = let no : ⊥ = omega (arith, e) in absurd no
all_shown encoding text range (k ∷ slots) (w ∷ words) e =
    let same : length words ≡ length slots = omega (arith, e) in
    one_shown encoding text range k w (is_shown range (hint_at encoding text w)) (shown encoding text range slots words) (filter (is_shown range) (map (hint_at encoding text) words)) (all_shown encoding text range slots words same)

none_bare : (hints : List Hint) → map bare hints ≡ [] → hints ≡ []
none_bare [] e = refl
none_bare (hint ∷ hints) e = absurd (cc)

module _ (slots : List SlotInfo) (s : List Qualifier) (encoding : Encoding) (name : List ℕ) (range : Range) where
  at_file : (named : Bool) (file : SourceFile) (new : List ℕ) (ks : List ℕ) (words : List Insertion) (other : Type 0) (hints : List Hint) (others : List SlotHint) → new ≡ inserted file.bytes words → length words ≡ length ks → (map bare hints ≡ without_why others → other)
      → map bare hints ≡ without_why (cond named (shown encoding file.bytes range ks words) others) → Either named (AreAdded encoding range file.bytes new hints) other
  at_file true file new ks words other hints others put long rest e = record { words = words; put = put; are = e ∙ all_shown encoding file.bytes range ks words long }
  at_file false file new ks words other hints others put long rest e = rest e

  added : (files : List SourceFile) (tokens : List (List Token)) (trees : List SourceTree) (fs : List Field) (ms : List Method) (hints : List Hint) → map bare hints ≡ without_why (shown_in encoding name range slots s files tokens trees fs ms)
      → AreAddedIn encoding name range files (annotated_from false slots s (map text_of files) tokens trees fs ms) hints
  added [] tokens trees fs ms hints e = none_bare hints e
  added (file ∷ files) [] trees fs ms hints e = none_bare hints e
  added (file ∷ files) (ts ∷ tokens) [] fs ms hints e = none_bare hints e
  added (file ∷ files) (ts ∷ tokens) (tree ∷ trees) fs ms hints e =
      let words = in_file slots s file.bytes ts tree fs ms in
      let fields = drop (file_fields tree.types) fs in
      let methods = drop (file_methods tree.types) ms in
      at_file (bytes_eq file.name name) file (inserted file.bytes (with_lines false file.bytes ts tree words)) (types_slots slots tree.types fs ms) words (AreAddedIn encoding name range files (annotated_from false slots s (map text_of files) tokens trees fields methods) hints) hints (shown_in encoding name range slots s files tokens trees fields methods)
      (ap (inserted file.bytes) (no_lines file.bytes ts tree words)) (file_long slots s file.bytes ts tree fs ms) (added files tokens trees fields methods hints) e

-- ---- shared types

lesser : (ns : List ℕ) (n y : ℕ) (left : List ℕ) → Least ns n (y ∷ left) → ((m : ℕ) → Least ns m left → (k : ℕ) × IsLeast (Some k) ns) → (b : Bool) → leb n y ≡ b → (k : ℕ) × IsLeast (Some k) ns
lesser ns n y left h next true e = next n (least_next ns n y n left (inl (refl, leb-true n y e)) h)
lesser ns n y left h next false e = next y (least_next ns n y y left (inr (refl, omega (arith, leb-false n y e))) h)

some_least : (ns : List ℕ) (n : ℕ) (left : List ℕ) → Least ns n left → (m : ℕ) × IsLeast (Some m) ns
some_least ns n [] h = (n, least_all ns n h)
some_least ns n (y ∷ left) h = lesser ns n y left h (λ m. some_least ns m left) (leb n y) refl

module _ (P : Program) (s : List Qualifier) (trees : List SourceTree) (none : HasNone (has_shared_type P s trees)) where
  none_least : (ns : List ℕ) → ns ≡ shared_slots P s trees P.fields → ns ≡ []
  none_least [] e = refl
  none_least (n ∷ ns) e =
      let least = some_least (n ∷ ns) n ns (least_start n ns) in
      let first = first_is P s trees least.0 (subst (IsLeast (Some least.0)) e least.1) in
      absurd (false≢true (sym (none least.0) ∙ first.0))

  no_shared : shared_slots P s trees P.fields ≡ []
  no_shared = none_least (shared_slots P s trees P.fields) refl

-- ---- files

pub of_annotated : (infer : Infer) (encoding : Encoding) (files : List SourceFile) (name : List ℕ) (range : Range) (hints : List Hint) (new : List (List ℕ)) (of : AreInferred infer encoding files name range hints)
    → Annotated false of.P of.signature (map text_of files) of.of_files.of_files.tokens (map forget_file of.of_files.of_files.trees) new
    → AreAddedIn encoding name range files new hints
of_annotated infer encoding files name range hints new of annotated =
    let P = of.P in
    let s = of.signature in
    let tokens = of.of_files.of_files.tokens in
    let trees = map forget_file of.of_files.of_files.trees in
    let found = hints_of encoding name range files tokens trees P s in
    let are : map bare hints ≡ without_why (shown_in encoding name range P.slots s files tokens trees P.fields (drop 1 P.methods)) =
    all_bare encoding files of.names P s of.are.tables found hints of.are.each
    ∙ (λ i. without_why (unless_shared (no_shared P s trees annotated.alone i) (shown_in encoding name range (same_slots P s annotated.spelled i) s files tokens trees P.fields (drop 1 P.methods)))) in
    subst (λ (texts : List (List ℕ)). AreAddedIn encoding name range files texts hints) (sym annotated.are) (added P.slots s encoding name range files tokens trees P.fields (drop 1 P.methods) hints are)
