-- Outcomes of the texts of files of which some have kept trees.
use Rattle.std.proofs.Common.{◌≡◌, ℕ, zero, suc, ◌+◌, ◌<◌, Bool, true, false, List, [], ◌∷◌, length, map, Option, Some, None, Result, Ok, Err, inl, inr, refl, sym, ap, ◌∙◌, subst, arith}
use Rattle.std.specs.Prelude.{IfOk, get_or, slice_get}
use Rattle.std.proofs.lemmas.Bool.{false≢true}
use Rattle.jn_base.specs.declared.number.FileNo.{FileNo}
use Rattle.jn_base.specs.declared.place.Row.{Row}
use Rattle.jn_base.specs.declared.refusal.OutOfMemory.{OutOfMemory}
use Rattle.jn_known.specs.Known.{known_names}
use Rattle.jn_trees.specs.declared.token.Token.{Token}
use Rattle.jn_trees.specs.Pieces.{IsSyntaxRow}
use Rattle.jn_lexer.specs.Lexed.{Lexed}
use Rattle.jn_lexer.specs.Faults.{LexicalFault}
use Rattle.jn_places.specs.Placed.{PlacedFile}
use Rattle.jn_places.specs.PlacedView.{placed_file}
use Rattle.jn_places.specs.Places.{IsPlacedFile}
use Rattle.jn_renumber.specs.Merged.{merged, merged_numbers}
use Rattle.jn_renumber.specs.Renumbered.{renumbered_file}
use Rattle.jn_renumber.specs.Tokens.{tokens_by}
use Rattle.jn_front.specs.declared.source.SourceFile.{SourceFile}
use Rattle.jn_front.specs.declared.source.SourceRead.{SourceRead}
use Rattle.jn_front.specs.declared.outcome.Outcome.{Outcome}
use Rattle.jn_front.specs.declared.outcome.Outcome.TheVariants.{Lexical, Syntax, Tree}
use Rattle.jn_front.specs.Files.{files_of_reads}
use Rattle.jn_front.specs.Outcomes.{AreOutcomes, IsOutcome}
use Rattle.jn_front.specs.Outcomes as front
use Rattle.jn_front.specs.Phases.{FaultRows, SyntaxRows, TextRows}
use Rattle.jn_front.proofs.Joining.{faults_are, rows_are}
use Rattle.jn_kept_trees.specs.declared.again.ParsedAgain.{ParsedAgain}
use Rattle.jn_kept_trees.specs.declared.kept.KeptTree.{KeptTree}
use Rattle.jn_kept_trees.specs.KeptTrees.{AreAllKept, AreKeptTrees, IsKeptOrNone, IsKeptOrRefused, IsKeptTree}
use Rattle.jn_kept_trees.specs.Fresh.{AreFresh, IsFreshOf, has_tree, lexical_of, lexical_rows, syntax_of, syntax_rows, updated}
use Rattle.jn_kept_trees.specs.Merges.{AreAll}
use Rattle.jn_kept_trees.specs.Staying.{AreAmong, StayPlaced, WereKept}
use Rattle.jn_kept_trees.proofs.Ways.{same_some}
use Rattle.jn_kept_trees.proofs.ReadFiles.{inside, read_file}
use Rattle.jn_kept_trees.proofs.Stays.{tree_within}

-- ---- each file

abbrev IsFound : ℕ → SourceFile → Option Outcome → Type 0
IsFound k file None = (kept : KeptTree) × IsKeptTree k file kept
IsFound k file (Some outcome) = IsOutcome k file outcome

has_at : (kept : List (Option KeptTree)) (n : ℕ) → get_or (map has_tree kept) n false ≡ has_tree (get_or kept n None)
has_at [] n = refl
has_at (one ∷ kept) zero = refl
has_at (one ∷ kept) (suc n) = has_at kept n

kept_there : (k : ℕ) (file : SourceFile) (one : Option KeptTree) → IsKeptOrNone k file one → has_tree one ≡ true → (kept : KeptTree) × IsKeptTree k file kept
kept_there k file None is has = absurd (false≢true has)
kept_there k file (Some kept) is has = (kept, is)

still_there : (k : ℕ) (file : SourceFile) (one : Option KeptTree) → IsKeptOrNone k file one → has_tree one ≡ true → IsKeptOrRefused k file one
still_there k file None is has = absurd (false≢true has)
still_there k file (Some kept) is has = is

module _ (reads : List SourceRead) (before : List (Option KeptTree)) (flags : List Bool) (fresh : List (Option Outcome)) (are : flags ≡ map has_tree before) (kept : AreKeptTrees (files_of_reads reads) before) (found : AreFresh reads flags fresh) where
  has : (n : ℕ) → get_or flags n false ≡ true → has_tree (get_or before n None) ≡ true
  has n e = sym (has_at before n) ∙ ap (λ fs. get_or fs n false) (sym are) ∙ e

  each_found : (n : ℕ) (file : SourceFile) → slice_get (files_of_reads reads) n ≡ Some file → IsFound n file (get_or fresh n None)
  each_found n file e = here (get_or fresh n None) (found.each n (inside reads n file e))
    where
      here : (one : Option Outcome) → IsFreshOf reads flags n one → IsFound n file one
      here None h = kept_there n file (get_or before n None) (kept n file e) (has n h)
      here (Some outcome) (other, (read, at, is)) = subst (λ f. IsOutcome n f outcome) (same_some read.file file (sym (read_file reads n read at) ∙ e)) is

  -- ---- what is kept then

  module _ (after : List (Option KeptTree)) (long : length after ≡ length before) (many : length before ≡ length reads) (each : (n : ℕ) → n < length before → get_or after n None ≡ updated (get_or before n None) (get_or fresh n None)) where
    pub kept_after : AreAllKept (files_of_reads reads) after
    kept_after n file e =
        subst (IsKeptOrRefused n file) (sym (each n (subst (λ m. n < m) (sym many) (inside reads n file e)))) (here (get_or fresh n None) (found.each n (inside reads n file e)) (each_found n file e))
      where
        here : (one : Option Outcome) → IsFreshOf reads flags n one → IsFound n file one → IsKeptOrRefused n file (updated (get_or before n None) one)
        here None f h = still_there n file (get_or before n None) (kept n file e) (has n f)
        here (Some (Lexical row)) f h = (row, inl h)
        here (Some (Syntax row)) f h = (row, inr h)
        here (Some (Tree own tree)) f h = record { own_tree = tree; is = h; numbers = tt; numbered = refl }

    abbrev IsTreeOrNone : Option Outcome → Type 0
    IsTreeOrNone None = Unit {0}
    IsTreeOrNone (Some (Lexical row)) = ⊥
    IsTreeOrNone (Some (Syntax row)) = ⊥
    IsTreeOrNone (Some (Tree own tree)) = Unit {0}

    some_row : (row : Row) (rows : List Row) → row ∷ rows ≡ [] → ⊥
    some_row row rows e = cc

    rowless : (one : Option Outcome) (lexical syntax : List Row) → lexical_of one lexical ≡ [] → syntax_of one syntax ≡ [] → IsTreeOrNone one × (lexical ≡ []) × (syntax ≡ [])
    rowless None lexical syntax l s = (tt, l, s)
    rowless (Some (Lexical row)) lexical syntax l s = absurd (some_row row lexical l)
    rowless (Some (Syntax row)) lexical syntax l s = absurd (some_row row syntax s)
    rowless (Some (Tree own tree)) lexical syntax l s = (tt, l, s)

    none_bad : (fs : List (Option Outcome)) → lexical_rows fs ≡ [] → syntax_rows fs ≡ [] → (n : ℕ) → IsTreeOrNone (get_or fs n None)
    none_bad [] l s n = tt
    none_bad (one ∷ fs) l s zero = (rowless one (lexical_rows fs) (syntax_rows fs) l s).0
    none_bad (one ∷ fs) l s (suc n) = let rest = rowless one (lexical_rows fs) (syntax_rows fs) l s in none_bad fs rest.1 rest.2 n

    all_of : (ks : List (Option KeptTree)) → ((n : ℕ) → n < length ks → has_tree (get_or ks n None) ≡ true) → AreAll ks
    all_of [] h = tt
    all_of (None ∷ ks) h = absurd (false≢true (h 0 (omega arith)))
    all_of (Some kept ∷ ks) h = all_of ks (λ n lt. h (suc n) (omega (arith, lt)))

    pub all_kept : lexical_rows fresh ≡ [] → syntax_rows fresh ≡ [] → AreAll after
    all_kept l s = all_of after (λ n lt. (let lt' = subst (λ m. n < m) long lt in ap has_tree (each n lt') ∙ here n (get_or fresh n None) (found.each n (subst (λ m. n < m) many lt')) (none_bad fresh l s n)))
      where
        here : (n : ℕ) (one : Option Outcome) → IsFreshOf reads flags n one → IsTreeOrNone one → has_tree (updated (get_or before n None) one) ≡ true
        here n None h t = has n h
        here n (Some (Lexical row)) h t = absurd t
        here n (Some (Syntax row)) h t = absurd t
        here n (Some (Tree own tree)) h t = refl

    -- where a tree was kept, it still is
    still_same : (n : ℕ) → get_or flags n false ≡ true → get_or after n None ≡ get_or before n None
    still_same n flag =
        let lt = tree_within before n (has n flag) in
        each n lt ∙ here (get_or fresh n None) (found.each n (subst (λ m. n < m) many lt))
      where
        here : (one : Option Outcome) → IsFreshOf reads flags n one → updated (get_or before n None) one ≡ get_or before n None
        here None h = refl
        here (Some outcome) h = absurd (false≢true (sym h.0 ∙ flag))

    -- trees that stay as they are now kept stay as they were
    pub stay_since : (trees : List (Option KeptTree)) (made : Result ParsedAgain OutOfMemory) → WereKept trees before → IfOk made (λ p. p.rows.items ≡ [] → AreAmong p.same.items flags) → IfOk made (λ p. p.rows.items ≡ [] → StayPlaced after p.same.items (map placed_file p.trees.items)) → IfOk made (λ p. p.rows.items ≡ [] → StayPlaced trees p.same.items (map placed_file p.trees.items))
    stay_since trees (Err failure) were among stay = tt
    stay_since trees (Ok parsed) were among stay = λ rowless n e.
        let old = stay rowless n e in
        (old.0, were n old.0 (sym (still_same n (among rowless n e)) ∙ old.1), old.2)

-- ---- rows

-- all outcomes, those of kept trees among them
full : (k : ℕ) (reads : List SourceRead) (fresh : List (Option Outcome)) → length fresh ≡ length reads → ((n : ℕ) (file : SourceFile) → slice_get (files_of_reads reads) n ≡ Some file → IsFound (k + n) file (get_or fresh n None)) → (outcomes : List Outcome) × AreOutcomes k (files_of_reads reads) outcomes × (front.lexical_rows outcomes ≡ lexical_rows fresh) × (front.syntax_rows outcomes ≡ syntax_rows fresh)
full k [] [] long each = ([], tt, refl, refl)
full k [] (one ∷ fresh) long each = absurd (omega (arith, long))
full k (read ∷ reads) [] long each = absurd (omega (arith, long))
full k (read ∷ reads) (one ∷ fresh) long each =
    let here : k + 0 ≡ k = omega arith in
    let first = subst (λ n. IsFound n read.file one) here (each 0 read.file refl) in
    let rest = full (k + 1) reads fresh (omega (arith, long)) (λ n file e. (let next : k + suc n ≡ k + 1 + n = omega arith in subst (λ m. IsFound m file (get_or fresh n None)) next (each (suc n) file e))) in
    put one first rest.0 rest.1 rest.2 rest.3
  where
    put : (one : Option Outcome) → IsFound k read.file one → (outcomes : List Outcome) → AreOutcomes (k + 1) (files_of_reads reads) outcomes → front.lexical_rows outcomes ≡ lexical_rows fresh → front.syntax_rows outcomes ≡ syntax_rows fresh → (all : List Outcome) × AreOutcomes k (files_of_reads (read ∷ reads)) all × (front.lexical_rows all ≡ lexical_rows (one ∷ fresh)) × (front.syntax_rows all ≡ syntax_rows (one ∷ fresh))
    put None (kept, is) outcomes are l s = (Tree kept.own is.own_tree ∷ outcomes, (is.is, are), l, s)
    put (Some (Lexical row)) is outcomes are l s = (Lexical row ∷ outcomes, (is, are), ap (λ rs. row ∷ rs) l, s)
    put (Some (Syntax row)) is outcomes are l s = (Syntax row ∷ outcomes, (is, are), l, ap (λ rs. row ∷ rs) s)
    put (Some (Tree own tree)) is outcomes are l s = (Tree own tree ∷ outcomes, (is, are), l, s)

module _ (reads : List SourceRead) (before : List (Option KeptTree)) (flags : List Bool) (fresh : List (Option Outcome)) (are : flags ≡ map has_tree before) (kept : AreKeptTrees (files_of_reads reads) before) (found : AreFresh reads flags fresh) where
  whole : (outcomes : List Outcome) × AreOutcomes 0 (files_of_reads reads) outcomes × (front.lexical_rows outcomes ≡ lexical_rows fresh) × (front.syntax_rows outcomes ≡ syntax_rows fresh)
  whole = full 0 reads fresh found.long (λ n file e. (let here : n ≡ 0 + n = omega arith in subst (λ m. IsFound m file (get_or fresh n None)) here (each_found reads before flags fresh are kept found n file e)))

  pub fault_rows : ((file : FileNo) (text : List ℕ) (old : List (List ℕ)) (ts : List Token) (ns : List (List ℕ)) (row : Row) → Lexed file text old ts ns → LexicalFault file text row → ⊥) → (rows : List Row) → rows ≡ lexical_rows fresh → TextRows (files_of_reads reads) rows
  fault_rows faultless rows e =
      let all = whole in
      inl (subst (FaultRows 0 (files_of_reads reads)) (all.2 ∙ sym e) (faults_are faultless 0 (files_of_reads reads) all.0 all.1))

  module _ (Kept : List (List ℕ) → Type 0) (still : (all own : List (List ℕ)) → Kept all → Kept (merged all own)) (lexed : (file : FileNo) (text : List ℕ) (all own : List (List ℕ)) (tokens : List Token) → Kept all → Lexed file text known_names tokens own → Lexed file text all (tokens_by (merged_numbers all own) tokens) (merged all own)) (parsed : (file : FileNo) (text : List ℕ) (all own : List (List ℕ)) (tokens : List Token) (tree : PlacedFile) → Kept all → Lexed file text known_names tokens own → IsPlacedFile tokens tree → IsPlacedFile (tokens_by (merged_numbers all own) tokens) (renumbered_file (merged_numbers all own) tree)) (same : (file : FileNo) (text : List ℕ) (all own : List (List ℕ)) (tokens : List Token) (end : ℕ) (row : Row) → Kept all → Lexed file text known_names tokens own → IsSyntaxRow file end tokens row → IsSyntaxRow file end (tokens_by (merged_numbers all own) tokens) row) where
    pub grammar_rows : Kept known_names → (rows : List Row) → lexical_rows fresh ≡ [] → rows ≡ syntax_rows fresh → TextRows (files_of_reads reads) rows
    grammar_rows begun rows none e =
        let all = whole in
        let of = rows_are Kept still lexed parsed same 0 (files_of_reads reads) all.0 known_names begun all.1 (all.2 ∙ none) in
        inr (of.0, of.1, of.2, subst (SyntaxRows 0 (files_of_reads reads) of.1) (all.3 ∙ sym e) of.3)
