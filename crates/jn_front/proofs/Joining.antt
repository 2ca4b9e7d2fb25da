-- What files have, by the outcomes of their texts.
use Rattle.std.proofs.Common.{◌≡◌, ℕ, suc, ◌+◌, ◌*◌, ◌≤◌, List, [], ◌∷◌, ◌++◌, length, refl, sym, ap, ◌∙◌, subst, inl, inr, arith, append_assoc}
use Rattle.jn_base.specs.declared.number.FileNo.{FileNo}
use Rattle.jn_base.specs.declared.place.Row.{Row}
use Rattle.jn_trees.specs.declared.token.Token.{Token}
use Rattle.jn_trees.specs.Pieces.{IsSyntaxRow}
use Rattle.jn_places.specs.Placed.{PlacedFile}
use Rattle.jn_places.specs.PlacedView.{placed_file}
use Rattle.jn_places.specs.Forget.{forget_file}
use Rattle.jn_places.specs.Places.{IsPlacedFile}
use Rattle.jn_lexer.specs.Lexed.{Lexed}
use Rattle.jn_lexer.specs.Faults.{LexicalFault}
use Rattle.jn_known.specs.Known.{known_names}
use Rattle.jn_renumber.specs.Merged.{merged, merged_numbers}
use Rattle.jn_renumber.specs.Renumbered.{renumbered_file}
use Rattle.jn_renumber.specs.Tokens.{tokens_by}
use Rattle.jn_front.specs.declared.source.SourceFile.{SourceFile}
use Rattle.jn_front.specs.declared.source.SourceRead.{SourceRead}
use Rattle.jn_front.specs.declared.outcome.Outcome.{Outcome}
use Rattle.jn_front.specs.declared.outcome.Outcome.TheVariants.{Lexical, Syntax, Tree}
use Rattle.jn_front.specs.Files.{files_of_reads}
use Rattle.jn_front.specs.Phases.{file_no, FaultRows, LexedFrom, SyntaxRows, ArePlaced, AreTreesOf}
use Rattle.jn_front.specs.Outcomes.{AreOutcomes, lexical_rows, syntax_rows, joined_names, joined_trees, HaveFewNames}
use Rattle.jn_front.proofs.Kept.{read_fits}
use Rattle.jn_front.proofs.Known.{merged_length}

-- ---- bounds

pub as_many : (k : ℕ) (reads : List SourceRead) (outcomes : List Outcome) → AreOutcomes k (files_of_reads reads) outcomes → length outcomes ≡ length reads
as_many k [] [] h = refl
as_many k [] (outcome ∷ outcomes) h = absurd h
as_many k (read ∷ reads) [] h = absurd h
as_many k (read ∷ reads) (outcome ∷ outcomes) h = ap suc (as_many (k + 1) reads outcomes h.1)

module _ (few : (file : FileNo) (text : List ℕ) (old : List (List ℕ)) (tokens : List Token) (new : List (List ℕ)) → Lexed file text old tokens new → length new ≤ length old + length text) where
  pub few_names : (k : ℕ) (reads : List SourceRead) (outcomes : List Outcome) → AreOutcomes k (files_of_reads reads) outcomes → HaveFewNames outcomes
  few_names k [] [] h = tt
  few_names k [] (outcome ∷ outcomes) h = absurd h
  few_names k (read ∷ reads) [] h = absurd h
  few_names k (read ∷ reads) (Lexical row ∷ outcomes) h = few_names (k + 1) reads outcomes h.1
  few_names k (read ∷ reads) (Syntax row ∷ outcomes) h = few_names (k + 1) reads outcomes h.1
  few_names k (read ∷ reads) (Tree own tree ∷ outcomes) h =
      let short : length own ≤ 30 + length read.file.bytes = few (file_no k) read.file.bytes known_names h.0.0 own h.0.1 in
      (let fits = read_fits read in omega (arith, short, fits), few_names (k + 1) reads outcomes h.1)

-- after one more there are few names
pub still_few : (names : List (List ℕ)) (outcome : Outcome) → HaveFewNames (outcome ∷ []) → length (joined_names names (outcome ∷ [])) ≤ length names + 1048606
still_few names (Lexical row) few = omega arith
still_few names (Syntax row) few = omega arith
still_few names (Tree own tree) few = let long = merged_length names own in omega (arith, long, few.0)

pub first_few : (outcome : Outcome) (rest : List Outcome) → HaveFewNames (outcome ∷ rest) → HaveFewNames (outcome ∷ []) × HaveFewNames rest
first_few (Lexical row) rest few = (tt, few)
first_few (Syntax row) rest few = (tt, few)
first_few (Tree own tree) rest few = ((few.0, tt), few.1)

-- ---- one more

pub names_on : (names : List (List ℕ)) (outcome : Outcome) (rest : List Outcome) → joined_names names (outcome ∷ rest) ≡ joined_names (joined_names names (outcome ∷ [])) rest
names_on names (Lexical row) rest = refl
names_on names (Syntax row) rest = refl
names_on names (Tree own tree) rest = refl

pub trees_on : (names : List (List ℕ)) (outcome : Outcome) (rest : List Outcome) → joined_trees names (outcome ∷ rest) ≡ joined_trees names (outcome ∷ []) ++ joined_trees (joined_names names (outcome ∷ [])) rest
trees_on names (Lexical row) rest = refl
trees_on names (Syntax row) rest = refl
trees_on names (Tree own tree) rest = refl

pub names_step : (names now whole : List (List ℕ)) (outcome : Outcome) (rest next : List Outcome) → rest ≡ outcome ∷ next → now ≡ joined_names names (outcome ∷ []) → joined_names names rest ≡ whole → joined_names now next ≡ whole
names_step names now whole outcome rest next is new h =
    ap (λ ns. joined_names ns next) new ∙ sym (names_on names outcome next) ∙ ap (joined_names names) (sym is) ∙ h

pub trees_step : (names now : List (List ℕ)) (outcome : Outcome) (rest next : List Outcome) (trees more whole : List PlacedFile) → rest ≡ outcome ∷ next → now ≡ joined_names names (outcome ∷ []) → more ≡ trees ++ joined_trees names (outcome ∷ []) → trees ++ joined_trees names rest ≡ whole → more ++ joined_trees now next ≡ whole
trees_step names now outcome rest next trees more whole is new put h =
    let one = joined_trees names (outcome ∷ []) in
    ap (λ ts. ts ++ joined_trees now next) put ∙ ap (λ ns. (trees ++ one) ++ joined_trees ns next) new
    ∙ append_assoc trees one (joined_trees (joined_names names (outcome ∷ [])) next)
    ∙ ap (λ ts. trees ++ ts) (sym (trees_on names outcome next)) ∙ ap (λ os. trees ++ joined_trees names os) (sym is) ∙ h

pub few_step : (names now : List (List ℕ)) (outcome : Outcome) (rest next : List Outcome) → rest ≡ outcome ∷ next → now ≡ joined_names names (outcome ∷ []) → HaveFewNames rest → length names + length rest * 1048606 ≤ 67110814 → HaveFewNames next × (length now + length next * 1048606 ≤ 67110814)
few_step names now outcome rest next is new few short =
    let both = first_few outcome next (subst HaveFewNames is few) in
    let long = still_few names outcome both.0 in
    let size : length now ≡ length (joined_names names (outcome ∷ [])) = ap length new in
    let left : length rest ≡ length next + 1 = ap length is ∙ omega arith in
    (both.1, omega (arith, long, size, left, short))

-- ---- rows and trees

module _ (faultless : (file : FileNo) (text : List ℕ) (old : List (List ℕ)) (ts : List Token) (ns : List (List ℕ)) (row : Row) → Lexed file text old ts ns → LexicalFault file text row → ⊥) where
  pub faults_are : (k : ℕ) (files : List SourceFile) (outcomes : List Outcome) → AreOutcomes k files outcomes → FaultRows k files (lexical_rows outcomes)
  faults_are k [] [] h = refl
  faults_are k [] (outcome ∷ outcomes) h = absurd h
  faults_are k (file ∷ files) [] h = absurd h
  faults_are k (file ∷ files) (Lexical row ∷ outcomes) h = inr (row, lexical_rows outcomes, refl, h.0, faults_are (k + 1) files outcomes h.1)
  faults_are k (file ∷ files) (Syntax row ∷ outcomes) h = inl ((λ other. faultless (file_no k) file.bytes known_names h.0.1 h.0.0 other h.0.2), faults_are (k + 1) files outcomes h.1)
  faults_are k (file ∷ files) (Tree own tree ∷ outcomes) h = inl ((λ other. faultless (file_no k) file.bytes known_names h.0.0 own other h.0.1), faults_are (k + 1) files outcomes h.1)

some_row : (row : Row) (rows : List Row) → row ∷ rows ≡ [] → ⊥
some_row row rows e = cc

-- `Kept` holds of names that have the known ones
module _ (Kept : List (List ℕ) → Type 0) (kept : (all own : List (List ℕ)) → Kept all → Kept (merged all own)) (lexed : (file : FileNo) (text : List ℕ) (all own : List (List ℕ)) (tokens : List Token) → Kept all → Lexed file text known_names tokens own → Lexed file text all (tokens_by (merged_numbers all own) tokens) (merged all own)) (parsed : (file : FileNo) (text : List ℕ) (all own : List (List ℕ)) (tokens : List Token) (tree : PlacedFile) → Kept all → Lexed file text known_names tokens own → IsPlacedFile tokens tree → IsPlacedFile (tokens_by (merged_numbers all own) tokens) (renumbered_file (merged_numbers all own) tree)) where
  pub rows_are : ((file : FileNo) (text : List ℕ) (all own : List (List ℕ)) (tokens : List Token) (end : ℕ) (row : Row) → Kept all → Lexed file text known_names tokens own → IsSyntaxRow file end tokens row → IsSyntaxRow file end (tokens_by (merged_numbers all own) tokens) row) → (k : ℕ) (files : List SourceFile) (outcomes : List Outcome) (all : List (List ℕ)) → Kept all → AreOutcomes k files outcomes → lexical_rows outcomes ≡ [] → (names : List (List ℕ)) × (tokens : List (List Token)) × LexedFrom k all files tokens names × SyntaxRows k files tokens (syntax_rows outcomes)
  rows_are same k [] [] all has h none = (all, [], refl, refl)
  rows_are same k [] (outcome ∷ outcomes) all has h none = absurd h
  rows_are same k (file ∷ files) [] all has h none = absurd h
  rows_are same k (file ∷ files) (Lexical row ∷ outcomes) all has h none = absurd (some_row row (lexical_rows outcomes) none)
  rows_are same k (file ∷ files) (Syntax row ∷ outcomes) all has h none =
      let own = h.0.0 in
      let tokens = h.0.1 in
      let rest = rows_are same (k + 1) files outcomes (merged all own) (kept all own has) h.1 none in
      let is = same (file_no k) file.bytes all own tokens (length file.bytes) row has h.0.2 h.0.3 in
      (rest.0, tokens_by (merged_numbers all own) tokens ∷ rest.1, (merged all own, lexed (file_no k) file.bytes all own tokens has h.0.2, rest.2), inr (row, syntax_rows outcomes, refl, is, rest.3))
  rows_are same k (file ∷ files) (Tree own tree ∷ outcomes) all has h none =
      let tokens = h.0.0 in
      let rest = rows_are same (k + 1) files outcomes (merged all own) (kept all own has) h.1 none in
      let is = parsed (file_no k) file.bytes all own tokens (placed_file tree) has h.0.1 h.0.2 in
      (rest.0, tokens_by (merged_numbers all own) tokens ∷ rest.1, (merged all own, lexed (file_no k) file.bytes all own tokens has h.0.1, rest.2), inl ((forget_file (renumbered_file (merged_numbers all own) (placed_file tree)), is.0), rest.3))

  pub trees_are : (k : ℕ) (files : List SourceFile) (outcomes : List Outcome) (all : List (List ℕ)) → Kept all → AreOutcomes k files outcomes → lexical_rows outcomes ≡ [] → syntax_rows outcomes ≡ [] → (tokens : List (List Token)) × LexedFrom k all files tokens (joined_names all outcomes) × ArePlaced tokens (joined_trees all outcomes)
  trees_are k [] [] all has h none rowless = ([], refl, tt)
  trees_are k [] (outcome ∷ outcomes) all has h none rowless = absurd h
  trees_are k (file ∷ files) [] all has h none rowless = absurd h
  trees_are k (file ∷ files) (Lexical row ∷ outcomes) all has h none rowless = absurd (some_row row (lexical_rows outcomes) none)
  trees_are k (file ∷ files) (Syntax row ∷ outcomes) all has h none rowless = absurd (some_row row (syntax_rows outcomes) rowless)
  trees_are k (file ∷ files) (Tree own tree ∷ outcomes) all has h none rowless =
      let tokens = h.0.0 in
      let rest = trees_are (k + 1) files outcomes (merged all own) (kept all own has) h.1 none rowless in
      (tokens_by (merged_numbers all own) tokens ∷ rest.0, (merged all own, lexed (file_no k) file.bytes all own tokens has h.0.1, rest.1), (parsed (file_no k) file.bytes all own tokens (placed_file tree) has h.0.1 h.0.2, rest.2))

  pub are_trees_of : (files : List SourceFile) (outcomes : List Outcome) (names : List (List ℕ)) (trees : List PlacedFile) → Kept known_names → AreOutcomes 0 files outcomes → lexical_rows outcomes ≡ [] → syntax_rows outcomes ≡ [] → names ≡ joined_names known_names outcomes → trees ≡ joined_trees known_names outcomes → AreTreesOf files names trees
  are_trees_of files outcomes names trees has h none rowless named placed =
      let are = trees_are 0 files outcomes known_names has h none rowless in
      (are.0, subst (λ ns. LexedFrom 0 known_names files are.0 ns) (sym named) are.1, subst (λ ts. ArePlaced are.0 ts) (sym placed) are.2)
