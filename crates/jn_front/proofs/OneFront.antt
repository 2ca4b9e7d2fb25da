-- Files have one list of names, tokens and trees, or the rows of one phase.
use Rattle.std.proofs.Common.{◌≡◌, ℕ, ◌+◌, List, [], ◌∷◌, refl, sym, ap, ◌∙◌, subst, inl, inr}
use Rattle.jn_base.specs.declared.number.FileNo.{FileNo}
use Rattle.jn_base.specs.declared.place.Row.{Row}
use Rattle.jn_trees.specs.declared.token.Token.{Token}
use Rattle.jn_trees.specs.Trees.{SourceTree}
use Rattle.jn_trees.specs.Pieces.{IsFile, IsSyntaxRow}
use Rattle.jn_places.specs.Placed.{PlacedFile}
use Rattle.jn_places.specs.Forget.{forget_file}
use Rattle.jn_places.specs.Places.{IsPlacedFile}
use Rattle.jn_lexer.specs.Lexed.{Lexed}
use Rattle.jn_lexer.specs.Faults.{LexicalFault}
use Rattle.jn_known.specs.Known.{known_names}
use Rattle.jn_front.specs.declared.source.SourceFile.{SourceFile}
use Rattle.jn_front.specs.Phases.{file_no, LexedFrom, FaultRows, SyntaxRows, ArePlaced, AreParsed, LexicalRows, GrammarRows, FrontRows}

-- ---- one list of rows

module _ (one_row : (file : FileNo) (end : ℕ) (ts : List Token) (a b : Row) → IsSyntaxRow file end ts a → IsSyntaxRow file end ts b → a ≡ b) (not_both : (file : FileNo) (end : ℕ) (ts : List Token) (row : Row) (tree : SourceTree) → IsSyntaxRow file end ts row → IsFile ts tree → ⊥) where
  rows_once : (k : ℕ) (files : List SourceFile) (tss : List (List Token)) (rows others : List Row) → SyntaxRows k files tss rows → SyntaxRows k files tss others → rows ≡ others
  rows_once k [] [] rows others x y = x ∙ sym y
  rows_once k [] (ts ∷ tss) rows others x y = absurd x
  rows_once k (file ∷ files) [] rows others x y = absurd x
  rows_once k (file ∷ files) (ts ∷ tss) rows others (inl x) (inl y) = rows_once (k + 1) files tss rows others x.1 y.1
  rows_once k (file ∷ files) (ts ∷ tss) rows others (inl x) (inr y) = absurd (not_both _ _ ts y.0 x.0.0 y.3 x.0.1)
  rows_once k (file ∷ files) (ts ∷ tss) rows others (inr x) (inl y) = absurd (not_both _ _ ts x.0 y.0.0 x.3 y.0.1)
  rows_once k (file ∷ files) (ts ∷ tss) rows others (inr x) (inr y) =
      let first = one_row _ _ ts x.0 y.0 x.3 y.3 in
      let rest = rows_once (k + 1) files tss x.1 y.1 x.4 y.4 in
      x.2 ∙ ap (λ r. r ∷ x.1) first ∙ ap (λ rs. y.0 ∷ rs) rest ∙ sym y.2

  -- tokens with trees have no row
  placed_rowless : (k : ℕ) (files : List SourceFile) (tss : List (List Token)) (trees : List PlacedFile) (rows : List Row) → ArePlaced tss trees → SyntaxRows k files tss rows → rows ≡ []
  placed_rowless k [] [] trees rows x y = y
  placed_rowless k [] (ts ∷ tss) trees rows x y = absurd y
  placed_rowless k (file ∷ files) [] trees rows x y = absurd y
  placed_rowless k (file ∷ files) (ts ∷ tss) [] rows x y = absurd x
  placed_rowless k (file ∷ files) (ts ∷ tss) (tree ∷ trees) rows x (inl y) = placed_rowless (k + 1) files tss trees rows x.1 y.1
  placed_rowless k (file ∷ files) (ts ∷ tss) (tree ∷ trees) rows x (inr y) = absurd (not_both _ _ ts y.0 (forget_file tree) y.3 x.0.0)

module _ (one_tree : (tokens : List Token) (one other : PlacedFile) → IsPlacedFile tokens one → IsPlacedFile tokens other → one ≡ other) where
  placed_once : (tss : List (List Token)) (trees others : List PlacedFile) → ArePlaced tss trees → ArePlaced tss others → trees ≡ others
  placed_once [] [] [] x y = refl
  placed_once [] [] (other ∷ others) x y = absurd y
  placed_once [] (tree ∷ trees) others x y = absurd x
  placed_once (ts ∷ tss) [] others x y = absurd x
  placed_once (ts ∷ tss) (tree ∷ trees) [] x y = absurd y
  placed_once (ts ∷ tss) (tree ∷ trees) (other ∷ others) x y = ap (λ t. t ∷ trees) (one_tree ts tree other x.0 y.0) ∙ ap (λ us. other ∷ us) (placed_once tss trees others x.1 y.1)

  -- of a text
  pub text_placed_once : {A : Type 0} (ts us : List Token) (ns ms : A) (one other : PlacedFile) → (ts ≡ us) × (ns ≡ ms) → IsPlacedFile ts one → IsPlacedFile us other → one ≡ other
  text_placed_once ts us ns ms one other same x y = one_tree us one other (subst (λ tokens. IsPlacedFile tokens one) same.0 x) y

module _ (one : (file : FileNo) (text : List ℕ) (old : List (List ℕ)) (ts us : List Token) (ns ms : List (List ℕ)) → Lexed file text old ts ns → Lexed file text old us ms → (ts ≡ us) × (ns ≡ ms)) (faultless : (file : FileNo) (text : List ℕ) (old : List (List ℕ)) (ts : List Token) (ns : List (List ℕ)) (row : Row) → Lexed file text old ts ns → LexicalFault file text row → ⊥) (one_fault : (file : FileNo) (text : List ℕ) (row other : Row) → LexicalFault file text row → LexicalFault file text other → row ≡ other) where
  lexed_once : (k : ℕ) (names : List (List ℕ)) (files : List SourceFile) (tss uss : List (List Token)) (last other : List (List ℕ)) → LexedFrom k names files tss last → LexedFrom k names files uss other → (last ≡ other) × (tss ≡ uss)
  lexed_once k names [] [] [] last other x y = (x ∙ sym y, refl)
  lexed_once k names [] [] (us ∷ uss) last other x y = absurd y
  lexed_once k names [] (ts ∷ tss) uss last other x y = absurd x
  lexed_once k names (file ∷ files) [] uss last other x y = absurd x
  lexed_once k names (file ∷ files) (ts ∷ tss) [] last other x y = absurd y
  lexed_once k names (file ∷ files) (ts ∷ tss) (us ∷ uss) last other x y =
      let same = one (file_no k) file.bytes names ts us x.0 y.0 x.1 y.1 in
      let rest = lexed_once (k + 1) y.0 files tss uss last other (subst (λ ns. LexedFrom (k + 1) ns files tss last) same.1 x.2) y.2 in
      (rest.0, ap (λ a. a ∷ tss) same.0 ∙ ap (λ b. us ∷ b) rest.1)

  faults_once : (k : ℕ) (files : List SourceFile) (rows others : List Row) → FaultRows k files rows → FaultRows k files others → rows ≡ others
  faults_once k [] rows others x y = x ∙ sym y
  faults_once k (file ∷ files) rows others (inl x) (inl y) = faults_once (k + 1) files rows others x.1 y.1
  faults_once k (file ∷ files) rows others (inl x) (inr y) = absurd (x.0 y.0 y.3)
  faults_once k (file ∷ files) rows others (inr x) (inl y) = absurd (y.0 x.0 x.3)
  faults_once k (file ∷ files) rows others (inr x) (inr y) =
      let first = one_fault _ _ x.0 y.0 x.3 y.3 in
      let rest = faults_once (k + 1) files x.1 y.1 x.4 y.4 in
      x.2 ∙ ap (λ r. r ∷ x.1) first ∙ ap (λ rs. y.0 ∷ rs) rest ∙ sym y.2

  lexed_faultless : (k : ℕ) (names : List (List ℕ)) (files : List SourceFile) (tss : List (List Token)) (last : List (List ℕ)) (rows : List Row) → LexedFrom k names files tss last → FaultRows k files rows → rows ≡ []
  lexed_faultless k names [] [] last rows x y = y
  lexed_faultless k names [] (ts ∷ tss) last rows x y = absurd x
  lexed_faultless k names (file ∷ files) [] last rows x y = absurd x
  lexed_faultless k names (file ∷ files) (ts ∷ tss) last rows x (inl y) = lexed_faultless (k + 1) x.0 files tss last rows x.2 y.1
  lexed_faultless k names (file ∷ files) (ts ∷ tss) last rows x (inr y) = absurd (faultless _ _ names ts x.0 y.0 x.1 y.3)

  apart_lexical : (files : List SourceFile) (tss : List (List Token)) (last : List (List ℕ)) (rows : List Row) → LexedFrom 0 known_names files tss last → LexicalRows files rows → ⊥
  apart_lexical files tss last rows x y = y.some (lexed_faultless 0 known_names files tss last rows x y.are)

  pub front_parsed : ((tokens : List Token) (one other : PlacedFile) → IsPlacedFile tokens one → IsPlacedFile tokens other → one ≡ other) → (files : List SourceFile) (names others : List (List ℕ)) (tss uss : List (List Token)) (trees vs : List PlacedFile) → AreParsed files names tss trees → AreParsed files others uss vs → (names ≡ others) × (tss ≡ uss) × (trees ≡ vs)
  front_parsed one_tree files names others tss uss trees vs x y =
      let same = lexed_once 0 known_names files tss uss names others x.lexed y.lexed in
      (same.0, same.1, placed_once one_tree uss trees vs (subst (λ tokens. ArePlaced tokens trees) same.1 x.parsed) y.parsed)

  module _ (one_row : (file : FileNo) (end : ℕ) (ts : List Token) (a b : Row) → IsSyntaxRow file end ts a → IsSyntaxRow file end ts b → a ≡ b) (not_both : (file : FileNo) (end : ℕ) (ts : List Token) (row : Row) (tree : SourceTree) → IsSyntaxRow file end ts row → IsFile ts tree → ⊥) where
    apart_grammar : (files : List SourceFile) (names : List (List ℕ)) (tss : List (List Token)) (trees : List PlacedFile) (rows : List Row) → AreParsed files names tss trees → GrammarRows files rows → ⊥
    apart_grammar files names tss trees rows x y =
        let same = lexed_once 0 known_names files y.tokens tss y.names names y.lexed x.lexed in
        y.some (placed_rowless one_row not_both 0 files tss trees rows x.parsed (subst (λ us. SyntaxRows 0 files us rows) same.1 y.are))

    pub front_apart : (files : List SourceFile) (names : List (List ℕ)) (tss : List (List Token)) (trees : List PlacedFile) (rows : List Row) → AreParsed files names tss trees → FrontRows files rows → ⊥
    front_apart files names tss trees rows x (inl y) = y.some (y.are ∙ x.within)
    front_apart files names tss trees rows x (inr (inl y)) = apart_lexical files tss names rows x.lexed y
    front_apart files names tss trees rows x (inr (inr y)) = apart_grammar files names tss trees rows x y

    grammar_once : (files : List SourceFile) (rows others : List Row) → GrammarRows files rows → GrammarRows files others → rows ≡ others
    grammar_once files rows others x y =
        let same = lexed_once 0 known_names files x.tokens y.tokens x.names y.names x.lexed y.lexed in
        rows_once one_row not_both 0 files y.tokens rows others (subst (λ us. SyntaxRows 0 files us rows) same.1 x.are) y.are

    pub front_rows : (files : List SourceFile) (rows others : List Row) → FrontRows files rows → FrontRows files others → rows ≡ others
    front_rows files rows others (inl x) (inl y) = x.are ∙ sym y.are
    front_rows files rows others (inl x) (inr (inl y)) = absurd (x.some (x.are ∙ y.within))
    front_rows files rows others (inl x) (inr (inr y)) = absurd (x.some (x.are ∙ y.within))
    front_rows files rows others (inr (inl x)) (inl y) = absurd (y.some (y.are ∙ x.within))
    front_rows files rows others (inr (inl x)) (inr (inl y)) = faults_once 0 files rows others x.are y.are
    front_rows files rows others (inr (inl x)) (inr (inr y)) = absurd (apart_lexical files y.tokens y.names rows y.lexed x)
    front_rows files rows others (inr (inr x)) (inl y) = absurd (y.some (y.are ∙ x.within))
    front_rows files rows others (inr (inr x)) (inr (inl y)) = absurd (apart_lexical files x.tokens x.names others x.lexed y)
    front_rows files rows others (inr (inr x)) (inr (inr y)) = grammar_once files rows others x y
