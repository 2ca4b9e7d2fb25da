-- What files are before they are programs: their tokens and the list of all names, or the lexical fault of each; their trees with places, or the syntax row of each.
use Rattle.std.specs.Prelude.{◌≡◌, ◌⊎◌, ℕ, ◌+◌, List, [], ◌∷◌, length}
use Rattle.jn_base.specs.declared.place.Row.{Row}
use Rattle.jn_base.specs.declared.number.FileNo.{FileNo}
use Rattle.jn_trees.specs.declared.token.Token.{Token}
use Rattle.jn_trees.specs.Trees.{SourceTree}
use Rattle.jn_trees.specs.Pieces.{IsFile, IsSyntaxRow}
use Rattle.jn_places.specs.Placed.{PlacedFile}
use Rattle.jn_places.specs.Places.{IsPlacedFile}
use Rattle.jn_lexer.specs.Lexed.{Lexed}
use Rattle.jn_lexer.specs.Faults.{LexicalFault}
use Rattle.jn_known.specs.Known.{known_names}
use Rattle.jn_front.specs.declared.source.SourceFile.{SourceFile}
use Rattle.jn_front.specs.Limits.{limit_rows}

-- the k-th file's number, as places have it
abbrev pub file_no : ℕ → FileNo
file_no k = record { 0 = k }

-- the files from the k-th on are these tokens, their names numbered after those of the files before (JLS 3.3 to 3.12); `last` are the names after all
abbrev pub LexedFrom : ℕ → List (List ℕ) → List SourceFile → List (List Token) → List (List ℕ) → Type 0
LexedFrom k names [] [] last = last ≡ names
LexedFrom k names [] (ts ∷ tss) last = ⊥
LexedFrom k names (file ∷ files) [] last = ⊥
LexedFrom k names (file ∷ files) (ts ∷ tss) last = (new : List (List ℕ)) × Lexed (file_no k) file.bytes names ts new × LexedFrom (k + 1) new files tss last

-- the lexical fault of each file that has one
abbrev pub FaultRows : ℕ → List SourceFile → List Row → Type 0
FaultRows k [] rows = rows ≡ []
FaultRows k (file ∷ files) rows =
    (((row : Row) → LexicalFault (file_no k) file.bytes row → ⊥) × FaultRows (k + 1) files rows)
    ⊎ ((row : Row) × (rest : List Row) × (rows ≡ row ∷ rest) × LexicalFault (file_no k) file.bytes row × FaultRows (k + 1) files rest)

-- the tokens are a file
abbrev pub Parses : List Token → Type 0
Parses ts = (tree : SourceTree) × IsFile ts tree

-- the syntax row of each file that has one
abbrev pub SyntaxRows : ℕ → List SourceFile → List (List Token) → List Row → Type 0
SyntaxRows k [] [] rows = rows ≡ []
SyntaxRows k [] (ts ∷ tss) rows = ⊥
SyntaxRows k (file ∷ files) [] rows = ⊥
SyntaxRows k (file ∷ files) (ts ∷ tss) rows =
    (Parses ts × SyntaxRows (k + 1) files tss rows)
    ⊎ ((row : Row) × (rest : List Row) × (rows ≡ row ∷ rest) × IsSyntaxRow (file_no k) (length file.bytes) ts row × SyntaxRows (k + 1) files tss rest)

-- the trees are, file by file, those of the tokens, each node where its tokens stand (JLS 7.3)
abbrev pub ArePlaced : List (List Token) → List PlacedFile → Type 0
ArePlaced [] [] = Unit {0}
ArePlaced [] (tree ∷ trees) = ⊥
ArePlaced (ts ∷ tss) [] = ⊥
ArePlaced (ts ∷ tss) (tree ∷ trees) = IsPlacedFile ts tree × ArePlaced tss trees

-- within the limits, and each file has tokens and a tree: these are all names, and file by file the tokens and the trees
pub record AreParsed (files : List SourceFile) (names : List (List ℕ)) (tokens : List (List Token)) (trees : List PlacedFile) : Type 0 where
  pub within : limit_rows files ≡ []
  pub lexed : LexedFrom 0 known_names files tokens names
  pub parsed : ArePlaced tokens trees

-- the rows of the first phase that has any
pub record LimitRows (files : List SourceFile) (rows : List Row) : Type 0 where
  pub are : rows ≡ limit_rows files
  pub some : rows ≡ [] → ⊥

-- the files are within the limits, and some have a lexical fault: their rows, by file
pub record LexicalRows (files : List SourceFile) (rows : List Row) : Type 0 where
  pub within : limit_rows files ≡ []
  pub are : FaultRows 0 files rows
  pub some : rows ≡ [] → ⊥

-- the files are within the limits and have tokens, but the tokens of some are no file: their syntax rows, by file
pub record GrammarRows (files : List SourceFile) (rows : List Row) : Type 0 where
  pub within : limit_rows files ≡ []
  pub names : List (List ℕ)
  pub tokens : List (List Token)
  pub lexed : LexedFrom 0 known_names files tokens names
  pub are : SyntaxRows 0 files tokens rows
  pub some : rows ≡ [] → ⊥

-- the rows of files that never come to be trees, all of one phase: the limits, the lexical faults or the syntax
abbrev pub FrontRows : List SourceFile → List Row → Type 0
FrontRows files rows = LimitRows files rows ⊎ (LexicalRows files rows ⊎ GrammarRows files rows)

-- the lexical faults, or where no file has one, the syntax rows
abbrev pub TextRows : List SourceFile → List Row → Type 0
TextRows files rows =
    FaultRows 0 files rows
    ⊎ ((names : List (List ℕ)) × (tokens : List (List Token)) × LexedFrom 0 known_names files tokens names × SyntaxRows 0 files tokens rows)

-- the files have these names and, file by file, these trees
abbrev pub AreTreesOf : List SourceFile → List (List ℕ) → List PlacedFile → Type 0
AreTreesOf files names trees = (tokens : List (List Token)) × LexedFrom 0 known_names files tokens names × ArePlaced tokens trees
