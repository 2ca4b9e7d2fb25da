-- What may follow a part that is read to its end, and what is read of it.
use Rattle.std.specs.Prelude.{◌≡◌, ℕ, ◌≤◌, ◌<◌, List, ◌∷◌, ◌++◌, length, Bool, true, false, Some, None}
use Rattle.jn_trees.specs.declared.token.TokenKind.{TokenKind}
use Rattle.jn_trees.specs.declared.token.TokenKind.TheVariants.{Final, LeftBracket, Comma, At, Else}
use Rattle.jn_trees.specs.Trees.{DeclaratorTree, LocalTree, ParameterTree, Statement}
use Rattle.jn_trees.specs.Spelling.{spell_declarator, spell_more_declarators, spell_local, spell_parameter}
use Rattle.jn_trees.specs.WellFormed.{final_once, GoodDeclarators, nesting_declarators, GoodLocal, nesting_local, ends_open, assignment_rank}
use Rattle.jn_trees.specs.Longest.{TryStatement}
use Rattle.jn_parse_expr_law.specs.Follow.{reach_of}
use Rattle.jn_parse_stmt_law.specs.Parts.{Behind, Read}

abbrev pub starts_annotation : List TokenKind → Bool
starts_annotation (At ∷ ts) = true
starts_annotation _ = false

abbrev pub starts_mark : List TokenKind → Bool
starts_mark (At ∷ ts) = true
starts_mark (Final ∷ ts) = true
starts_mark _ = false

-- annotations or brackets
abbrev pub starts_brackets : List TokenKind → Bool
starts_brackets (At ∷ ts) = true
starts_brackets (LeftBracket ∷ ts) = true
starts_brackets _ = false

abbrev pub starts_comma : List TokenKind → Bool
starts_comma (Comma ∷ ts) = true
starts_comma _ = false

abbrev pub starts_else : List TokenKind → Bool
starts_else (Else ∷ ts) = true
starts_else _ = false

-- neither a value nor a declarator goes on there
abbrev pub EndsDeclarators : List TokenKind → Type 0
EndsDeclarators rest = (assignment_rank < reach_of rest) × (starts_comma rest ≡ false)

-- what was read spells the front
abbrev pub Spelled : {A : Type 0} → (A → List TokenKind) → List TokenKind → Behind A → Type 0
Spelled spelling ts r = ts ≡ spelling r.0 ++ r.1

abbrev pub SpelledIfRead : {A : Type 0} → (A → List TokenKind) → List TokenKind → Read A → Type 0
SpelledIfRead spelling ts None = Unit {0}
SpelledIfRead spelling ts (Some r) = Spelled spelling ts r

-- its marks are well formed
abbrev pub SoundParameter : List TokenKind → Read ParameterTree → Type 0
SoundParameter ts None = Unit {0}
SoundParameter ts (Some r) = Spelled spell_parameter ts r × (final_once r.0.marks ≡ true)

abbrev pub spell_declarators : DeclaratorTree × List DeclaratorTree → List TokenKind
spell_declarators r = spell_declarator r.0 ++ spell_more_declarators r.1

-- its values are well formed, of nesting at most d
abbrev pub SoundDeclarators : ℕ → List TokenKind → Read (DeclaratorTree × List DeclaratorTree) → Type 0
SoundDeclarators d ts None = Unit {0}
SoundDeclarators d ts (Some r) = Spelled spell_declarators ts r × GoodDeclarators (r.0.0 ∷ r.0.1) × (nesting_declarators (r.0.0 ∷ r.0.1) ≤ d)

abbrev pub SoundLocal : ℕ → List TokenKind → Read LocalTree → Type 0
SoundLocal d ts None = Unit {0}
SoundLocal d ts (Some r) = Spelled spell_local ts r × GoodLocal r.0 × (nesting_local r.0 ≤ d)

-- no more is left than `rest`; and just the statement was read, unless an `else` follows that it could take
abbrev pub ReadsStatement : Statement → List TokenKind → TryStatement → Type 0
ReadsStatement s rest None = ⊥
ReadsStatement s rest (Some r) = (length r.1 ≤ length rest) × ((starts_else rest ≡ true → ends_open s ≡ false) → r ≡ (s, rest))
