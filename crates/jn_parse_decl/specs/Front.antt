-- What stands first among tokens, one at a time.
use Rattle.std.specs.Prelude.{List, ◌∷◌, ◌++◌, Option, Some, None}
use Rattle.jn_trees.specs.declared.token.TokenKind.{TokenKind}
use Rattle.jn_trees.specs.declared.token.TokenKind.TheVariants.{Id, Public as PublicWord, Protected as ProtectedWord, Private as PrivateWord, Static as StaticWord, Final as FinalWord, Abstract as AbstractWord}
use Rattle.jn_trees.specs.Trees.{Mark, PublicMark, ProtectedMark, PrivateMark, StaticMark, ConstantMark, AbstractMark, ParameterTree, LocalMark, TypeUseTree}
use Rattle.jn_parse_stmt_law.specs.Parts.{read_marks, read_type_use}
use Rattle.jn_parse_decl_law.specs.PieceReader.{TryParameters, after_type}

-- the mark that a word alone is
abbrev pub word_mark : TokenKind → Option Mark
word_mark PublicWord = Some PublicMark
word_mark ProtectedWord = Some ProtectedMark
word_mark PrivateWord = Some PrivateMark
word_mark StaticWord = Some StaticMark
word_mark FinalWord = Some ConstantMark
word_mark AbstractWord = Some AbstractMark
word_mark _ = None

-- these before what was read
abbrev pub prepend : {A : Type 0} → List A → List A × List TokenKind → List A × List TokenKind
prepend xs r = (xs ++ r.0, r.1)

abbrev pub prepend_parameters : List ParameterTree → TryParameters → TryParameters
prepend_parameters ps None = None
prepend_parameters ps (Some r) = Some (ps ++ r.0, r.1)

-- the parameter whose name comes first
abbrev pub name_behind : List LocalMark → TypeUseTree → List TokenKind → Option (ParameterTree × List TokenKind)
name_behind ms u (Id n ∷ ts) = Some (record { marks = ms; type_use = u; name = n }, ts)
name_behind ms u _ = None

-- the parameter that comes first
abbrev pub one_parameter : List TokenKind → Option (ParameterTree × List TokenKind)
one_parameter ts = after_type (name_behind (read_marks ts).0) (read_type_use (read_marks ts).1)
