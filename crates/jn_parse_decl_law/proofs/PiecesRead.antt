-- The reader of one piece is sound and full, so reading again and again ends at the place.
use Rattle.std.proofs.Common.{◌≡◌, ◌<◌, List, [], ◌∷◌, ◌++◌, length, refl, sym, ap, ◌∙◌, subst, arith, append_assoc, length-append, Option, Some, None, false, not}
use Rattle.jn_trees.specs.declared.token.TokenKind.{TokenKind}
use Rattle.jn_trees.specs.declared.token.TokenKind.TheVariants.{Id, Class, Implements, Extends, Interface, LeftParen, LeftBrace, Semicolon}
use Rattle.jn_trees.specs.Trees.{BaseTree, ClassBase, IntBase, BooleanBase, Mark, NoteMark, PublicMark, ProtectedMark, PrivateMark, StaticMark, ConstantMark, AbstractMark, TypeUseTree}
use Rattle.jn_trees.specs.Spelling.{base_token, spell_all_marks, spell_parent, spell_names, spell_brackets, spell_type_use, spell_result, spell_declarator, spell_more_declarators, spell_parameters, spell_statement, spell_method_head, spell_constructor_head}
use Rattle.jn_trees.specs.Pieces.{Piece, ClassHead, InterfaceHead, FieldPiece, MethodPiece, MethodHead, ConstructorHead, StatementPiece, Around, AtStart, BehindLines, BehindTypes, InType, InBody, spell_piece, May, pieces}
use Rattle.jn_parse_decl_law.specs.Runs.{SoundPiece, FullPiece}
use Rattle.jn_parse_decl_law.specs.PieceReader.{TryPiece, piece_reader}
use Rattle.jn_parse_decl_law.proofs.Places.{PieceReader}
use Rattle.jn_parse_decl_law.specs.Progress.{no_else_first}
use Rattle.jn_parse_stmt_law.specs.Fronts.{starts_else}
use Rattle.jn_parse_stmt_law.proofs.Statements.{statement_stands, some_tokens, no_else}
use Rattle.jn_parse_decl_law.proofs.HeadsRead.{SoundBy, type_head_sound, line_sound, first_sound, head_full, line_full, first_full}
use Rattle.jn_parse_decl_law.proofs.MembersRead.{member_sound, in_body_sound, member_full, FullByElse, in_body_full}

-- what pieces begin with
marks_no_else : (ms : List Mark) (rest : List TokenKind) → starts_else rest ≡ false → starts_else (spell_all_marks ms ++ rest) ≡ false
marks_no_else [] rest e = e
marks_no_else (NoteMark n ∷ ms) rest e = refl
marks_no_else (PublicMark ∷ ms) rest e = refl
marks_no_else (ProtectedMark ∷ ms) rest e = refl
marks_no_else (PrivateMark ∷ ms) rest e = refl
marks_no_else (StaticMark ∷ ms) rest e = refl
marks_no_else (ConstantMark ∷ ms) rest e = refl
marks_no_else (AbstractMark ∷ ms) rest e = refl

-- marks, and what begins with no `else`
marked_no_else : (ms : List Mark) (ts rest : List TokenKind) → starts_else (ts ++ rest) ≡ false → starts_else ((spell_all_marks ms ++ ts) ++ rest) ≡ false
marked_no_else ms ts rest e = ap starts_else (append_assoc (spell_all_marks ms) ts rest) ∙ marks_no_else ms (ts ++ rest) e

base_no_else : (b : BaseTree) (rest : List TokenKind) → starts_else (base_token b ∷ rest) ≡ false
base_no_else (ClassBase n) rest = refl
base_no_else IntBase rest = refl
base_no_else BooleanBase rest = refl

result_no_else : (u : Option TypeUseTree) (ts rest : List TokenKind) → starts_else ((spell_result u ++ ts) ++ rest) ≡ false
result_no_else None ts rest = refl
result_no_else (Some u) ts rest = base_no_else u.base ((spell_brackets u.array ++ ts) ++ rest)

pub piece_no_else : (p : Piece) (rest : List TokenKind) → starts_else (spell_piece p ++ rest) ≡ false
piece_no_else (ClassHead ms n parent interfaces) rest = marked_no_else ms (Class ∷ Id n ∷ (spell_parent parent ++ (spell_names Implements interfaces ++ LeftBrace ∷ []))) rest refl
piece_no_else (InterfaceHead ms n parents) rest = marked_no_else ms (Interface ∷ Id n ∷ (spell_names Extends parents ++ LeftBrace ∷ [])) rest refl
piece_no_else (FieldPiece ms u d ds) rest =
    let more = spell_declarator d ++ (spell_more_declarators ds ++ Semicolon ∷ []) in
    marked_no_else ms (spell_type_use u ++ more) rest (base_no_else u.base ((spell_brackets u.array ++ more) ++ rest))
piece_no_else (MethodPiece ms u n r ps) rest =
    let more = Id n ∷ LeftParen ∷ spell_parameters r ps in
    ap starts_else (append_assoc (spell_method_head ms u n r ps) (Semicolon ∷ []) rest) ∙ marked_no_else ms (spell_result u ++ more) (Semicolon ∷ rest) (result_no_else u more (Semicolon ∷ rest))
piece_no_else (MethodHead ms u n r ps) rest =
    let more = Id n ∷ LeftParen ∷ spell_parameters r ps in
    ap starts_else (append_assoc (spell_method_head ms u n r ps) (LeftBrace ∷ []) rest) ∙ marked_no_else ms (spell_result u ++ more) (LeftBrace ∷ rest) (result_no_else u more (LeftBrace ∷ rest))
piece_no_else (ConstructorHead ms n ps) rest =
    ap starts_else (append_assoc (spell_constructor_head ms n ps) (LeftBrace ∷ []) rest) ∙ marked_no_else ms (Id n ∷ LeftParen ∷ spell_parameters None ps) (LeftBrace ∷ rest) refl
piece_no_else (StatementPiece s) rest = no_else (spell_statement s ++ rest) (statement_stands s rest)
piece_no_else _ rest = refl

-- a piece has tokens
piece_tokens : (p : Piece) → 0 < length (spell_piece p)
piece_tokens (ClassHead ms n parent interfaces) = omega (arith, length-append (spell_all_marks ms) (Class ∷ Id n ∷ (spell_parent parent ++ (spell_names Implements interfaces ++ LeftBrace ∷ []))))
piece_tokens (InterfaceHead ms n parents) = omega (arith, length-append (spell_all_marks ms) (Interface ∷ Id n ∷ (spell_names Extends parents ++ LeftBrace ∷ [])))
piece_tokens (FieldPiece ms u d ds) = omega (arith, length-append (spell_all_marks ms) (spell_type_use u ++ (spell_declarator d ++ (spell_more_declarators ds ++ Semicolon ∷ []))))
piece_tokens (MethodPiece ms u n r ps) = omega (arith, length-append (spell_method_head ms u n r ps) (Semicolon ∷ []))
piece_tokens (MethodHead ms u n r ps) = omega (arith, length-append (spell_method_head ms u n r ps) (LeftBrace ∷ []))
piece_tokens (ConstructorHead ms n ps) = omega (arith, length-append (spell_constructor_head ms n ps) (LeftBrace ∷ []))
piece_tokens (StatementPiece s) = some_tokens s
piece_tokens _ = omega arith

-- sound
strict : (s : Around) (ts : List TokenKind) (o : TryPiece) → SoundBy (May s) ts o → SoundPiece pieces s ts o
strict s ts None h = tt
strict s ts (Some r) h = (h.0, h.1, omega (arith, ap length h.0, length-append (spell_piece r.0) r.1, piece_tokens r.0))

-- full
exact_full : (p : Piece) (rest : List TokenKind) (o : TryPiece) → o ≡ Some (p, rest) → FullPiece pieces no_else_first p rest o
exact_full p rest o e = subst (λ x. FullPiece pieces no_else_first p rest x) (sym e) (omega arith, λ q. refl)

else_full : (p : Piece) (rest : List TokenKind) (o : TryPiece) → FullByElse p rest o → FullPiece pieces no_else_first p rest o
else_full p rest None f = f
else_full p rest (Some r) f = f

pub sound_at : (s : Around) (ts : List TokenKind) → SoundPiece pieces s ts (piece_reader s ts)
sound_at AtStart ts = strict AtStart ts (piece_reader AtStart ts) (first_sound ts)
sound_at BehindLines ts = strict BehindLines ts (piece_reader BehindLines ts) (line_sound ts)
sound_at BehindTypes ts = strict BehindTypes ts (piece_reader BehindTypes ts) (type_head_sound ts)
sound_at (InType o) ts = strict (InType o) ts (piece_reader (InType o) ts) (member_sound o ts)
sound_at (InBody o leading) ts = strict (InBody o leading) ts (piece_reader (InBody o leading) ts) (in_body_sound leading ts)

pub full_at : (s : Around) (p : Piece) (rest : List TokenKind) → May s p → FullPiece pieces no_else_first p rest (piece_reader s (spell_piece p ++ rest))
full_at AtStart p rest m = exact_full p rest (piece_reader AtStart (spell_piece p ++ rest)) (first_full p rest m)
full_at BehindLines p rest m = exact_full p rest (piece_reader BehindLines (spell_piece p ++ rest)) (line_full p rest m)
full_at BehindTypes p rest m = exact_full p rest (piece_reader BehindTypes (spell_piece p ++ rest)) (head_full p rest m)
full_at (InType o) p rest m = exact_full p rest (piece_reader (InType o) (spell_piece p ++ rest)) (member_full o p rest m)
full_at (InBody o leading) p rest m = else_full p rest (piece_reader (InBody o leading) (spell_piece p ++ rest)) (in_body_full leading p rest m)

abbrev pub file_reader : PieceReader pieces
file_reader = record {
  read = piece_reader;
  quiet = no_else_first;
  sound = sound_at;
  full = full_at;
  starts = λ s p rest m. ap not (piece_no_else p rest);
  stops = refl;
}
