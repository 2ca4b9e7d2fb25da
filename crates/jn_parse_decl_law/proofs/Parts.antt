-- What is read of declarators of a field, and of statements of a body.
use Rattle.std.proofs.Common.{◌≡◌, ◌≤◌, List, ◌∷◌, ◌++◌, refl, sym, ap, ◌∙◌, arith, append_assoc, Some, Bool}
use Rattle.jn_trees.specs.declared.token.TokenKind.{TokenKind}
use Rattle.jn_trees.specs.declared.token.TokenKind.TheVariants.{Semicolon}
use Rattle.jn_trees.specs.Trees.{DeclaratorTree, Statement}
use Rattle.jn_trees.specs.Spelling.{spell_declarator, spell_more_declarators, spell_statement}
use Rattle.jn_trees.specs.WellFormed.{GoodDeclarators, nesting_declarators, GoodStatement, nesting_statement, deepest, body_context}
use Rattle.jn_parse_expr_law.specs.Reader.{reader}
use Rattle.jn_parse_stmt_law.specs.Fronts.{SoundDeclarators, ReadsStatement}
use Rattle.jn_parse_stmt_law.proofs.Declarators.{declarators_sound, declarators_exact}
use Rattle.jn_parse_stmt_law.proofs.StatementsSound.{SoundStatement}
use Rattle.jn_parse_stmt_law.proofs.Laws.{whole_at, statement_sound, reads}
use Rattle.jn_parse_decl_law.specs.PieceReader.{read_field_declarators, read_body_statement}

pub field_declarators_sound : (ts : List TokenKind) → SoundDeclarators deepest ts (read_field_declarators ts)
unfolding read_field_declarators
field_declarators_sound ts = declarators_sound deepest (reader deepest).whole (whole_at deepest) ts

pub field_declarators_exact : (d : DeclaratorTree) (ds : List DeclaratorTree) (rest : List TokenKind) → GoodDeclarators (d ∷ ds) → nesting_declarators (d ∷ ds) ≤ deepest → read_field_declarators (spell_declarator d ++ (spell_more_declarators ds ++ Semicolon ∷ rest)) ≡ Some ((d, ds), Semicolon ∷ rest)
unfolding read_field_declarators
field_declarators_exact d ds rest g m =
    ap read_field_declarators (sym (append_assoc (spell_declarator d) (spell_more_declarators ds) (Semicolon ∷ rest)))
    ∙ declarators_exact deepest (reader deepest).whole (whole_at deepest) d ds (Semicolon ∷ rest) g m (omega arith, refl)

pub body_statement_sound : (leading : Bool) (ts : List TokenKind) → SoundStatement (body_context leading) deepest ts (read_body_statement leading ts)
unfolding read_body_statement
body_statement_sound leading ts = statement_sound deepest (body_context leading) ts

pub body_statement_full : (leading : Bool) (s : Statement) (rest : List TokenKind) → GoodStatement (body_context leading) s → nesting_statement s ≤ deepest → ReadsStatement s rest (read_body_statement leading (spell_statement s ++ rest))
unfolding read_body_statement
body_statement_full leading s rest g m = reads (body_context leading) deepest s rest g m
