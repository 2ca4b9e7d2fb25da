-- A text has one list of tokens.
use Rattle.std.proofs.Common.{◌≡◌, ℕ, List, [], ◌∷◌, ◌++◌, sym, ap, ◌∙◌}
use Rattle.std.specs.Prelude.{chars}
use Rattle.std.proofs.lemmas.List.{append-nil}
use Rattle.jn_base.specs.declared.number.FileNo.{FileNo}
use Rattle.jn_trees.specs.declared.token.Token.{Token}
use Rattle.jn_lexer.specs.Gaps.{Blank, gap_text, IsGap}
use Rattle.jn_lexer.specs.Lexemes.{Lexeme, IsSpelling}
use Rattle.jn_lexer.specs.Pieces.{Piece, ArePieces}
use Rattle.jn_lexer.specs.Lexed.{Lexed, tokens_of, names_after}
use Rattle.jn_lexer.proofs.Standing.{some_spelling}
use Rattle.jn_lexer.proofs.OneGap.{gap_one, nil_not_blank}
use Rattle.jn_lexer.proofs.OneToken.{Stops, behind_one, stands_not_blank}

empty_word : (l : Lexeme) (word after : List ℕ) → [] ≡ word ++ after → IsSpelling l word → ⊥
empty_word l [] after e h = some_spelling l h
empty_word l (w ∷ ws) after e h = cc

-- where all is white space and comments no token stands
pub gap_stops : (rest : List ℕ) (place : ℕ) (blanks : List Blank) → rest ≡ gap_text blanks → IsGap blanks [] → Stops rest place
gap_stops rest place blanks is g p after s =
    let e = gap_one blanks s.blanks [] (s.word ++ after) (append-nil (gap_text blanks) ∙ sym is ∙ s.is) g s.gap nil_not_blank (stands_not_blank rest place p after s) in
    empty_word p.lexeme s.word after e s.spelled

pub pieces_stop : (text : List ℕ) (ps : List Piece) (a : ArePieces text ps) → Stops a.rest a.place
pieces_stop text ps a = gap_stops a.rest a.place a.blanks a.is a.gap

pub one_list : (file : FileNo) (text : List ℕ) (old : List (List ℕ)) (ts us : List Token) (ns ms : List (List ℕ)) → Lexed file text old ts ns → Lexed file text old us ms → (ts ≡ us) × (ns ≡ ms)
one_list file text old ts us ns ms l m =
    let same = (behind_one (chars text) 0 l.pieces m.pieces l.are.rest m.are.rest l.are.place m.are.place l.are.behind m.are.behind (pieces_stop (chars text) l.pieces l.are) (pieces_stop (chars text) m.pieces m.are)).0 in (
      l.tokens_are ∙ ap (tokens_of file old) same ∙ sym m.tokens_are,
      l.names_are ∙ ap (names_after old) same ∙ sym m.names_are,
    )
