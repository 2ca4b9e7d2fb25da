-- A text has one fault, and none where it has a list of tokens.
use Rattle.std.proofs.Common.{◌≡◌, ℕ, ◌+◌, ⊎_elim, List, [], ◌∷◌, ◌++◌, refl, sym, ap, ◌∙◌, subst, arith}
use Rattle.std.specs.Prelude.{chars}
use Rattle.std.proofs.lemmas.Str.{utf8_valid_len-IsValidUpTo}
use Rattle.std.proofs.lemmas.List.{append-nil}
use Rattle.jn_base.specs.declared.number.FileNo.{FileNo}
use Rattle.jn_base.specs.declared.code.Code.{Code}
use Rattle.jn_base.specs.declared.place.Row.{Row}
use Rattle.jn_trees.specs.declared.token.Token.{Token}
use Rattle.jn_lexer.specs.Characters.{width}
use Rattle.jn_lexer.specs.Gaps.{gap_text}
use Rattle.jn_lexer.specs.Pieces.{Piece, ArePieces}
use Rattle.jn_lexer.specs.Faults.{IsFault, IsAtCharacter, IsTokenFault, IsNotUtf8, HasUnicodeEscape, LexicalFault}
use Rattle.jn_lexer.specs.Lexed.{Lexed}
use Rattle.jn_lexer.proofs.Lists.{same_front}
use Rattle.jn_lexer.proofs.OneGap.{gap_one, nil_not_blank, front_one}
use Rattle.jn_lexer.proofs.OneToken.{Stops, behind_one, stands_not_blank}
use Rattle.jn_lexer.proofs.OneList.{pieces_stop}
use Rattle.jn_lexer.proofs.OneFault.{fault_not_blank, fault_some, fault_token, fault_one}

fault_stops : (file : FileNo) (text : List ℕ) (row : Row) (f : IsTokenFault file text row) → Stops f.rest f.place
fault_stops file text row f p after s =
    let e = gap_one f.blanks s.blanks f.body (s.word ++ after) (sym f.is ∙ s.is) f.gap s.gap (fault_not_blank row.code f.body f.front f.c f.fault) (stands_not_blank f.rest f.place p after s) in
    fault_token row.code f.body f.front f.c f.fault p.lexeme s.word after e s.spelled s.free

no_token_fault : (file : FileNo) (text : List ℕ) (row : Row) (ps : List Piece) → ArePieces text ps → IsTokenFault file text row → ⊥
no_token_fault file text row ps a f =
    let b = behind_one text 0 ps f.pieces a.rest f.rest a.place f.place a.behind f.behind (pieces_stop text ps a) (fault_stops file text row f) in
    let e = gap_one a.blanks f.blanks [] f.body (append-nil (gap_text a.blanks) ∙ sym a.is ∙ b.1 ∙ f.is) a.gap f.gap nil_not_blank (fault_not_blank row.code f.body f.front f.c f.fault) in
    fault_some row.code f.body f.front f.c f.fault (sym e)

pub no_fault : (file other : FileNo) (text : List ℕ) (old : List (List ℕ)) (ts : List Token) (ns : List (List ℕ)) (row : Row) → Lexed file text old ts ns → LexicalFault other text row → ⊥
no_fault file other text old ts ns row l f =
    ⊎_elim (λ n. n.not_utf8 l.utf8) (λ r. ⊎_elim (λ e. l.plain e.before e.first.0) (λ t. no_token_fault other (chars text) row l.pieces l.are t.fault) r) f

-- rows by their parts
row_same : (r s : Row) → r.span.file ≡ s.span.file → r.span.from ≡ s.span.from → r.span.to ≡ s.span.to → r.code ≡ s.code → r ≡ s
row_same r s a b c d = ap (λ f. row f r.span.from r.span.to r.code) a ∙ ap (λ n. row s.span.file n r.span.to r.code) b ∙ ap (λ n. row s.span.file s.span.from n r.code) c ∙ ap (λ k. row s.span.file s.span.from s.span.to k) d
  where
    row : FileNo → ℕ → ℕ → Code → Row
    row f m n k = record { span = record { file = f; from = m; to = n }; code = k }

at_same : (file : FileNo) (m n c d : ℕ) (r s : Row) → IsAtCharacter file m c r → IsAtCharacter file n d s → m ≡ n → c ≡ d → r.code ≡ s.code → r ≡ s
at_same file m n c d r s a b e f k = row_same r s (a.file_is ∙ sym b.file_is) (a.from ∙ e ∙ sym b.from) (a.to ∙ ap (λ x. x + width (c ∷ [])) e ∙ ap (λ x. n + width (x ∷ [])) f ∙ sym b.to) k

not_utf8_one : (file : FileNo) (text : List ℕ) (r s : Row) → IsNotUtf8 file text r → IsNotUtf8 file text s → r ≡ s
not_utf8_one file text r s a b =
    let from : r.span.from ≡ s.span.from = sym (utf8_valid_len-IsValidUpTo text r.span.from a.up_to) ∙ utf8_valid_len-IsValidUpTo text s.span.from b.up_to in
    row_same r s (a.file_is ∙ sym b.file_is) from (a.to ∙ ap (λ n. n + 1) from ∙ sym b.to) (a.code ∙ sym b.code)

escape_one : (file : FileNo) (text : List ℕ) (r s : Row) → HasUnicodeEscape file text r → HasUnicodeEscape file text s → r ≡ s
escape_one file text r s a b =
    let l = a.first.1 b.before b.first.0 in
    let m = b.first.1 a.before a.first.0 in
    let same = (same_front a.before b.before (92 ∷ 117 ∷ a.first.0.0) (92 ∷ 117 ∷ b.first.0.0) (sym a.first.0.1 ∙ b.first.0.1) (omega arith)).0 in
    at_same file (width a.before) (width b.before) 92 92 r s a.at b.at (ap width same) refl (a.code ∙ sym b.code)

token_fault_one : (file : FileNo) (text : List ℕ) (r s : Row) → IsTokenFault file text r → IsTokenFault file text s → r ≡ s
token_fault_one file text r s a b =
    let o = behind_one text 0 a.pieces b.pieces a.rest b.rest a.place b.place a.behind b.behind (fault_stops file text r a) (fault_stops file text s b) in
    let whole : gap_text a.blanks ++ a.body ≡ gap_text b.blanks ++ b.body = sym a.is ∙ o.1 ∙ b.is in
    let body = gap_one a.blanks b.blanks a.body b.body whole a.gap b.gap (fault_not_blank r.code a.body a.front a.c a.fault) (fault_not_blank s.code b.body b.front b.c b.fault) in
    let gaps = front_one (gap_text a.blanks) (gap_text b.blanks) a.body b.body whole body in
    let f = fault_one r.code s.code b.body a.front b.front a.c b.c (subst (λ t. IsFault r.code t a.front a.c) body a.fault) b.fault in
    at_same file (a.place + width (gap_text a.blanks) + width a.front) (b.place + width (gap_text b.blanks) + width b.front) a.c b.c r s a.at b.at
    (ap (λ n. n + width (gap_text a.blanks) + width a.front) o.2 ∙ ap (λ xs. b.place + width xs + width a.front) gaps ∙ ap (λ xs. b.place + width (gap_text b.blanks) + width xs) f.1) f.2 f.0

pub one_fault : (file : FileNo) (text : List ℕ) (r s : Row) → LexicalFault file text r → LexicalFault file text s → r ≡ s
one_fault file text r s f g =
    ⊎_elim
    (λ a. ⊎_elim (λ b. not_utf8_one file text r s a b) (λ y. absurd (⊎_elim (λ b. a.not_utf8 b.utf8) (λ b. a.not_utf8 b.utf8) y)) g)
    (λ x. ⊎_elim
    (λ a. ⊎_elim (λ b. absurd (b.not_utf8 a.utf8)) (λ y. ⊎_elim (λ b. escape_one file text r s a b) (λ b. absurd (b.plain a.before a.first.0)) y) g)
    (λ a. ⊎_elim (λ b. absurd (b.not_utf8 a.utf8)) (λ y. ⊎_elim (λ b. absurd (a.plain b.before b.first.0)) (λ b. token_fault_one file (chars text) r s a.fault b.fault) y) g)
    x)
    f
