-- A text has at most one token for each of its bytes, and adds at most one name for each token.
use Rattle.std.proofs.Common.{◌≡◌, ℕ, suc, ◌+◌, ◌<◌, ◌≤◌, true, List, [], ◌∷◌, ◌++◌, length, refl, ap, ◌∙◌, arith, length-append}
use Rattle.std.specs.Prelude.{chars, IsUtf8}
use Rattle.std.proofs.lemmas.Str.{encodes-chars, length-le-encodes}
use Rattle.jn_base.specs.declared.number.FileNo.{FileNo}
use Rattle.jn_trees.specs.declared.token.Token.{Token}
use Rattle.jn_lexer.specs.Gaps.{gap_text}
use Rattle.jn_lexer.specs.Lexemes.{Lexeme, Word, Quoted, Numeral, Fixed, IsSpelling, is_decimal}
use Rattle.jn_lexer.specs.Pieces.{Piece, Stands, Behind}
use Rattle.jn_lexer.specs.Lexed.{Lexed, tokens_of, names_after, names_with}
use Rattle.jn_lexer.proofs.Reading.{one_more}

not_decimal : is_decimal [] ≡ true → ⊥
unfolding is_decimal
not_decimal h = cc

decimal_some : (word : List ℕ) → is_decimal word ≡ true → 0 < length word
decimal_some [] h = absurd (not_decimal h)
decimal_some (c ∷ cs) h = omega arith

spelled_some : (l : Lexeme) (word : List ℕ) → IsSpelling l word → 0 < length word
spelled_some (Word text) [] h = absurd h.1
spelled_some (Word text) (c ∷ cs) h = omega arith
spelled_some (Quoted value) word h = let l = ap length h.is in omega (arith, l)
spelled_some (Numeral value) word h = decimal_some word h.0
spelled_some (Fixed kind) word h = omega (arith, h.1)

stands_shorter : (text : List ℕ) (at : ℕ) (p : Piece) (after : List ℕ) → Stands text at p after → length after < length text
stands_shorter text at p after h =
    let some = spelled_some p.lexeme h.word h.spelled in
    let whole = ap length h.is in
    let one = length-append (gap_text h.blanks) (h.word ++ after) in
    let two = length-append h.word after in
    omega (arith, some, whole, one, two)

few_behind : (text : List ℕ) (at : ℕ) (ps : List Piece) (rest : List ℕ) (place : ℕ) → Behind text at ps rest place → length ps ≤ length text
few_behind text at [] rest place h = omega arith
few_behind text at (p ∷ ps) rest place h =
    let short = stands_shorter text at p h.0 h.1 in
    let more = few_behind h.0 p.to ps rest place h.2 in
    omega (arith, short, more)

few_chars : (text : List ℕ) → IsUtf8 text → length (chars text) ≤ length text
few_chars text u = let l = length-le-encodes (chars text) in let same = ap length (encodes-chars text u) in omega (arith, l, same)

length-tokens : (file : FileNo) (names : List (List ℕ)) (ps : List Piece) → length (tokens_of file names ps) ≡ length ps
length-tokens file names [] = refl
length-tokens file names (p ∷ ps) = ap suc (length-tokens file (names_with names p.lexeme) ps)

few_after : (names : List (List ℕ)) (ps : List Piece) → length (names_after names ps) ≤ length names + length ps
few_after names [] = omega arith
few_after names (p ∷ ps) = let more = few_after (names_with names p.lexeme) ps in let one = one_more names p.lexeme in omega (arith, more, one)

few_pieces : (file : FileNo) (text : List ℕ) (old : List (List ℕ)) (tokens : List Token) (new : List (List ℕ)) (h : Lexed file text old tokens new) → length h.pieces ≤ length text
few_pieces file text old tokens new h =
    let few = few_behind (chars text) 0 h.pieces h.are.rest h.are.place h.are.behind in
    let short = few_chars text h.utf8 in
    omega (arith, few, short)

pub few_tokens : (file : FileNo) (text : List ℕ) (old : List (List ℕ)) (tokens : List Token) (new : List (List ℕ)) → Lexed file text old tokens new → length tokens ≤ length text
few_tokens file text old tokens new h =
    let few = few_pieces file text old tokens new h in
    let same = ap length h.tokens_are ∙ length-tokens file old h.pieces in
    omega (arith, few, same)

pub few_names : (file : FileNo) (text : List ℕ) (old : List (List ℕ)) (tokens : List Token) (new : List (List ℕ)) → Lexed file text old tokens new → length new ≤ length old + length text
few_names file text old tokens new h =
    let few = few_pieces file text old tokens new h in
    let same = ap length h.names_are in
    let more = few_after old h.pieces in
    omega (arith, few, same, more)
