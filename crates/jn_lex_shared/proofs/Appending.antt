-- Two texts, one after the other, have the tokens of the first and then those of the second, where the first ends with a line feed.
use Rattle.std.proofs.Common.{◌≡◌, ℕ, zero, suc, ◌+◌, ◌%◌, ◌⊎◌, inl, inr, ⊎_elim, List, [], ◌∷◌, ◌++◌, length, cond, refl, sym, ap, ◌∙◌, subst, arith, append_assoc, take, Bool, false, lit<}
use Rattle.std.specs.Prelude.{nat_eq, IsUtf8, IsAscii, chars, reverse}
use Rattle.std.specs.List.{prefix_len, suffix_len}
use Rattle.std.proofs.lemmas.Bool.{false≢true}
use Rattle.std.proofs.lemmas.List.{reverse-append, take_at}
use Rattle.std.proofs.lemmas.Str.{IsUtf8-append, IsUtf8-take, IsUtf8-from_ascii, IsCharBoundary-at_seam, chars-append, chars-IsAscii}
use Rattle.jn_base.specs.declared.number.FileNo.{FileNo}
use Rattle.jn_trees.specs.declared.token.Token.{Token}
use Rattle.jn_lexer.specs.Characters.{width}
use Rattle.jn_lexer.specs.Gaps.{gap_text, IsGap}
use Rattle.jn_lexer.specs.Pieces.{Piece, Behind, ArePieces}
use Rattle.jn_lexer.specs.Faults.{is_backslash, HasNoUnicodeEscape}
use Rattle.jn_lexer.specs.Lexed.{names_with, names_after, tokens_of, Lexed}
use Rattle.jn_lexer.proofs.Widths.{width-append, width-chars}
use Rattle.jn_lexer.specs.Moved.{moved}
use Rattle.jn_lex_shared.specs.Cut.{EndsLine}
use Rattle.jn_lex_shared.proofs.Followed.{behind_on, last_gap}
use Rattle.jn_lexer.specs.Shifted.{shifted}
use Rattle.jn_lexer.proofs.Shifting.{AllPieces, behind_gap, all_behind}

-- ---- pieces

-- where what is after the pieces begins
rest_place : (text : List ℕ) (at : ℕ) (ps : List Piece) (rest : List ℕ) (place : ℕ) → Behind text at ps rest place → place + width rest ≡ at + width text
rest_place text at [] rest place b = let w = ap width b.0 in let p = b.1 in omega (arith, w, p)
rest_place text at (p ∷ ps) rest place b =
    let s = b.1 in
    let after = rest_place b.0 p.to ps rest place b.2 in
    let one = ap width s.is ∙ width-append (gap_text s.blanks) (s.word ++ b.0) in
    let two = width-append s.word b.0 in
    let from = s.from in
    let to = s.to in
    omega (arith, after, one, two, from, to)

pieces_append : (front back : List ℕ) (ps qs : List Piece) → EndsLine front → ArePieces front ps → ArePieces back qs → ArePieces (front ++ back) (ps ++ shifted (width front) qs)
pieces_append front back ps qs e f b =
    let on = behind_on front back 0 ps f.rest f.place f.behind e in
    let place = rest_place front 0 ps f.rest f.place f.behind in
    let wide = ap width f.is in
    let goes_on : IsGap f.blanks back = last_gap f.blanks back (subst EndsLine f.is on.1) f.gap in
    let seam : AllPieces (gap_text f.blanks ++ back) f.place (shifted (width front) qs) = behind_gap f.blanks back f.place (width front) qs goes_on (omega (arith, place, wide)) b in
    let all = all_behind (front ++ back) 0 ps (shifted (width front) qs) (f.rest ++ back) f.place on.0 (subst (λ t. AllPieces (t ++ back) f.place (shifted (width front) qs)) (sym f.is) seam) in
    record { rest = all.rest; place = all.place; behind = all.behind; blanks = all.blanks; is = all.is; gap = all.gap }

-- ---- tokens and names

names_append : (old : List (List ℕ)) (ps : List Piece) (by : ℕ) (qs : List Piece) → names_after old (ps ++ shifted by qs) ≡ names_after (names_after old ps) qs
names_append old [] by [] = refl
names_append old [] by (q ∷ qs) = names_append (names_with old q.lexeme) [] by qs
names_append old (p ∷ ps) by qs = names_append (names_with old p.lexeme) ps by qs

tokens_append : (file : FileNo) (old : List (List ℕ)) (ps : List Piece) (by : ℕ) (qs : List Piece) → tokens_of file old (ps ++ shifted by qs) ≡ tokens_of file old ps ++ moved by (tokens_of file (names_after old ps) qs)
tokens_append file old [] by [] = refl
tokens_append file old [] by (q ∷ qs) = cc (tokens_append file (names_with old q.lexeme) [] by qs)
tokens_append file old (p ∷ ps) by qs = cc (tokens_append file (names_with old p.lexeme) ps by qs)

-- ---- escapes

-- an escape is in one of the two
escape_in : (before back : List ℕ) (done after : List ℕ) → before ++ 10 ∷ back ≡ done ++ 92 ∷ 117 ∷ after → ((left : List ℕ) × (before ++ 10 ∷ [] ≡ done ++ 92 ∷ 117 ∷ left)) ⊎ ((later : List ℕ) × (done ≡ (before ++ 10 ∷ []) ++ later) × (back ≡ later ++ 92 ∷ 117 ∷ after))
escape_in [] back [] after e = absurd (let same : ◌≡◌ {A = ℕ} 10 92 = cc in false≢true (ap (nat_eq 92) same))
escape_in [] back (d ∷ done) after e =
    let head : d ≡ 10 = cc in
    let tail : back ≡ done ++ 92 ∷ 117 ∷ after = cc in
    inr (done, ap (λ z. z ∷ done) head, tail)
escape_in (b ∷ []) back [] after e = absurd (let same : ◌≡◌ {A = ℕ} 10 117 = cc in false≢true (ap (nat_eq 117) same))
escape_in (b ∷ c ∷ before) back [] after e =
    let one : b ≡ 92 = cc in
    let two : c ≡ 117 = cc in
    inl (before ++ 10 ∷ [], cc)
escape_in (b ∷ before) back (d ∷ done) after e =
    let head : b ≡ d = cc in
    let tail : before ++ 10 ∷ back ≡ done ++ 92 ∷ 117 ∷ after = cc in
    ⊎_elim
    (λ l. inl (l.0, ap (λ z. z ∷ (before ++ 10 ∷ [])) head ∙ ap (λ t. d ∷ t) l.1))
    (λ r. inr (r.0, ap (λ z. z ∷ done) (sym head) ∙ ap (λ t. b ∷ t) r.1, r.2))
    (escape_in before back done after tail)

-- backslashes at the end don't go over the line feed
prefix_before : (p : ℕ → Bool) (xs ys : List ℕ) (y : ℕ) → p y ≡ false → prefix_len p (xs ++ y ∷ ys) ≡ prefix_len p xs
prefix_before p [] ys y e = ap (λ b. cond b (1 + prefix_len p ys) 0) e
prefix_before p (x ∷ xs) ys y e = ap (λ n. cond (p x) (1 + n) 0) (prefix_before p xs ys y e)

no_slash_over : (before later : List ℕ) → suffix_len is_backslash ((before ++ 10 ∷ []) ++ later) ≡ suffix_len is_backslash later
no_slash_over before later =
    ap (prefix_len is_backslash) (reverse-append (before ++ 10 ∷ []) later ∙ ap (λ t. reverse later ++ t) (reverse-append before (10 ∷ [])))
    ∙ prefix_before is_backslash (reverse later) (reverse before) 10 refl

no_escape_append : (front back : List ℕ) → EndsLine front → HasNoUnicodeEscape front → HasNoUnicodeEscape back → HasNoUnicodeEscape (front ++ back)
no_escape_append front back e f b done escape =
    let cut : e.0 ++ 10 ∷ back ≡ done ++ 92 ∷ 117 ∷ escape.0 = sym (append_assoc e.0 (10 ∷ []) back) ∙ ap (λ t. t ++ back) (sym e.1) ∙ escape.1 in
    ⊎_elim
    (λ l. f done (l.0, e.1 ∙ l.1, escape.2))
    (λ r. b r.0 (escape.0, r.2, subst (λ n. n % 2 ≡ 0) (ap (suffix_len is_backslash) r.1 ∙ no_slash_over e.0 r.0) escape.2))
    (escape_in e.0 back done escape.0 cut)

-- ---- characters

feed_ascii : IsAscii (10 ∷ [])
feed_ascii zero = lit< tt
feed_ascii (suc i) = lit< tt

-- the characters of a text that ends with a line feed end with one
chars_end : (text : List ℕ) → IsUtf8 text → EndsLine text → EndsLine (chars text)
chars_end text u e =
    let cut = IsCharBoundary-at_seam text e.0 (10 ∷ []) e.1 (IsUtf8-from_ascii (10 ∷ []) feed_ascii) in
    let before : IsUtf8 e.0 = subst IsUtf8 (ap (take (length e.0)) e.1 ∙ take_at e.0 (10 ∷ []) (length e.0) refl) (IsUtf8-take text (length e.0) u cut) in
    (chars e.0, ap chars e.1 ∙ chars-append e.0 (10 ∷ []) before ∙ ap (λ t. chars e.0 ++ t) (chars-IsAscii (10 ∷ []) feed_ascii))

-- ---- texts

pub lexed_append : (file : FileNo) (front back : List ℕ) (old names new : List (List ℕ)) (ts us : List Token) → EndsLine front → Lexed file front old ts names → Lexed file back names us new → Lexed file (front ++ back) old (ts ++ moved (length front) us) new
lexed_append file front back old names new ts us e f b =
    let both : chars (front ++ back) ≡ chars front ++ chars back = chars-append front back f.utf8 in
    let ends = chars_end front f.utf8 e in
    let wide : width (chars front) ≡ length front = width-chars front f.utf8 in
    let pieces = pieces_append (chars front) (chars back) f.pieces b.pieces ends f.are b.are in
    record {
      utf8 = IsUtf8-append front back f.utf8 b.utf8;
      plain = subst HasNoUnicodeEscape (sym both) (no_escape_append (chars front) (chars back) ends f.plain b.plain);
      pieces = f.pieces ++ shifted (length front) b.pieces;
      are = subst (λ t. ArePieces t (f.pieces ++ shifted (length front) b.pieces)) (sym both) (subst (λ n. ArePieces (chars front ++ chars back) (f.pieces ++ shifted n b.pieces)) wide pieces);
      tokens_are = cc (tokens_append file old f.pieces (length front) b.pieces, f.names_are, f.tokens_are, b.tokens_are);
      names_are = cc (names_append old f.pieces (length front) b.pieces, f.names_are, b.names_are);
    }
