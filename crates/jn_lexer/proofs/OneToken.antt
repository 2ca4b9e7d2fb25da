-- One token stands at a place.
use Rattle.std.proofs.Common.{◌≡◌, ℕ, ◌+◌, ◌≤◌, true, false, ◌&&◌, ◌||◌, ⊎_elim, List, [], ◌∷◌, ◌++◌, length, Option, Some, refl, sym, ap, ◌∙◌, subst, arith}
use Rattle.std.specs.Prelude.{nat_eq}
use Rattle.std.proofs.lemmas.Bool.{eqb-true, eq-eqb}
use Rattle.jn_trees.specs.declared.token.TokenKind.{TokenKind}
use Rattle.jn_lexer.specs.Characters.{is_white, is_start, is_digit, is_plain, BeginsNot, width}
use Rattle.jn_lexer.specs.Gaps.{gap_text}
use Rattle.jn_lexer.specs.Lexemes.{Lexeme, Word, Quoted, Numeral, Fixed, IsSpelling, hinders, Part, Plain, Escape, inside, AreParts, Mean}
use Rattle.jn_lexer.specs.Pieces.{Piece, Stands, Behind}
use Rattle.jn_lexer.specs.Scan.{begins_mark, begins_blank}
use Rattle.jn_lexer.proofs.Lists.{same_front}
use Rattle.jn_lexer.proofs.Classes.{white_is, white_start, white_digit, digit_bounds, digit_start, quote_start, quote_digit, mark_digit, mark_quote, slash_start, not_both, not_true}
use Rattle.jn_lexer.proofs.Tables.{pair_blank, single_blank, one_kind}
use Rattle.jn_lexer.proofs.Standing.{first, some_spelling}
use Rattle.jn_lexer.proofs.Quotes.{plain_is}
use Rattle.jn_lexer.proofs.OneGap.{NotBlank, gap_one, front_one, not_blank}

-- strings

plain_34 : (c : ℕ) → is_plain c ≡ true → c ≡ 34 → ⊥
plain_34 c h e = not_both _ (eq-eqb c 34 e) (plain_is c h).0

plain_92 : (c : ℕ) → is_plain c ≡ true → c ≡ 92 → ⊥
plain_92 c h e = not_both _ (eq-eqb c 92 e) (plain_is c h).1

pub parts_one : (ps qs : List Part) (a b : List ℕ) → inside ps ++ 34 ∷ a ≡ inside qs ++ 34 ∷ b → AreParts ps → AreParts qs → (ps ≡ qs) × (a ≡ b)
parts_one [] [] a b e g h = (refl, cc)
parts_one [] (Plain c ∷ qs) a b e g h = absurd (plain_34 c h.0 cc)
parts_one [] (Escape c ∷ qs) a b e g h = absurd (let f : ◌≡◌ {A = ℕ} 34 92 = cc in omega arith)
parts_one (Plain c ∷ ps) [] a b e g h = absurd (plain_34 c g.0 cc)
parts_one (Escape c ∷ ps) [] a b e g h = absurd (let f : ◌≡◌ {A = ℕ} 92 34 = cc in omega arith)
parts_one (Plain c ∷ ps) (Plain d ∷ qs) a b e g h =
    let head : c ≡ d = cc in
    let tail : inside ps ++ 34 ∷ a ≡ inside qs ++ 34 ∷ b = cc in
    let ih = parts_one ps qs a b tail g.1 h.1 in
    (ap (λ x. Plain x ∷ ps) head ∙ ap (λ xs. Plain d ∷ xs) ih.0, ih.1)
parts_one (Plain c ∷ ps) (Escape d ∷ qs) a b e g h = absurd (plain_92 c g.0 cc)
parts_one (Escape c ∷ ps) (Plain d ∷ qs) a b e g h = absurd (plain_92 d h.0 (let f : ◌≡◌ {A = ℕ} 92 d = cc in sym f))
parts_one (Escape c ∷ ps) (Escape d ∷ qs) a b e g h =
    let head : c ≡ d = cc in
    let tail : inside ps ++ 34 ∷ a ≡ inside qs ++ 34 ∷ b = cc in
    let ih = parts_one ps qs a b tail g.1 h.1 in
    (ap (λ x. Escape x ∷ ps) head ∙ ap (λ xs. Escape d ∷ xs) ih.0, ih.1)

mean_one : (ps : List Part) (v w : List ℕ) → Mean ps v → Mean ps w → v ≡ w
mean_one [] [] [] g h = refl
mean_one [] [] (w ∷ ws) g h = absurd h
mean_one [] (v ∷ vs) w g h = absurd g
mean_one (p ∷ ps) [] w g h = absurd g
mean_one (p ∷ ps) (v ∷ vs) [] g h = absurd h
mean_one (p ∷ ps) (v ∷ vs) (w ∷ ws) g h =
    let some : ◌≡◌ {A = Option ℕ} (Some v) (Some w) = sym g.0 ∙ h.0 in
    let head : v ≡ w = cc in
    ap (λ x. x ∷ vs) head ∙ ap (λ xs. w ∷ xs) (mean_one ps vs ws g.1 h.1)

-- what a fixed token's first character isn't
pub fixed_digit : (kind : TokenKind) (w : ℕ) (ws : List ℕ) → IsSpelling (Fixed kind) (w ∷ ws) → is_digit w ≡ true → ⊥
fixed_digit kind w ws h d = ⊎_elim (λ m. digit_start w d m.0) (λ m. mark_digit w m.0 d) (first (Fixed kind) w ws h)

pub fixed_quote : (kind : TokenKind) (w : ℕ) (ws : List ℕ) → IsSpelling (Fixed kind) (w ∷ ws) → w ≡ 34 → ⊥
fixed_quote kind w ws h q = ⊎_elim (λ m. quote_start w q m.0) (λ m. mark_quote w m.0 q) (first (Fixed kind) w ws h)

pub lexeme_one : (l m : Lexeme) (w : ℕ) (ws : List ℕ) → IsSpelling l (w ∷ ws) → IsSpelling m (w ∷ ws) → l ≡ m
lexeme_one (Word s) (Word t) w ws g h = ap Word (sym g.0 ∙ h.0)
lexeme_one (Word s) (Quoted v) w ws g h = absurd (quote_start w (first (Quoted v) w ws h) g.1.0)
lexeme_one (Word s) (Numeral v) w ws g h = absurd (digit_start w (first (Numeral v) w ws h) g.1.0)
lexeme_one (Word s) (Fixed k) w ws g h = absurd (g.2 k (sym h.0))
lexeme_one (Quoted v) (Word t) w ws g h = absurd (quote_start w (first (Quoted v) w ws g) h.1.0)
lexeme_one (Quoted v) (Quoted u) w ws g h =
    let e : 34 ∷ (inside g.parts ++ 34 ∷ []) ≡ 34 ∷ (inside h.parts ++ 34 ∷ []) = sym g.is ∙ h.is in
    let f : inside g.parts ++ 34 ∷ [] ≡ inside h.parts ++ 34 ∷ [] = cc in
    let p = parts_one g.parts h.parts [] [] f g.good h.good in
    ap Quoted (mean_one h.parts v u (subst (λ ps. Mean ps v) p.0 g.mean) h.mean)
lexeme_one (Quoted v) (Numeral u) w ws g h = absurd (quote_digit w (first (Quoted v) w ws g) (first (Numeral u) w ws h))
lexeme_one (Quoted v) (Fixed k) w ws g h = absurd (fixed_quote k w ws h (first (Quoted v) w ws g))
lexeme_one (Numeral v) (Word t) w ws g h = absurd (digit_start w (first (Numeral v) w ws g) h.1.0)
lexeme_one (Numeral v) (Quoted u) w ws g h = absurd (quote_digit w (first (Quoted u) w ws h) (first (Numeral v) w ws g))
lexeme_one (Numeral v) (Numeral u) w ws g h = ap Numeral (g.1 ∙ sym h.1)
lexeme_one (Numeral v) (Fixed k) w ws g h = absurd (fixed_digit k w ws h (first (Numeral v) w ws g))
lexeme_one (Fixed k) (Word t) w ws g h = absurd (h.2 k (sym g.0))
lexeme_one (Fixed k) (Quoted v) w ws g h = absurd (fixed_quote k w ws g (first (Quoted v) w ws h))
lexeme_one (Fixed k) (Numeral v) w ws g h = absurd (fixed_digit k w ws g (first (Numeral v) w ws h))
lexeme_one (Fixed k) (Fixed j) w ws g h = ap Fixed (one_kind k j (subst (λ s. 1 ≤ length s) g.0 (omega arith)) (sym g.0 ∙ h.0))

-- where a token stands no white space or comment begins
pub plain_first : (w : ℕ) (xs : List ℕ) → is_white w ≡ false → nat_eq w 47 ≡ false → begins_blank (w ∷ xs) ≡ false
plain_first w xs a b = ap (λ x. x || (nat_eq w 47 && begins_mark xs)) a ∙ ap (λ x. x && begins_mark xs) b

start_first : (w : ℕ) (xs : List ℕ) → is_start w ≡ true → begins_blank (w ∷ xs) ≡ false
start_first w xs s = plain_first w xs (not_true _ (λ h. white_start w h s)) (not_true _ (λ h. slash_start w (eqb-true w 47 h) s))

pub token_blank : (l : Lexeme) (word after : List ℕ) → IsSpelling l word → BeginsNot (hinders l) after → begins_blank (word ++ after) ≡ false
token_blank l [] after h f = absurd (some_spelling l h)
token_blank (Word t) (w ∷ ws) after h f = start_first w (ws ++ after) h.1.0
token_blank (Quoted v) (w ∷ ws) after h f = subst (λ x. begins_blank (x ∷ (ws ++ after)) ≡ false) (sym (first (Quoted v) w ws h)) (plain_first 34 (ws ++ after) (white_is 34 refl) refl)
token_blank (Numeral v) (w ∷ ws) after h f =
    let d = first (Numeral v) w ws h in
    let b = digit_bounds w d in
    plain_first w (ws ++ after) (not_true _ (λ e. white_digit w e d)) (not_true _ (λ e. let q = eqb-true w 47 e in absurd (omega arith)))
token_blank (Fixed k) (w ∷ ws) after h f =
    ⊎_elim (λ m. start_first w (ws ++ after) m.0)
    (λ m. ⊎_elim (λ p. subst (λ s. begins_blank (s ++ after) ≡ false) (sym h.0) (pair_blank k p after)) (λ p. subst (λ s. begins_blank (s ++ after) ≡ false) (sym h.0) (single_blank k p after f)) m.1)
    (first (Fixed k) w ws h)

pub stands_not_blank : (text : List ℕ) (at : ℕ) (p : Piece) (after : List ℕ) (s : Stands text at p after) → NotBlank (s.word ++ after)
stands_not_blank text at p after s = not_blank (s.word ++ after) (token_blank p.lexeme s.word after s.spelled s.free)

piece_same : (p q : Piece) → p.lexeme ≡ q.lexeme → p.from ≡ q.from → p.to ≡ q.to → p ≡ q
piece_same p q a b c = ap (λ l. piece l p.from p.to) a ∙ ap (λ n. piece q.lexeme n p.to) b ∙ ap (λ n. piece q.lexeme q.from n) c
  where
    piece : Lexeme → ℕ → ℕ → Piece
    piece l m n = record { lexeme = l; from = m; to = n }

pub stands_one : (text : List ℕ) (at : ℕ) (p q : Piece) (a b : List ℕ) → Stands text at p a → Stands text at q b → (p ≡ q) × (a ≡ b)
stands_one text at p q a b s t = (piece_same p q lexemes from (s.to ∙ ap (λ n. n + width s.word) from ∙ ap (λ xs. q.from + width xs) words.0 ∙ sym t.to), words.1)
  where
    bodies : s.word ++ a ≡ t.word ++ b
    bodies = gap_one s.blanks t.blanks (s.word ++ a) (t.word ++ b) (sym s.is ∙ t.is) s.gap t.gap (stands_not_blank text at p a s) (stands_not_blank text at q b t)

    gaps : gap_text s.blanks ≡ gap_text t.blanks
    gaps = front_one (gap_text s.blanks) (gap_text t.blanks) (s.word ++ a) (t.word ++ b) (sym s.is ∙ t.is) bodies

    words : (s.word ≡ t.word) × (a ≡ b)
    words =
        let l = s.longest q.lexeme t.word b bodies t.spelled in
        let m = t.longest p.lexeme s.word a (sym bodies) s.spelled in
        same_front s.word t.word a b bodies (omega arith)

    lexemes : p.lexeme ≡ q.lexeme
    lexemes = go s.word s.spelled (subst (IsSpelling q.lexeme) (sym words.0) t.spelled)
      where
        go : (xs : List ℕ) → IsSpelling p.lexeme xs → IsSpelling q.lexeme xs → p.lexeme ≡ q.lexeme
        go [] g h = absurd (some_spelling p.lexeme g)
        go (w ∷ ws) g h = lexeme_one p.lexeme q.lexeme w ws g h

    from : p.from ≡ q.from
    from = s.from ∙ ap (λ xs. at + width xs) gaps ∙ sym t.from

-- no token stands in the text after white space and comments
abbrev pub Stops : List ℕ → ℕ → Type 0
Stops rest place = (p : Piece) (after : List ℕ) → Stands rest place p after → ⊥

pub behind_one : (text : List ℕ) (at : ℕ) (ps qs : List Piece) (x y : List ℕ) (m n : ℕ) → Behind text at ps x m → Behind text at qs y n → Stops x m → Stops y n → (ps ≡ qs) × (x ≡ y) × (m ≡ n)
behind_one text at [] [] x y m n g h s t = (refl, g.0 ∙ sym h.0, g.1 ∙ sym h.1)
behind_one text at [] (q ∷ qs) x y m n g h s t = absurd (s q h.0 (subst (λ k. Stands x k q h.0) (sym g.1) (subst (λ xs. Stands xs at q h.0) (sym g.0) h.1)))
behind_one text at (p ∷ ps) [] x y m n g h s t = absurd (t p g.0 (subst (λ k. Stands y k p g.0) (sym h.1) (subst (λ xs. Stands xs at p g.0) (sym h.0) g.1)))
behind_one text at (p ∷ ps) (q ∷ qs) x y m n g h s t =
    let o = stands_one text at p q g.0 h.0 g.1 h.1 in
    let tail : Behind g.0 p.to qs y n = subst (λ xs. Behind xs p.to qs y n) (sym o.1) (subst (λ k. Behind h.0 k qs y n) (sym (ap (λ r. r.to) o.0)) h.2) in
    let ih = behind_one g.0 p.to ps qs x y m n g.2 tail s t in
    (ap (λ r. r ∷ ps) o.0 ∙ ap (λ rs. q ∷ rs) ih.0, ih.1, ih.2)
