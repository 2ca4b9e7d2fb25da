-- What stands in a text that ends with a line feed stands there when more text follows.
use Rattle.std.proofs.Common.{◌≡◌, ℕ, Bool, true, ◌⊎◌, inl, inr, ⊎_elim, List, [], ◌∷◌, ◌++◌, length, refl, sym, ap, ◌∙◌, subst, append_assoc}
use Rattle.std.proofs.lemmas.Bool.{cases_lt, false≢true}
use Rattle.std.proofs.lemmas.List.{append-nil}
use Rattle.jn_lexer.specs.Characters.{is_line_end, is_in_line, AllAre, BeginsOnly, BeginsNot}
use Rattle.jn_lexer.specs.Gaps.{Blank, Space, Line, Block, blank_text, IsBlank, IsNextClose, gap_text, IsGap}
use Rattle.jn_lexer.specs.Lexemes.{IsSpelling, NoneLonger, hinders}
use Rattle.jn_lexer.specs.Pieces.{Piece, Stands, Behind}
use Rattle.jn_lexer.proofs.Standing.{some_spelling}
use Rattle.jn_lex_shared.specs.Cut.{EndsLine}
use Rattle.jn_lex_shared.proofs.Feeds.{not_feed, all_no_feed, in_line_10, no_feed}
use Rattle.jn_lexer.proofs.Shifting.{close_before}

-- the end of two texts is the end of the second, or the second is empty and it is that of the first
end_of : (xs ys before : List ℕ) → xs ++ ys ≡ before ++ 10 ∷ [] → EndsLine ys ⊎ ((ys ≡ []) × EndsLine xs)
end_of [] ys before e = inl (before, e)
end_of (x ∷ xs) ys [] e = inr (none_behind xs ys (let t : xs ++ ys ≡ [] = cc in t), ([], let h : x ≡ 10 = cc in subst (λ l. x ∷ l ≡ 10 ∷ []) (sym (none_front xs ys (let t : xs ++ ys ≡ [] = cc in t))) (ap (λ z. z ∷ []) h)))
  where
    none_front : (xs ys : List ℕ) → xs ++ ys ≡ [] → xs ≡ []
    none_front [] ys e = refl
    none_front (x ∷ xs) ys e = cc

    none_behind : (xs ys : List ℕ) → xs ++ ys ≡ [] → ys ≡ []
    none_behind [] ys e = e
    none_behind (x ∷ xs) ys e = cc
end_of (x ∷ xs) ys (b ∷ before) e =
    let tail : xs ++ ys ≡ before ++ 10 ∷ [] = cc in
    let head : x ≡ b = cc in
    ⊎_elim inl (λ r. inr (r.0, (b ∷ r.1.0, ap (λ z. z ∷ xs) head ∙ ap (λ l. b ∷ l) r.1.1))) (end_of xs ys before tail)

-- what has no line feed doesn't end with one
no_end : (xs : List ℕ) → AllAre not_feed xs → EndsLine xs → ⊥
no_end xs h e = here e.0 (subst (AllAre not_feed) e.1 h)
  where
    here : (before : List ℕ) → AllAre not_feed (before ++ 10 ∷ []) → ⊥
    here [] h = false≢true h.0
    here (b ∷ before) h = here before h.1

ends_on : (xs ys : List ℕ) → EndsLine ys → EndsLine (xs ++ ys)
ends_on xs ys e = (xs ++ e.0, ap (λ l. xs ++ l) e.1 ∙ sym (append_assoc xs e.0 (10 ∷ [])))

-- what the text begins with it begins with before more text
module _ (p : ℕ → Bool) (more : List ℕ) where
  begins_only_on : (text : List ℕ) → EndsLine text → BeginsOnly p text → BeginsOnly p (text ++ more)
  begins_only_on [] e h = absurd (no_end [] tt e)
  begins_only_on (c ∷ cs) e h = h

  begins_not_on : (text : List ℕ) → EndsLine text → BeginsNot p text → BeginsNot p (text ++ more)
  begins_not_on [] e h = absurd (no_end [] tt e)
  begins_not_on (c ∷ cs) e h = h

-- a word without line feeds at the front stands before the text's last line feed
word_before : (word rest before more : List ℕ) → before ++ 10 ∷ more ≡ word ++ rest → AllAre not_feed word → (left : List ℕ) × (before ++ 10 ∷ [] ≡ word ++ left)
word_before [] rest before more e h = (before ++ 10 ∷ [], refl)
word_before (w ∷ word) rest [] more e h = absurd (let same : w ≡ 10 = cc in false≢true (subst (λ c. not_feed c ≡ true) same h.0))
word_before (w ∷ word) rest (b ∷ before) more e h =
    let tail : before ++ 10 ∷ more ≡ word ++ rest = cc in
    let head : b ≡ w = cc in
    let r = word_before word rest before more tail h.1 in
    (r.0, ap (λ z. z ∷ (before ++ 10 ∷ [])) head ∙ ap (λ l. w ∷ l) r.1)

none_longer_on : (n : ℕ) (text more : List ℕ) → EndsLine text → NoneLonger n text → NoneLonger n (text ++ more)
none_longer_on n text more e h l word rest is spelled =
    let cut : e.0 ++ 10 ∷ more ≡ word ++ rest = sym (append_assoc e.0 (10 ∷ []) more) ∙ ap (λ t. t ++ more) (sym e.1) ∙ is in
    let r = word_before word rest e.0 more cut (no_feed l word spelled) in
    h l word r.0 (e.1 ∙ r.1) spelled

next_close_on : (inside text more : List ℕ) → IsNextClose inside text → IsNextClose inside (text ++ more)
next_close_on inside text more h shorter tail is =
    ⊎_elim (λ lt. let r = close_before inside text more shorter tail is lt in h shorter r.0 r.1) (λ le. le) (cases_lt (length shorter) (length inside))

blank_on : (b : Blank) (text more : List ℕ) → EndsLine text → IsBlank b text → IsBlank b (text ++ more)
blank_on (Space c) text more e h = h
blank_on (Line inside) text more e h = (h.0, begins_only_on is_line_end more text e h.1)
blank_on (Block inside) text more e h = next_close_on inside text more h

gap_on : (bs : List Blank) (text more : List ℕ) → EndsLine text → IsGap bs text → IsGap bs (text ++ more)
gap_on [] text more e g = tt
gap_on (b ∷ bs) text more e g =
    (subst (IsBlank b) (append_assoc (gap_text bs) text more) (blank_on b (gap_text bs ++ text) more (ends_on (gap_text bs) text e) g.0), gap_on bs text more e g.1)

-- a gap that is at the text's end, and ends with a line feed, goes on before any text
no_gap : (bs : List Blank) → gap_text bs ≡ [] → (text : List ℕ) → IsGap bs text
no_gap [] e text = tt
no_gap (Space c ∷ bs) e text = cc
no_gap (Line inside ∷ bs) e text = cc
no_gap (Block inside ∷ bs) e text = cc

last_blank : (b : Blank) (text : List ℕ) → IsBlank b [] → EndsLine (blank_text b) → IsBlank b text
last_blank (Space c) text h e = h
last_blank (Line inside) text h e = absurd (no_end (47 ∷ 47 ∷ inside) (refl, (refl, all_no_feed is_in_line inside in_line_10 h.0)) e)
last_blank (Block inside) text h e = next_close_on inside [] text h

pub last_gap : (bs : List Blank) (text : List ℕ) → EndsLine (gap_text bs) → IsGap bs [] → IsGap bs text
last_gap [] text e g = tt
last_gap (b ∷ bs) text e g =
    let here : IsBlank b (gap_text bs) = subst (IsBlank b) (append-nil (gap_text bs)) g.0 in
    ⊎_elim
    (λ l. (blank_on b (gap_text bs) text l here, last_gap bs text l g.1))
    (λ r. (subst (λ t. IsBlank b (t ++ text)) (sym r.0) (last_blank b text (subst (IsBlank b) r.0 here) r.1), no_gap bs r.0 text))
    (end_of (blank_text b) (gap_text bs) e.0 e.1)

-- what follows a token ends with the line feed
after_ends : (text : List ℕ) (at : ℕ) (p : Piece) (after : List ℕ) → Stands text at p after → EndsLine text → EndsLine after
after_ends text at p after s e =
    ⊎_elim
    (λ a. ⊎_elim (λ b. b) (λ b. absurd (no_end s.word (no_feed p.lexeme s.word s.spelled) b.1)) (end_of s.word after a.0 a.1))
    (λ a. absurd (some_spelling p.lexeme (subst (IsSpelling p.lexeme) (empty s.word after a.0) s.spelled)))
    (end_of (gap_text s.blanks) (s.word ++ after) e.0 (sym s.is ∙ e.1))
  where
    empty : (word after : List ℕ) → word ++ after ≡ [] → word ≡ []
    empty [] after e = refl
    empty (w ∷ word) after e = cc

stands_on : (text more : List ℕ) (at : ℕ) (p : Piece) (after : List ℕ) → Stands text at p after → EndsLine text → Stands (text ++ more) at p (after ++ more)
stands_on text more at p after s e =
    let ends = after_ends text at p after s e in
    let whole = ends_on s.word after ends in
    let same : (s.word ++ after) ++ more ≡ s.word ++ (after ++ more) = append_assoc s.word after more in
    record {
      blanks = s.blanks;
      word = s.word;
      is = ap (λ t. t ++ more) s.is ∙ append_assoc (gap_text s.blanks) (s.word ++ after) more ∙ ap (λ t. gap_text s.blanks ++ t) same;
      gap = subst (IsGap s.blanks) same (gap_on s.blanks (s.word ++ after) more whole s.gap);
      from = s.from;
      to = s.to;
      spelled = s.spelled;
      free = begins_not_on (hinders p.lexeme) more after ends s.free;
      longest = subst (NoneLonger (length s.word)) same (none_longer_on (length s.word) (s.word ++ after) more whole s.longest);
    }

-- so do all tokens of the text, and what is after them ends with the line feed
pub behind_on : (text more : List ℕ) (at : ℕ) (ps : List Piece) (rest : List ℕ) (place : ℕ) → Behind text at ps rest place → EndsLine text → Behind (text ++ more) at ps (rest ++ more) place × EndsLine rest
behind_on text more at [] rest place b e = ((ap (λ t. t ++ more) b.0, b.1), subst EndsLine (sym b.0) e)
behind_on text more at (p ∷ ps) rest place b e =
    let ends = after_ends text at p b.0 b.1 e in
    let r = behind_on b.0 more p.to ps rest place b.2 ends in
    ((b.0 ++ more, stands_on text more at p b.0 b.1 e, r.0), r.1)
