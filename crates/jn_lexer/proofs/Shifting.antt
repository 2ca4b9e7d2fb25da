-- Pieces after a gap and further on, one list of them after another, and where a comment first closes.
use Rattle.std.proofs.Common.{◌≡◌, ◌<◌, ℕ, ◌+◌, List, [], ◌∷◌, ◌++◌, length, refl, sym, ap, ◌∙◌, subst, arith, append_assoc}
use Rattle.std.specs.Prelude.{nat_eq}
use Rattle.std.proofs.lemmas.Bool.{false≢true}
use Rattle.std.proofs.lemmas.List.{append-nil}
use Rattle.jn_lexer.specs.Characters.{width}
use Rattle.jn_lexer.specs.Gaps.{Blank, blank_text, gap_text, IsBlank, IsGap}
use Rattle.jn_lexer.specs.Pieces.{Piece, Stands, Behind, ArePieces}
use Rattle.jn_lexer.specs.Shifted.{shifted_piece, shifted}
use Rattle.jn_lexer.proofs.Widths.{width-append}

pub gap_text-append : (bs cs : List Blank) → gap_text (bs ++ cs) ≡ gap_text bs ++ gap_text cs
gap_text-append [] cs = refl
gap_text-append (b ∷ bs) cs = ap (λ t. blank_text b ++ t) (gap_text-append bs cs) ∙ sym (append_assoc (blank_text b) (gap_text bs) (gap_text cs))

pub gap_append : (bs cs : List Blank) (text : List ℕ) → IsGap bs (gap_text cs ++ text) → IsGap cs text → IsGap (bs ++ cs) text
gap_append [] cs text g h = h
gap_append (b ∷ bs) cs text g h =
    let same : gap_text bs ++ (gap_text cs ++ text) ≡ gap_text (bs ++ cs) ++ text = sym (append_assoc (gap_text bs) (gap_text cs) text) ∙ ap (λ t. t ++ text) (sym (gap_text-append bs cs)) in
    (subst (IsBlank b) same g.0, gap_append bs cs text g.1 h)

pub stands_behind : (bs : List Blank) (text : List ℕ) (at place by : ℕ) (p : Piece) (after : List ℕ) → IsGap bs text → place + width (gap_text bs) ≡ by + at → Stands text at p after → Stands (gap_text bs ++ text) place (shifted_piece by p) after
stands_behind bs text at place by p after g same s =
    let both = gap_text-append bs s.blanks in
    let wide : width (gap_text (bs ++ s.blanks)) ≡ width (gap_text bs) + width (gap_text s.blanks) = ap width both ∙ width-append (gap_text bs) (gap_text s.blanks) in
    let from = s.from in
    let to = s.to in
    record {
      blanks = bs ++ s.blanks;
      word = s.word;
      is = ap (λ t. gap_text bs ++ t) s.is ∙ sym (append_assoc (gap_text bs) (gap_text s.blanks) (s.word ++ after)) ∙ ap (λ t. t ++ (s.word ++ after)) (sym both);
      gap = gap_append bs s.blanks (s.word ++ after) (subst (IsGap bs) s.is g) s.gap;
      from = omega (arith, from, same, wide);
      to = omega (arith, to);
      spelled = s.spelled;
      free = s.free;
      longest = s.longest;
    }

pub behind_shifted : (text : List ℕ) (at place by : ℕ) (ps : List Piece) (rest : List ℕ) (last : ℕ) → place ≡ by + at → Behind text at ps rest last → Behind text place (shifted by ps) rest (by + last)
behind_shifted text at place by [] rest last same b = (b.0, ap (λ n. by + n) b.1 ∙ sym same)
behind_shifted text at place by (p ∷ ps) rest last same b =
    (b.0, stands_behind [] text at place by p b.0 tt (let none = width-nil in omega (arith, none, same)) b.1, behind_shifted b.0 p.to (by + p.to) by ps rest last refl b.2)
  where
    width-nil : width [] ≡ 0
    width-nil = refl

-- the pieces of a text whose first byte is `at`, with only white space and comments after them
pub record AllPieces (text : List ℕ) (at : ℕ) (ps : List Piece) : Type 0 where
  pub rest : List ℕ
  pub place : ℕ
  pub behind : Behind text at ps rest place
  pub blanks : List Blank
  pub is : rest ≡ gap_text blanks
  pub gap : IsGap blanks []

pub behind_gap : (bs : List Blank) (text : List ℕ) (place by : ℕ) (ps : List Piece) → IsGap bs text → place + width (gap_text bs) ≡ by → ArePieces text ps → AllPieces (gap_text bs ++ text) place (shifted by ps)
behind_gap bs text place by [] g same h =
    let whole : text ≡ gap_text h.blanks = sym h.behind.0 ∙ h.is in
    record {
      rest = gap_text bs ++ text;
      place = place;
      behind = (refl, refl);
      blanks = bs ++ h.blanks;
      is = ap (λ t. gap_text bs ++ t) whole ∙ sym (gap_text-append bs h.blanks);
      gap = gap_append bs h.blanks [] (subst (IsGap bs) (whole ∙ sym (append-nil (gap_text h.blanks))) g) h.gap;
    }
behind_gap bs text place by (p ∷ ps) g same h = record {
  rest = h.rest;
  place = by + h.place;
  behind = (h.behind.0, stands_behind bs text 0 place by p h.behind.0 g (omega (arith, same)) h.behind.1, behind_shifted h.behind.0 p.to (by + p.to) by ps h.rest h.place refl h.behind.2);
  blanks = h.blanks;
  is = h.is;
  gap = h.gap;
}

pub all_behind : (text : List ℕ) (at : ℕ) (ps qs : List Piece) (rest : List ℕ) (place : ℕ) → Behind text at ps rest place → AllPieces rest place qs → AllPieces text at (ps ++ qs)
all_behind text at [] qs rest place b h = subst (λ n. AllPieces text n qs) b.1 (subst (λ t. AllPieces t place qs) b.0 h)
all_behind text at (p ∷ ps) qs rest place b h =
    let r = all_behind b.0 p.to ps qs rest place b.2 h in
    record { rest = r.rest; place = r.place; behind = (b.0, b.1, r.behind); blanks = r.blanks; is = r.is; gap = r.gap }

-- a close before the first one stands in the comment and its close
pub close_before : (inside text more shorter tail : List ℕ) → inside ++ 42 ∷ 47 ∷ (text ++ more) ≡ shorter ++ 42 ∷ 47 ∷ tail → length shorter < length inside → (left : List ℕ) × (inside ++ 42 ∷ 47 ∷ text ≡ shorter ++ 42 ∷ 47 ∷ left)
close_before [] text more shorter tail e lt = absurd (omega arith)
close_before (c ∷ []) text more [] tail e lt = absurd (let same : ◌≡◌ {A = ℕ} 42 47 = cc in false≢true (ap (nat_eq 47) same))
close_before (c ∷ d ∷ inside) text more [] tail e lt =
    let one : c ≡ 42 = cc in
    let two : d ≡ 47 = cc in
    (inside ++ 42 ∷ 47 ∷ text, cc)
close_before (c ∷ inside) text more (s ∷ shorter) tail e lt =
    let rest : inside ++ 42 ∷ 47 ∷ (text ++ more) ≡ shorter ++ 42 ∷ 47 ∷ tail = cc in
    let head : c ≡ s = cc in
    let r = close_before inside text more shorter tail rest (omega arith) in
    (r.0, ap (λ z. z ∷ (inside ++ 42 ∷ 47 ∷ text)) head ∙ ap (λ l. s ∷ l) r.1)
