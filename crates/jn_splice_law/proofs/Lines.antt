-- Imports of packages as pieces, before any text that is pieces.
use Rattle.std.proofs.Common.{◌≡◌, ℕ, ◌+◌, ◌≤◌, Bool, true, false, not, ◌||◌, ◌&&◌, ⊎_elim, List, [], ◌∷◌, ◌++◌, length, refl, sym, ap, ◌∙◌, subst, arith, append_assoc, lit<, length-append}
use Rattle.std.specs.Prelude.{nat_eq, codes, chars, encode_utf8_all}
use Rattle.std.specs.List.{list_all}
use Rattle.std.proofs.Math.Utf8.{scalars}
use Rattle.std.proofs.lemmas.Bool.{eqb-true, or_cases, false≢true, eq-eqb}
use Rattle.std.proofs.lemmas.List.{append-nil}
use Rattle.std.proofs.lemmas.Str.{encodes-append, encodes-chars, chars-encodes, scalars-chars}
use Rattle.jn_base.specs.declared.number.FileNo.{FileNo}
use Rattle.jn_trees.specs.Pieces.{kinds}
use Rattle.jn_trees.specs.declared.token.Token.{Token}
use Rattle.jn_trees.specs.declared.token.TokenKind.{TokenKind}
use Rattle.jn_trees.specs.declared.token.TokenKind.TheVariants.{Id, Import, Dot, Star, Semicolon}
use Rattle.jn_lexer.specs.Characters.{is_white, is_line_end, is_start, is_digit, is_part, AllAre, BeginsNot, width}
use Rattle.jn_lexer.specs.Faults.{HasNoUnicodeEscape}
use Rattle.jn_lexer.specs.Gaps.{Blank, Space, gap_text, IsGap}
use Rattle.jn_lexer.specs.Spelling.{spelling}
use Rattle.jn_lexer.specs.Lexemes.{Lexeme, Word, Quoted, Numeral, Fixed, IsSpelling, NoneLonger, hinders}
use Rattle.jn_lexer.specs.Pieces.{Piece, ArePieces}
use Rattle.jn_lexer.specs.Lexed.{Lexed, names_after, tokens_of}
use Rattle.jn_lexer.proofs.Classes.{start_ascii, part_ascii, digit_start, not_true}
use Rattle.jn_lexer.proofs.Standing.{first, start_parts}
use Rattle.jn_lexer.proofs.Widths.{width-append}
use Rattle.jn_splice_law.specs.Spliced.{is_seam, BeginsSeam, is_clean}
use Rattle.jn_splice_law.specs.Woven.{is_ascii, Note, rest_text, import_text, rest_kinds, import_kinds, IsNote, AreNotes, IsLineEnd}
use Rattle.jn_splice_law.proofs.Seams.{all_at, front_in}
use Rattle.jn_splice_law.proofs.Splicing.{all_of}
use Rattle.jn_splice_law.proofs.Clean.{no_escape_by, pieces_clean}
use Rattle.jn_splice_law.proofs.Texts.{nothing_on, pieces_on, scalars-append, shifted-sum}
use Rattle.jn_splice_law.proofs.Wording.{piece_at, alone, longest_space, free_word, white_32}
use Rattle.jn_splice_law.proofs.Naming.{piece_kinds, kinds_are, names_append, names_shifted, kinds_append, kinds_shifted}
use Rattle.jn_splice_law.proofs.Forms.{Kept, kept_append, kept_shifted, kept_name, kept_fixed, note_known, all_append, clean_append, word_clean, ascii_scalars, ascii_bytes}
use Rattle.jn_lexer.specs.Shifted.{shifted}
use Rattle.jn_lexer.proofs.Shifting.{behind_shifted, behind_gap}

both : (b : Bool) → b ≡ true → b ≡ false → ⊥
both b t f = false≢true (sym f ∙ t)

-- words that are these pieces before any text
abbrev pub GoesAll : List ℕ → List Piece → Type 0
GoesAll words ws = (back : List ℕ) (own : List Piece) → ArePieces back own → ArePieces (words ++ back) (ws ++ shifted (width words) own)

none_all : GoesAll [] []
none_all back own a = nothing_on 0 (shifted 0 own) back own a refl

-- a word before others
word_all : (l : Lexeme) (word more : List ℕ) (ms : List Piece) → IsSpelling l word → ((back : List ℕ) → BeginsNot (hinders l) (more ++ back)) → ((back : List ℕ) → NoneLonger (length word) (word ++ (more ++ back))) → GoesAll more ms → GoesAll (word ++ more) (piece_at l 0 (width word) ∷ shifted (width word) ms)
word_all l word more ms spelled free longest goes back own a =
    let rest = goes back own a in
    let p : Piece = piece_at l 0 (width word) in
    let ps : List Piece = (p ∷ shifted (width word) ms) ++ shifted (width (word ++ more)) own in
    let whole : ArePieces (word ++ (more ++ back)) (p ∷ shifted (width word) (ms ++ shifted (width more) own)) = record {
      rest = rest.rest;
      place = width word + rest.place;
      behind = (more ++ back, alone l word (more ++ back) 0 (width word) (omega arith) spelled (free back) (longest back), behind_shifted (more ++ back) 0 (width word) (width word) (ms ++ shifted (width more) own) rest.rest rest.place (omega arith) rest.behind);
      blanks = rest.blanks;
      is = rest.is;
      gap = rest.gap;
    } in
    subst (λ t. ArePieces t ps) (sym (append_assoc word more back)) (subst (ArePieces (word ++ (more ++ back))) (ap (λ x. p ∷ x) (pieces_on word more ms own)) whole)

abbrev spaces : List ℕ → List Blank
spaces [] = []
spaces (c ∷ cs) = Space c ∷ spaces cs

spaces_text : (cs : List ℕ) → gap_text (spaces cs) ≡ cs
spaces_text [] = refl
spaces_text (c ∷ cs) = ap (λ x. c ∷ x) (spaces_text cs)

spaces_gap : (cs text : List ℕ) → AllAre is_white cs → IsGap (spaces cs) text
spaces_gap [] text h = tt
spaces_gap (c ∷ cs) text h = (h.0, spaces_gap cs text h.1)

-- white characters before others
white_all : (cs more : List ℕ) (ms : List Piece) → AllAre is_white cs → GoesAll more ms → GoesAll (cs ++ more) (shifted (width cs) ms)
white_all cs more ms white goes back own a =
    let bs : List Blank = spaces cs in
    let is : gap_text bs ≡ cs = spaces_text cs in
    let wide : 0 + width (gap_text bs) ≡ width cs = ap (λ x. 0 + width x) is ∙ omega arith in
    let ps : List Piece = shifted (width cs) ms ++ shifted (width (cs ++ more)) own in
    let all = behind_gap bs (more ++ back) 0 (width cs) (ms ++ shifted (width more) own) (spaces_gap cs (more ++ back) white) wide (goes back own a) in
    let whole : ArePieces (gap_text bs ++ (more ++ back)) (shifted (width cs) (ms ++ shifted (width more) own)) = all_of (gap_text bs ++ (more ++ back)) (shifted (width cs) (ms ++ shifted (width more) own)) all in
    subst (λ t. ArePieces t ps) (ap (λ x. x ++ (more ++ back)) is ∙ sym (append_assoc cs more back)) (subst (ArePieces (gap_text bs ++ (more ++ back))) (pieces_on cs more ms own) whole)

-- ---- words and marks

-- a word ends before what is no part of one
word_longest : (w : ℕ) (ws after : List ℕ) → is_start w ≡ true → BeginsNot is_part after → NoneLonger (length (w ∷ ws)) ((w ∷ ws) ++ after)
word_longest w ws after s f l [] rest e h = omega arith
word_longest w ws [] s f l (v ∷ vs) rest e h =
    let n = ap length e in
    let m = length-append (v ∷ vs) rest in
    let k = length-append (w ∷ ws) [] in
    omega (arith, n, m, k)
word_longest w ws (c ∷ cs) s f l (v ∷ vs) rest e h =
    let same : w ≡ v = cc in
    ⊎_elim
    (λ i. let n = ap length i.1 in let m = length-append (v ∷ vs) i.0 in omega (arith, n, m))
    (λ r. absurd (both (is_part c) (all_at is_part (w ∷ ws) r.0 c (subst (AllAre is_part) r.1 (start_parts l v vs h (subst (λ x. is_start x ≡ true) same s)))) f))
    (front_in (w ∷ ws) cs (v ∷ vs) rest c e)

-- a mark that no longer one of the text begins with
mark_longest : (m : ℕ) (after : List ℕ) → is_start m ≡ false → is_digit m ≡ false → nat_eq m 34 ≡ false → ((kind : TokenKind) (ws rest : List ℕ) → m ∷ ws ≡ spelling kind → after ≡ ws ++ rest → length ws ≤ 0) → NoneLonger 1 (m ∷ after)
mark_longest m after s d q k l [] rest e h = omega arith
mark_longest m after s d q k (Word text) (w ∷ ws) rest e h = let same : m ≡ w = cc in absurd (both (is_start w) h.1.0 (subst (λ x. is_start x ≡ false) same s))
mark_longest m after s d q k (Quoted value) (w ∷ ws) rest e h =
    let same : m ≡ w = cc in
    let quote : w ≡ 34 = first (Quoted value) w ws h in
    absurd (both (nat_eq m 34) (eq-eqb m 34 (same ∙ quote)) q)
mark_longest m after s d q k (Numeral value) (w ∷ ws) rest e h = let same : m ≡ w = cc in absurd (both (is_digit w) (first (Numeral value) w ws h) (subst (λ x. is_digit x ≡ false) same d))
mark_longest m after s d q k (Fixed kind) (w ∷ ws) rest e h =
    let same : m ≡ w = cc in
    let tail : after ≡ ws ++ rest = cc in
    let l = k kind ws rest (ap (λ x. x ∷ ws) same ∙ h.0) tail in
    omega (arith, l)

abbrev is_lone : ℕ → List ℕ → Bool
is_lone m [] = true
is_lone m (c ∷ []) = true
is_lone m (c ∷ d ∷ cs) = not (nat_eq c m)

dot_kind : (kind : TokenKind) → is_lone 46 (spelling kind) ≡ true
dot_kind (Id name) = refl
dot_kind _ = refl

semicolon_kind : (kind : TokenKind) → is_lone 59 (spelling kind) ≡ true
semicolon_kind (Id name) = refl
semicolon_kind _ = refl

abbrev no_star : List ℕ → Bool
no_star [] = true
no_star (c ∷ []) = true
no_star (c ∷ d ∷ cs) = not (nat_eq c 42 && nat_eq d 59)

star_kind : (kind : TokenKind) → no_star (spelling kind) ≡ true
star_kind (Id name) = refl
star_kind _ = refl

start_46 : is_start 46 ≡ false
start_46 = start_ascii 46 (lit< tt)

start_59 : is_start 59 ≡ false
start_59 = start_ascii 59 (lit< tt)

start_42 : is_start 42 ≡ false
start_42 = start_ascii 42 (lit< tt)

part_46 : is_part 46 ≡ false
part_46 = part_ascii 46 (lit< tt)

digit_46 : is_digit 46 ≡ false
unfolding is_digit
digit_46 = refl

digit_59 : is_digit 59 ≡ false
unfolding is_digit
digit_59 = refl

digit_42 : is_digit 42 ≡ false
unfolding is_digit
digit_42 = refl

dot_longest : (after : List ℕ) → NoneLonger 1 (46 ∷ after)
dot_longest after = mark_longest 46 after start_46 digit_46 refl short
  where
    short : (kind : TokenKind) (ws rest : List ℕ) → 46 ∷ ws ≡ spelling kind → after ≡ ws ++ rest → length ws ≤ 0
    short kind [] rest e f = omega arith
    short kind (w ∷ ws) rest e f = absurd (false≢true (subst (λ t. is_lone 46 t ≡ true) (sym e) (dot_kind kind)))

semicolon_longest : (after : List ℕ) → NoneLonger 1 (59 ∷ after)
semicolon_longest after = mark_longest 59 after start_59 digit_59 refl short
  where
    short : (kind : TokenKind) (ws rest : List ℕ) → 59 ∷ ws ≡ spelling kind → after ≡ ws ++ rest → length ws ≤ 0
    short kind [] rest e f = omega arith
    short kind (w ∷ ws) rest e f = absurd (false≢true (subst (λ t. is_lone 59 t ≡ true) (sym e) (semicolon_kind kind)))

star_longest : (after : List ℕ) → NoneLonger 1 (42 ∷ 59 ∷ after)
star_longest after = mark_longest 42 (59 ∷ after) start_42 digit_42 refl short
  where
    short : (kind : TokenKind) (ws rest : List ℕ) → 42 ∷ ws ≡ spelling kind → 59 ∷ after ≡ ws ++ rest → length ws ≤ 0
    short kind [] rest e f = omega arith
    short kind (w ∷ ws) rest e f =
        let same : 59 ≡ w = cc in
        absurd (false≢true (subst (λ x. no_star (42 ∷ x ∷ ws) ≡ true) (sym same) (subst (λ t. no_star t ≡ true) (sym e) (star_kind kind))))

free_semicolon : (after : List ℕ) → BeginsNot (hinders (Fixed Semicolon)) after
free_semicolon [] = tt
free_semicolon (c ∷ cs) = refl

-- ---- imports

-- words that are pieces before any text, with known names
pub record Goes (names : List (List ℕ)) (words : List ℕ) (ks : List TokenKind) : Type 0 where
  pub pieces : List Piece
  pub goes : GoesAll words pieces
  pub ascii : list_all is_ascii words ≡ true
  pub clean : AllAre is_clean words
  pub keeps : Kept names pieces ks

-- `.*;`
end_goes : (names : List (List ℕ)) → Goes names (codes ".*;") (Dot ∷ Star ∷ Semicolon ∷ [])
end_goes names =
    let semicolon : GoesAll (59 ∷ []) (piece_at (Fixed Semicolon) 0 (width (59 ∷ [])) ∷ []) = word_all (Fixed Semicolon) (59 ∷ []) [] [] (refl, omega arith) free_semicolon semicolon_longest none_all in
    let ms : List Piece = piece_at (Fixed Semicolon) 0 (width (59 ∷ [])) ∷ [] in
    let star : GoesAll (42 ∷ 59 ∷ []) (piece_at (Fixed Star) 0 (width (42 ∷ [])) ∷ shifted (width (42 ∷ [])) ms) = word_all (Fixed Star) (42 ∷ []) (59 ∷ []) ms (refl, omega arith) (λ back. refl) star_longest semicolon in
    let ns : List Piece = piece_at (Fixed Star) 0 (width (42 ∷ [])) ∷ shifted (width (42 ∷ [])) ms in
    record {
      pieces = piece_at (Fixed Dot) 0 (width (46 ∷ [])) ∷ shifted (width (46 ∷ [])) ns;
      goes = word_all (Fixed Dot) (46 ∷ []) (42 ∷ 59 ∷ []) ns (refl, omega arith) (λ back. digit_42) (λ back. dot_longest (42 ∷ 59 ∷ back)) star;
      ascii = refl;
      clean = (refl, (refl, (refl, tt)));
      keeps = record { same = refl; kinds_are = refl };
    }

rest_ends : (ns : List Note) (back : List ℕ) → BeginsNot is_part (rest_text ns ++ back)
rest_ends [] back = part_46
rest_ends (n ∷ ns) back = part_46

name_free : (name more : List ℕ) → IsSpelling (Word name) name → BeginsNot (hinders (Fixed Dot)) (name ++ more)
name_free [] more h = absurd h.1
name_free (c ∷ cs) more h = not_true (is_digit c) (λ d. digit_start c d h.1.0)

name_longest : (name more : List ℕ) → IsSpelling (Word name) name → BeginsNot is_part more → NoneLonger (length name) (name ++ more)
name_longest [] more h f = absurd h.1
name_longest (c ∷ cs) more h f = word_longest c cs more h.1.0 f

module _ (old : List (List ℕ)) (ps : List Piece) where
  abbrev names : List (List ℕ)
  names = names_after old ps

  -- a part of a name, and what stands after it
  name_goes : (n : Note) (ns : List Note) → IsNote old n → Goes names (rest_text ns) (rest_kinds ns) → Goes names (n.name ++ rest_text ns) (Id n.number ∷ rest_kinds ns)
  name_goes n ns h r =
      let spelled : IsSpelling (Word n.name) n.name = h.spelled in
      record {
        pieces = piece_at (Word n.name) 0 (width n.name) ∷ shifted (width n.name) r.pieces;
        goes = word_all (Word n.name) n.name (rest_text ns) r.pieces spelled (λ back. free_word n.name (rest_text ns ++ back)) (λ back. name_longest n.name (rest_text ns ++ back) spelled (rest_ends ns back)) r.goes;
        ascii = all_append is_ascii n.name (rest_text ns) h.ascii r.ascii;
        clean = clean_append n.name (rest_text ns) (word_clean n.name spelled) r.clean;
        keeps = kept_append names (piece_at (Word n.name) 0 (width n.name) ∷ []) (shifted (width n.name) r.pieces) (Id n.number ∷ []) (rest_kinds ns) (kept_name names n.name n.number 0 (width n.name) (note_known old ps n h)) (kept_shifted names (width n.name) r.pieces (rest_kinds ns) r.keeps);
      }

  -- a dot before it
  dot_goes : (n : Note) (ns : List Note) → IsNote old n → Goes names (n.name ++ rest_text ns) (Id n.number ∷ rest_kinds ns) → Goes names (rest_text (n ∷ ns)) (rest_kinds (n ∷ ns))
  dot_goes n ns h r =
      let more : List ℕ = n.name ++ rest_text ns in
      record {
        pieces = piece_at (Fixed Dot) 0 (width (46 ∷ [])) ∷ shifted (width (46 ∷ [])) r.pieces;
        goes = word_all (Fixed Dot) (46 ∷ []) more r.pieces (refl, omega arith) (λ back. subst (BeginsNot (hinders (Fixed Dot))) (sym (append_assoc n.name (rest_text ns) back)) (name_free n.name (rest_text ns ++ back) h.spelled)) (λ back. dot_longest (more ++ back)) r.goes;
        ascii = r.ascii;
        clean = (refl, r.clean);
        keeps = kept_append names (piece_at (Fixed Dot) 0 (width (46 ∷ [])) ∷ []) (shifted (width (46 ∷ [])) r.pieces) (Dot ∷ []) (Id n.number ∷ rest_kinds ns) (kept_fixed names Dot 0 (width (46 ∷ []))) (kept_shifted names (width (46 ∷ [])) r.pieces (Id n.number ∷ rest_kinds ns) r.keeps);
      }

  rest_goes : (ns : List Note) → AreNotes old ns → Goes names (rest_text ns) (rest_kinds ns)
  rest_goes [] h = end_goes names
  rest_goes (n ∷ ns) h = dot_goes n ns h.0 (name_goes n ns h.0 (rest_goes ns h.1))

  free_import : (after : List ℕ) → BeginsNot (hinders (Fixed Import)) after
  free_import [] = tt
  free_import (c ∷ cs) = refl

  pub import_goes : (n : Note) (ns : List Note) → AreNotes old (n ∷ ns) → Goes names (import_text n ns) (import_kinds n ns)
  import_goes n ns h =
      let r = name_goes n ns h.0 (rest_goes ns h.1) in
      let name : List ℕ = n.name ++ rest_text ns in
      let word : List ℕ = codes "import" in
      let ms : List Piece = shifted (width (32 ∷ [])) r.pieces in
      let spaced : GoesAll (32 ∷ name) ms = white_all (32 ∷ []) name r.pieces (white_32, tt) r.goes in
      let spelled : IsSpelling (Fixed Import) word = (refl, omega arith) in
      record {
        pieces = piece_at (Fixed Import) 0 (width word) ∷ shifted (width word) ms;
        goes = word_all (Fixed Import) word (32 ∷ name) ms spelled (λ back. refl) (λ back. longest_space (Fixed Import) word (name ++ back) spelled) spaced;
        ascii = r.ascii;
        clean = (refl, (refl, (refl, (refl, (refl, (refl, (refl, r.clean)))))));
        keeps = kept_append names (piece_at (Fixed Import) 0 (width word) ∷ []) (shifted (width word) ms) (Import ∷ []) (Id n.number ∷ rest_kinds ns) (kept_fixed names Import 0 (width word)) (kept_shifted names (width word) ms (Id n.number ∷ rest_kinds ns) (kept_shifted names (width (32 ∷ [])) r.pieces (Id n.number ∷ rest_kinds ns) r.keeps));
      }

  -- ---- lines

  or_true : (b : Bool) → (b || true) ≡ true
  or_true true = refl
  or_true false = refl

  one_white : (c : ℕ) → is_line_end c ≡ true → is_white c ≡ true
  unfolding is_white
  one_white c e = ap (λ b. (nat_eq c 32 || nat_eq c 9 || nat_eq c 12) || b) e ∙ or_true (nat_eq c 32 || nat_eq c 9 || nat_eq c 12)

  end_white : (cs : List ℕ) → AllAre is_line_end cs → AllAre is_white cs
  end_white [] h = tt
  end_white (c ∷ cs) h = (one_white c h.0, end_white cs h.1)

  line_ends : (cs : List ℕ) → IsLineEnd cs → AllAre is_line_end cs
  line_ends [] h = absurd h
  line_ends (c ∷ cs) h = h

  -- a line's characters
  one_of : (P : ℕ → Type 0) → P 10 → P 13 → (c : ℕ) → is_line_end c ≡ true → P c
  unfolding is_line_end
  one_of P a b c h = ⊎_elim (λ e. subst P (sym (eqb-true c 10 e)) a) (λ e. subst P (sym (eqb-true c 13 e)) b) (or_cases (nat_eq c 10) (nat_eq c 13) h)

  end_ascii : (cs : List ℕ) → AllAre is_line_end cs → list_all is_ascii cs ≡ true
  end_ascii [] h = refl
  end_ascii (c ∷ cs) h = ap (λ b. b && list_all is_ascii cs) (one_of (λ x. is_ascii x ≡ true) refl refl c h.0) ∙ end_ascii cs h.1

  end_clean : (cs : List ℕ) → AllAre is_line_end cs → AllAre is_clean cs
  end_clean [] h = tt
  end_clean (c ∷ cs) h = (one_of (λ x. is_clean x ≡ true) refl refl c h.0, end_clean cs h.1)

  end_seam : (cs more : List ℕ) → IsLineEnd cs → BeginsSeam (cs ++ more)
  end_seam [] more h = absurd h
  end_seam (c ∷ cs) more h = one_of (λ x. is_seam x ≡ true) refl refl c h.0

  -- an import on a line of its own
  pub line_goes : (end : List ℕ) (n : Note) (ns : List Note) → IsLineEnd end → AreNotes old (n ∷ ns) → Goes names (end ++ import_text n ns) (import_kinds n ns)
  line_goes end n ns e h =
      let r = import_goes n ns h in
      let ends : AllAre is_line_end end = line_ends end e in
      record {
        pieces = shifted (width end) r.pieces;
        goes = white_all end (import_text n ns) r.pieces (end_white end ends) r.goes;
        ascii = all_append is_ascii end (import_text n ns) (end_ascii end ends) r.ascii;
        clean = clean_append end (import_text n ns) (end_clean end ends) r.clean;
        keeps = kept_shifted names (width end) r.pieces (import_kinds n ns) r.keeps;
      }

  pub line_seam : (end : List ℕ) (n : Note) (ns : List Note) → IsLineEnd end → BeginsSeam (end ++ import_text n ns)
  line_seam end n ns e = end_seam end (import_text n ns) e

  -- an import, and the end of its line
  pub first_goes : (end : List ℕ) (n : Note) (ns : List Note) → IsLineEnd end → AreNotes old (n ∷ ns) → Goes names (import_text n ns ++ end) (import_kinds n ns)
  first_goes end n ns e h =
      let r = import_goes n ns h in
      let ends : AllAre is_line_end end = line_ends end e in
      record {
        pieces = r.pieces;
        goes = λ back own a. two back own a (white_all end [] [] (end_white end ends) none_all back own a);
        ascii = all_append is_ascii (import_text n ns) end r.ascii (end_ascii end ends);
        clean = clean_append (import_text n ns) end r.clean (end_clean end ends);
        keeps = r.keeps;
      }
    where
      two : (back : List ℕ) (own : List Piece) → ArePieces back own → ArePieces ((end ++ []) ++ back) (shifted (width (end ++ [])) own) → ArePieces ((import_text n ns ++ end) ++ back) ((import_goes n ns h).pieces ++ shifted (width (import_text n ns ++ end)) own)
      two back own a w =
          let r = import_goes n ns h in
          let text : List ℕ = import_text n ns in
          let behind : ArePieces (end ++ back) (shifted (width end) own) = subst (λ t. ArePieces (t ++ back) (shifted (width t) own)) (append-nil end) w in
          let whole : ArePieces (text ++ (end ++ back)) (r.pieces ++ shifted (width text) (shifted (width end) own)) = r.goes (end ++ back) (shifted (width end) own) behind in
          let pieces : shifted (width text) (shifted (width end) own) ≡ shifted (width (text ++ end)) own = shifted-sum (width text) (width end) own ∙ ap (λ k. shifted k own) (sym (width-append text end)) in
          subst (λ t. ArePieces t (r.pieces ++ shifted (width (text ++ end)) own)) (sym (append_assoc text end back)) (subst (λ x. ArePieces (text ++ (end ++ back)) (r.pieces ++ x)) pieces whole)

-- ---- a text with words before it

-- words that go on before any text, and don't begin with `u`
pub before_text : (file : FileNo) (text : List ℕ) (old new : List (List ℕ)) (ts : List Token) (words : List ℕ) (ks : List TokenKind) → Lexed file text old ts new → Goes old words ks → ((rest after : List ℕ) → words ++ rest ≡ 117 ∷ after → ⊥) → (us : List Token) × Lexed file (words ++ text) old us new × (kinds us ≡ ks ++ kinds ts)
before_text file text old new ts words ks l g other =
    let all : List ℕ = words ++ chars text in
    let good : scalars all ≡ true = scalars-append words (chars text) (ascii_scalars words g.ascii) (scalars-chars text l.utf8) in
    let bytes : encode_utf8_all all ≡ words ++ text = encodes-append words (chars text) ∙ ap (λ x. x ++ encode_utf8_all (chars text)) (ascii_bytes words g.ascii) ∙ ap (λ x. words ++ x) (encodes-chars text l.utf8) in
    let read : chars (words ++ text) ≡ all = ap chars (sym bytes) ∙ chars-encodes all good in
    let tail : List Piece = shifted (width words) l.pieces in
    let qs : List Piece = g.pieces ++ tail in
    let names : names_after old qs ≡ names_after old l.pieces = names_append old g.pieces tail ∙ ap (λ x. names_after x tail) g.keeps.same ∙ names_shifted old (width words) l.pieces in
    let plain : HasNoUnicodeEscape all = no_escape_by [] (chars text) words other g.clean (pieces_clean (chars text) l.pieces l.are) l.plain in
    let old_kinds : piece_kinds old l.pieces ≡ kinds ts = sym (kinds_are file old l.pieces) ∙ ap kinds (sym l.tokens_are) in (
      tokens_of file old qs,
      record { utf8 = (all, (good, bytes)); plain = subst HasNoUnicodeEscape (sym read) plain; pieces = qs; are = subst (λ x. ArePieces x qs) (sym read) (g.goes (chars text) l.pieces l.are); tokens_are = refl; names_are = l.names_are ∙ sym names },
      kinds_are file old qs ∙ kinds_append old g.pieces tail ∙ ap (λ x. piece_kinds old g.pieces ++ piece_kinds x tail) g.keeps.same ∙ ap (λ x. x ++ piece_kinds old tail) g.keeps.kinds_are ∙ ap (λ x. ks ++ x) (kinds_shifted old (width words) l.pieces ∙ old_kinds),
    )

other_head : (xs ys : List ℕ) → 105 ∷ xs ≡ 117 ∷ ys → ⊥
other_head xs ys e = let head : ◌≡◌ {A = ℕ} 105 117 = cc in false≢true (ap (nat_eq 117) head)

-- an import at the beginning of a text
pub import_before : (file : FileNo) (text : List ℕ) (old new : List (List ℕ)) (ts : List Token) (end : List ℕ) (n : Note) (ns : List Note) → Lexed file text old ts new → IsLineEnd end → AreNotes old (n ∷ ns) → (us : List Token) × Lexed file ((import_text n ns ++ end) ++ text) old us new × (kinds us ≡ import_kinds n ns ++ kinds ts)
import_before file text old new ts end n ns l e h = before_text file text old new ts (import_text n ns ++ end) (import_kinds n ns) l (first_goes old [] end n ns e h) other
  where
    other : (rest after : List ℕ) → (import_text n ns ++ end) ++ rest ≡ 117 ∷ after → ⊥
    other rest after e = other_head _ after e
