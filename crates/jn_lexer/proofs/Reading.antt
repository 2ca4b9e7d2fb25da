-- One token after another.
use Rattle.std.proofs.Common.{◌≡◌, ℕ, ◌+◌, ◌-◌, ◌<◌, ◌≤◌, Bool, true, false, List, [], ◌∷◌, ◌++◌, length, take, drop, Option, Some, refl, sym, ap, ◌∙◌, subst, arith, length-append, append_assoc, length-drop, add-zero}
use Rattle.std.specs.Prelude.{slice_get, slice_range, encode_utf8_all, chars, IsUtf8, IsCharBoundary, bytes_eq, cond, Result, Ok, Err, IfErr}
use Rattle.jn_base.specs.declared.refusal.Fail.{Fail}
use Rattle.jn_base.specs.declared.refusal.Fail.TheVariants.{Refused, OutOfMemory}
use Rattle.std.specs.List.{list_any}
use Rattle.std.proofs.lemmas.List.{take-append-drop, take_at, length-take-le, append-nil}
use Rattle.jn_base.specs.declared.number.FileNo.{FileNo}
use Rattle.jn_base.specs.declared.place.Row.{Row}
use Rattle.jn_base.specs.declared.code.Code.TheVariants.{L4}
use Rattle.jn_trees.specs.Names.{with_name, Extends}
use Rattle.jn_trees.specs.declared.token.Token.{Token}
use Rattle.jn_lexer.specs.declared.shape.Spelled.{Spelled}
use Rattle.jn_lexer.specs.declared.shape.Fault.{Fault}
use Rattle.jn_lexer.specs.Characters.{width}
use Rattle.jn_lexer.specs.Gaps.{gap_text, IsGap}
use Rattle.jn_lexer.specs.Lexemes.{Lexeme, Word, Quoted, Numeral, Fixed, NoneLonger}
use Rattle.jn_lexer.specs.Pieces.{Piece, Stands, Behind}
use Rattle.jn_lexer.specs.Faults.{IsFault, IsAtCharacter, IsTokenFault, IsOpenComment}
use Rattle.jn_lexer.specs.Lexed.{names_with, kind_of, names_after, tokens_of, IsLexing}
use Rattle.jn_trees.specs.Refused.{IfRefused}
use Rattle.jn_lexer.specs.Found.{IsGapOf, IsNext, IsFaultNext, IsFaultHere, IsAllGap, lexeme_of, body_of, word_of}
use Rattle.jn_lexer.proofs.Lists.{get_at}
use Rattle.jn_lexer.proofs.Widths.{width-split, width-append, boundary_behind, bytes_behind}

-- pieces

abbrev pub piece_of : List ℕ → Spelled → Piece
piece_of text s = record { lexeme = lexeme_of s.shape (word_of text s); from = s.from; to = s.to }

module _ (text : List ℕ) (at : ℕ) (s : Spelled) (next : IsNext text at s) where
  after : List ℕ
  after = drop s.count (body_of text s)

  pub stands : Stands text at (piece_of text s) (drop s.count (body_of text s))
  stands =
      let whole : word_of text s ++ drop s.count (body_of text s) ≡ body_of text s = take-append-drop s.count (body_of text s) in
      let long : length (word_of text s) ≡ s.count = length-take-le s.count (body_of text s) next.token.within in
      record {
        blanks = next.gap.0;
        word = word_of text s;
        is = sym (ap (λ xs. gap_text next.gap.0 ++ xs) whole ∙ ap (λ xs. xs ++ body_of text s) next.gap.1 ∙ take-append-drop s.gap text);
        gap = subst (IsGap next.gap.0) (sym whole) next.gap.2;
        from = next.from ∙ ap (λ xs. at + width xs) (sym next.gap.1);
        to = next.to;
        spelled = next.token.spelled;
        free = next.token.free;
        longest = subst (λ n. NoneLonger n (word_of text s ++ drop s.count (body_of text s))) (sym long) (subst (NoneLonger s.count) (sym whole) next.token.longest);
      }

pub behind_push : (text : List ℕ) (at : ℕ) (ps : List Piece) (rest : List ℕ) (place : ℕ) (p : Piece) (after : List ℕ) → Behind text at ps rest place → Stands rest place p after → Behind text at (ps ++ p ∷ []) after p.to
behind_push text at [] rest place p after b s = (after, subst (λ n. Stands text n p after) b.1 (subst (λ xs. Stands xs place p after) b.0 s), (refl, refl))
behind_push text at (q ∷ qs) rest place p after b s = (b.0, b.1, behind_push b.0 q.to qs rest place p after b.2 s)

pub names_push : (names : List (List ℕ)) (ps : List Piece) (p : Piece) → names_after names (ps ++ p ∷ []) ≡ names_with (names_after names ps) p.lexeme
names_push names [] p = refl
names_push names (q ∷ qs) p = names_push (names_with names q.lexeme) qs p

abbrev pub token : FileNo → List (List ℕ) → Piece → Token
token file names p = record { kind = kind_of names p.lexeme; span = record { file = file; from = p.from; to = p.to } }

pub tokens_push : (file : FileNo) (names : List (List ℕ)) (ps : List Piece) (p : Piece) → tokens_of file names (ps ++ p ∷ []) ≡ tokens_of file names ps ++ token file (names_after names ps) p ∷ []
tokens_push file names [] p = refl
tokens_push file names (q ∷ qs) p = ap (λ ts. token file names q ∷ ts) (tokens_push file (names_with names q.lexeme) qs p)

-- what has been read
abbrev pub IsRead : FileNo → List ℕ → List (List ℕ) → List ℕ → ℕ → List Token → List (List ℕ) → Type 0
IsRead file text old rest at tokens names = (pieces : List Piece) × Behind text 0 pieces rest at × (tokens ≡ tokens_of file old pieces) × (names ≡ names_after old pieces)

module _ (file : FileNo) (text : List ℕ) (old : List (List ℕ)) (rest : List ℕ) (at : ℕ) (tokens : List Token) (names : List (List ℕ)) (read : IsRead file text old rest at tokens names) where
  pub read_more : (s : Spelled) (next : IsNext rest at s) (more : List Token) (new : List (List ℕ)) → more ≡ tokens ++ token file names (piece_of rest s) ∷ [] → new ≡ names_with names (lexeme_of s.shape (word_of rest s)) → IsRead file text old (drop s.count (body_of rest s)) s.to more new
  read_more s next more new t n = (
    read.0 ++ piece_of rest s ∷ [],
    behind_push text 0 read.0 rest at (piece_of rest s) (drop s.count (body_of rest s)) read.1 (stands rest at s next),
    t ∙ ap (λ ts. ts ++ token file names (piece_of rest s) ∷ []) read.2 ∙ ap (λ ns. tokens_of file old read.0 ++ token file ns (piece_of rest s) ∷ []) read.3 ∙ sym (tokens_push file old read.0 (piece_of rest s)),
    n ∙ ap (λ ns. names_with ns (lexeme_of s.shape (word_of rest s))) read.3 ∙ sym (names_push old read.0 (piece_of rest s)),
  )

  pub read_all : IsAllGap rest → IsLexing file text old tokens names
  read_all g = record {
    pieces = read.0;
    are = record { rest = rest; place = at; behind = read.1; blanks = g.0; is = g.1; gap = g.2 };
    tokens_are = read.2;
    names_are = read.3;
  }

  pub read_fault : (row : Row) → IsFaultNext file rest at row → IsTokenFault file text row
  read_fault row f = record {
    pieces = read.0;
    rest = rest;
    place = at;
    behind = read.1;
    blanks = f.blanks;
    body = f.body;
    is = f.is;
    gap = f.gap;
    front = f.front;
    c = f.c;
    fault = f.fault;
    at = f.place;
  }

-- where the text's bytes are those of the next token's word
pub record IsWordIn (bytes word : List ℕ) (s : Spelled) : Type 0 where
  pub from : IsCharBoundary bytes s.from
  pub to : IsCharBoundary bytes s.to
  pub is : slice_range bytes s.from s.to ≡ encode_utf8_all word

-- what has been read, and how many bytes it is
read_width : (text : List ℕ) (at : ℕ) (ps : List Piece) (rest : List ℕ) (place : ℕ) → Behind text at ps rest place → (front : List ℕ) × (text ≡ front ++ rest) × (place ≡ at + width front)
read_width text at [] rest place b = let a = b.1 in ([], sym b.0, omega (arith, a))
read_width text at (p ∷ ps) rest place b =
    let more = read_width b.0 p.to ps rest place b.2 in
    let gap = gap_text b.1.blanks in
    let whole : gap ++ (b.1.word ++ (more.0 ++ rest)) ≡ (gap ++ (b.1.word ++ more.0)) ++ rest = simp (append_assoc) in
    let w = width-append gap (b.1.word ++ more.0) in
    let v = width-append b.1.word more.0 in
    let f = b.1.from in
    let t = b.1.to in
    let m = more.2 in
    (gap ++ (b.1.word ++ more.0), b.1.is ∙ ap (λ xs. gap ++ (b.1.word ++ xs)) more.1 ∙ whole, omega (arith, w, v, f, t, m))

module _ (bytes : List ℕ) (utf8 : IsUtf8 bytes) (front word after : List ℕ) (whole : chars bytes ≡ front ++ (word ++ after)) (s : Spelled) (from : s.from ≡ width front) (to : s.to ≡ s.from + width word) where
  word_in : IsWordIn bytes word s
  word_in =
      let long : s.to - s.from ≡ width word = omega (arith, to) in
      let w = width-append front word in
      let both : s.to ≡ width (front ++ word) = omega (arith, w, from, to) in
      record {
        from = subst (IsCharBoundary bytes) (sym from) (boundary_behind bytes front (word ++ after) utf8 whole);
        to = subst (IsCharBoundary bytes) (sym both) (boundary_behind bytes (front ++ word) after utf8 (whole ∙ sym (append_assoc front word after)));
        is = ap (λ n. take n (drop s.from bytes)) long ∙ ap (λ n. take (width word) (drop n bytes)) from ∙ bytes_behind bytes front word after utf8 whole;
      }

pub next_word : (bytes text : List ℕ) → IsUtf8 bytes → text ≡ chars bytes → (ps : List Piece) (rest : List ℕ) (at : ℕ) → Behind text 0 ps rest at → (s : Spelled) → IsNext rest at s → IsWordIn bytes (word_of rest s) s
next_word bytes text utf8 same ps rest at read s next =
    let r = read_width text 0 ps rest at read in
    let w = width-append r.0 (take s.gap rest) in
    let f = next.from in
    let a = r.2 in
    let whole = sym same ∙ r.1 ∙ ap (λ xs. r.0 ++ xs) (sym (take-append-drop s.gap rest)) ∙ sym (append_assoc r.0 (take s.gap rest) (body_of rest s))
    ∙ ap (λ xs. (r.0 ++ take s.gap rest) ++ xs) (sym (take-append-drop s.count (body_of rest s))) in
    word_in bytes utf8 (r.0 ++ take s.gap rest) (word_of rest s) (drop s.count (body_of rest s)) whole s (omega (arith, w, f, a)) next.to

-- names are only added
with_extends : (names : List (List ℕ)) (text : List ℕ) → Extends names (with_name names text)
with_extends names text = here (list_any (bytes_eq text) names)
  where
    here : (b : Bool) → (more : List (List ℕ)) × (cond b names (names ++ text ∷ []) ≡ names ++ more)
    here true = ([], sym (append-nil names))
    here false = (text ∷ [], refl)

lexeme_extends : (names : List (List ℕ)) (l : Lexeme) → Extends names (names_with names l)
lexeme_extends names (Word text) = with_extends names (encode_utf8_all text)
lexeme_extends names (Quoted value) = with_extends names (encode_utf8_all value)
lexeme_extends names (Numeral value) = ([], sym (append-nil names))
lexeme_extends names (Fixed kind) = ([], sym (append-nil names))

pub after_extends : (names : List (List ℕ)) (ps : List Piece) → Extends names (names_after names ps)
after_extends names [] = ([], sym (append-nil names))
after_extends names (p ∷ ps) =
    let a = lexeme_extends names p.lexeme in
    let b = after_extends (names_with names p.lexeme) ps in
    (a.0 ++ b.0, b.1 ∙ ap (λ ns. ns ++ b.0) a.1 ∙ append_assoc names a.0 b.0)

-- and at most one for each token
with_more : (names : List (List ℕ)) (text : List ℕ) → length (with_name names text) ≤ 1 + length names
with_more names text = here (list_any (bytes_eq text) names)
  where
    here : (b : Bool) → length (cond b names (names ++ text ∷ [])) ≤ 1 + length names
    here true = omega arith
    here false = let l = length-append names (text ∷ []) in omega arith

pub one_more : (names : List (List ℕ)) (l : Lexeme) → length (names_with names l) ≤ 1 + length names
one_more names (Word text) = with_more names (encode_utf8_all text)
one_more names (Quoted value) = with_more names (encode_utf8_all value)
one_more names (Numeral value) = omega arith
one_more names (Fixed kind) = omega arith

-- faults after white space and comments
pub fault_next : (file : FileNo) (text : List ℕ) (at n : ℕ) (fault : Fault) (row : Row) (from : ℕ) → IsGapOf text n → IsFaultHere (drop n text) fault → row.code ≡ fault.code → from ≡ at + width (take n text) → (c : ℕ) × (slice_get (drop n text) fault.before ≡ Some c) × IsAtCharacter file (from + width (take fault.before (drop n text))) c row → IsFaultNext file text at row
fault_next file text at n fault row from g f code start r =
    let body = drop n text in
    let get : slice_get body fault.before ≡ Some f.1 = ap (λ xs. slice_get xs fault.before) f.3 ∙ get_at f.0 f.2 f.1 fault.before f.4 in
    let some : ◌≡◌ {A = Option ℕ} (Some f.1) (Some r.0) = sym get ∙ r.1 in
    let same : f.1 ≡ r.0 = cc in
    let front : take fault.before body ≡ f.0 = ap (take fault.before) f.3 ∙ take_at f.0 (f.1 ∷ f.2) fault.before f.4 in
    record {
      blanks = g.0;
      body = body;
      is = sym (ap (λ xs. xs ++ body) g.1 ∙ take-append-drop n text);
      gap = g.2;
      front = f.0;
      c = f.1;
      fault = subst (λ k. IsFault k body f.0 f.1) (sym code) f.5;
      place = subst (λ k. IsAtCharacter file (at + width (gap_text g.0) + width f.0) k row) (sym same) (subst (λ k. IsAtCharacter file k r.0 row) (ap (λ xs. from + width xs) front ∙ ap (λ k. k + width f.0) start ∙ ap (λ xs. at + width xs + width f.0) (sym g.1)) r.2);
    }

pub open_next : (file : FileNo) (text : List ℕ) (at n : ℕ) (row : Row) → n < length text → IsGapOf text n → IsOpenComment (drop n text) → row.code ≡ L4 → (c : ℕ) × (slice_get text n ≡ Some c) × IsAtCharacter file (at + width (take n text)) c row → IsFaultNext file text at row
open_next file text at n row l g opens code r =
    let whole : text ≡ take n text ++ 47 ∷ 42 ∷ opens.back = sym (take-append-drop n text) ∙ ap (λ xs. take n text ++ xs) opens.is in
    let long : length (take n text) ≡ n = length-take-le n text (omega arith) in
    let get : slice_get text n ≡ Some 47 = ap (λ xs. slice_get xs n) whole ∙ get_at (take n text) (42 ∷ opens.back) 47 n long in
    let some : ◌≡◌ {A = Option ℕ} (Some r.0) (Some 47) = sym r.1 ∙ get in
    let same : r.0 ≡ 47 = cc in
    let place : at + width (take n text) ≡ at + width (gap_text g.0) + width [] = ap (λ xs. at + width xs) (sym g.1) ∙ sym (add-zero (at + width (gap_text g.0))) in
    record {
      blanks = g.0;
      body = drop n text;
      is = sym (ap (λ xs. xs ++ drop n text) g.1 ∙ take-append-drop n text);
      gap = g.2;
      front = [];
      c = 47;
      fault = subst (λ k. IsFault k (drop n text) [] 47) (sym code) (refl, refl, opens);
      place = subst (λ k. IsAtCharacter file k 47 row) place (subst (λ k. IsAtCharacter file (at + width (take n text)) k row) same r.2);
    }

-- places and rooms

pub places_more : (rest : List ℕ) (at : ℕ) (s : Spelled) → IsNext rest at s → s.to + width (drop s.count (body_of rest s)) ≡ at + width rest
places_more rest at s n =
    let a = width-split s.gap rest in
    let b = width-split s.count (body_of rest s) in
    let f = n.from in
    let t = n.to in
    omega (arith, a, b, f, t)

pub rest_shorter : (rest : List ℕ) (at : ℕ) (s : Spelled) → IsNext rest at s → 1 + length (drop s.count (body_of rest s)) ≤ length rest
rest_shorter rest at s n =
    let a = length-drop s.gap rest in
    let b = length-drop s.count (body_of rest s) in
    let w = n.within in
    let m = n.token.some in
    omega (arith, a, b, w, m)

pub more_extends : (old names : List (List ℕ)) (l : Lexeme) → Extends old names → Extends old (names_with names l)
more_extends old names l e =
    let a = lexeme_extends names l in
    (e.0 ++ a.0, a.1 ∙ ap (λ ns. ns ++ a.0) e.1 ∙ append_assoc old e.0 a.0)

-- a refusal that goes over to another meaning
pub if_refused : {A : Type 0} (P Q : Row → Type 0) → ((row : Row) → P row → Q row) → (r : Result A (Fail Row)) → IfErr r (λ fail. IfRefused fail P) → IfErr r (λ fail. IfRefused fail Q)
if_refused P Q f (Ok a) h = h
if_refused P Q f (Err (Refused row)) h = f row h
if_refused P Q f (Err OutOfMemory) h = h
