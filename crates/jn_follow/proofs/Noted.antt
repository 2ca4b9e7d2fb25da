-- A text stops at one place, so beside a row stands one note or none.
use Rattle.std.proofs.Common.{◌≡◌, ℕ, zero, suc, ◌+◌, ◌<◌, ◌≤◌, ◌⊎◌, inl, inr, List, [], ◌∷◌, ◌++◌, length, take, drop, get_or, Option, Some, None, Result, Ok, Err, Bool, true, false, refl, sym, ap, ◌∙◌, subst, arith}
use Rattle.std.specs.Prelude.{cond, IfOk, MatchOption}
use Rattle.std.proofs.lemmas.Bool.{cases_order}
use Rattle.std.proofs.lemmas.List.{at_drop_all, at_drop_more, take-append-drop, take-take, length-map}
use Rattle.jn_base.specs.declared.number.FileNo.{FileNo}
use Rattle.jn_base.specs.declared.place.Row.{Row}
use Rattle.jn_base.specs.declared.place.Span.{Span}
use Rattle.jn_trees.specs.declared.token.Token.{Token}
use Rattle.jn_trees.specs.declared.token.TokenKind.{TokenKind}
use Rattle.jn_trees.specs.Pieces.{kinds}
use Rattle.jn_lexer.specs.Faults.{LexicalFault}
use Rattle.jn_lexer.specs.Lexed.{Lexed}
use Rattle.jn_follow.specs.declared.frame.Frame.{Frame}
use Rattle.jn_follow.specs.declared.noting.StopNote.{StopNote}
use Rattle.jn_follow.specs.Follow.{may_end}
use Rattle.jn_follow.specs.Place.{from_start, Whole, IsStop}
use Rattle.jn_follow.specs.StopNotes.{IsStopAmong, IsStopNote, NoteAmong, NoteBeside, is_string, joins, sign_from, sign_note, sign_to, stop_note, string_note, token_before}
use Rattle.jn_follow.proofs.Laws.{cut, no_whole, none_by, some_none}

-- ---- parts of a text

nothing_left : (k : ℕ) → ◌≡◌ {A = List ℕ} (drop k []) []
nothing_left zero = refl
nothing_left (suc k) = refl

pub none_left : (text : List ℕ) (k : ℕ) → length text ≤ k → [] ≡ drop k text
none_left [] k le = sym (nothing_left k)
none_left (b ∷ text) zero le = absurd (omega (arith, le))
none_left (b ∷ text) (suc k) le = none_left text k (omega (arith, le))

nothing_taken : (k : ℕ) → ◌≡◌ {A = List ℕ} (take k []) []
nothing_taken zero = refl
nothing_taken (suc k) = refl

pub all_taken : (text : List ℕ) (k : ℕ) → length text ≤ k → text ≡ take k text
all_taken [] k le = sym (nothing_taken k)
all_taken (b ∷ text) zero le = absurd (omega (arith, le))
all_taken (b ∷ text) (suc k) le = ap (λ bs. b ∷ bs) (all_taken text k (omega (arith, le)))

-- ---- a sign

joined_on : (t : Token) (next : Token) (ts : List Token) → joins t next ≡ true → sign_to t (next ∷ ts) ≡ sign_to next ts
joined_on t next ts is = ap (λ b. cond b (sign_to next ts) t.span.to) is

left_alone : (t : Token) (next : Token) (ts : List Token) → joins t next ≡ false → sign_to t (next ∷ ts) ≡ t.span.to
left_alone t next ts is = ap (λ b. cond b (sign_to next ts) t.span.to) is

-- the next token is a part of the sign
pub sign_goes : (ts : List Token) (i : ℕ) (t d : Token) (end : ℕ) → i < length ts → joins t (get_or ts i d) ≡ true → sign_to t (drop i ts) ≡ end → sign_to (get_or ts i d) (drop (i + 1) ts) ≡ end
sign_goes ts i t d end lt is so = sym (joined_on t (get_or ts i d) (drop (i + 1) ts) is) ∙ sym (at_drop_more (sign_to t) ts i d lt) ∙ so

-- it isn't
pub sign_stops : (ts : List Token) (i : ℕ) (t d : Token) (end : ℕ) → i < length ts → joins t (get_or ts i d) ≡ false → sign_to t (drop i ts) ≡ end → t.span.to ≡ end
sign_stops ts i t d end lt is so = sym (left_alone t (get_or ts i d) (drop (i + 1) ts) is) ∙ sym (at_drop_more (sign_to t) ts i d lt) ∙ so

-- no token is left
pub sign_ends : (ts : List Token) (i : ℕ) (t : Token) (end : ℕ) → length ts ≤ i → sign_to t (drop i ts) ≡ end → t.span.to ≡ end
sign_ends ts i t end le so = sym (at_drop_all (sign_to t) ts i le) ∙ so

-- ---- one stop

abbrev Stops : List TokenKind → ℕ → List Frame → Type 0
Stops ts n stack = ((n < length ts) × (from_start (take (n + 1) ts) ≡ None)) ⊎ ((n ≡ length ts) × (may_end stack ≡ false))

-- it stops at a token of the text, or at its end
at_most : (ts : List TokenKind) (n : ℕ) (stack : List Frame) → Stops ts n stack → n ≤ length ts
at_most ts n stack (inl k) = let h = k.0 in omega (arith, h)
at_most ts n stack (inr k) = let h = k.0 in omega (arith, h)

abbrev kind_of : Token → TokenKind
kind_of t = t.kind

pub within : (tokens : List Token) (n : ℕ) → IsStop (kinds tokens) n → n ≤ length tokens
within tokens n s =
    let most = at_most (kinds tokens) n s.stack s.stops in
    let long : length (kinds tokens) ≡ length tokens = length-map tokens kind_of in
    omega (arith, most, long)

-- what is beyond the token where it stops isn't taken
none_beyond : (ts : List TokenKind) (n m : ℕ) → n < m → from_start (take (n + 1) ts) ≡ None → from_start (take m ts) ≡ None
none_beyond ts n m lt none =
    cut (take (n + 1) ts) (take m ts) (drop (n + 1) (take m ts)) none
    (sym (take-append-drop (n + 1) (take m ts)) ∙ ap (λ us. us ++ drop (n + 1) (take m ts)) (take-take (n + 1) m ts (omega (arith, lt))))

never_before : (ts : List TokenKind) (n m : ℕ) → IsStop ts n → IsStop ts m → n < m → ⊥
never_before ts n m s t lt =
    let most = at_most ts m t.stack t.stops in
    let below : n < length ts = omega (arith, most, lt) in
    some_none t.stack (sym t.taken ∙ none_beyond ts n m lt (none_by ts n s.stack s.stops below))

pub one_stop : (ts : List TokenKind) (n m : ℕ) → IsStop ts n → IsStop ts m → n ≡ m
one_stop ts n m s t = by (cases_order n m)
  where
    by : (n ≡ m) ⊎ ((n < m) ⊎ (m < n)) → n ≡ m
    by (inl same) = same
    by (inr (inl lt)) = absurd (never_before ts n m s t lt)
    by (inr (inr lt)) = absurd (never_before ts m n t s lt)

-- ---- the note by the tokens

-- what the table takes whole stops nowhere
pub none_among : (file : FileNo) (text : List ℕ) (tokens : List Token) (row : Span) → Whole (kinds tokens) → NoteAmong file text tokens row None
none_among file text tokens row whole = λ note is. no_whole (kinds tokens) is.number is.stops.stack is.stops.taken is.stops.stops whole

abbrev left_note : FileNo → List ℕ → List Token → ℕ → StopNote
left_note file text tokens n = stop_note file text (token_before tokens n) (drop n tokens)

here : (file : FileNo) (text : List ℕ) (tokens : List Token) (row : Span) (n : ℕ) (note : StopNote) → IsStop (kinds tokens) n → IsStopAmong file text tokens row note → note ≡ left_note file text tokens n
here file text tokens row n note stops is = is.is ∙ ap (left_note file text tokens) (one_stop (kinds tokens) is.number n is.stops stops)

pub some_among : (file : FileNo) (text : List ℕ) (tokens : List Token) (row : Span) (n : ℕ) (note : StopNote) (shown : Option StopNote) → IsStop (kinds tokens) n → note ≡ left_note file text tokens n → MatchOption shown (note.span.from ≡ row.from) (λ same. (same ≡ note) × (note.span.from ≡ row.from → ⊥)) → NoteAmong file text tokens row shown
some_among file text tokens row n note None stops is same = λ other among. among.apart (ap (λ (x : StopNote). x.span.from) (here file text tokens row n other stops among ∙ sym is) ∙ same)
some_among file text tokens row n note (Some shown) stops is apart = record {
  number = n;
  stops = stops;
  is = apart.0 ∙ is;
  apart = λ same. apart.1 (ap (λ (x : StopNote). x.span.from) (sym apart.0) ∙ same);
}

-- ---- the note of a text

-- a text has one reading
abbrev pub OneReading : Type 0
OneReading = (file : FileNo) (text : List ℕ) (old : List (List ℕ)) (ts us : List Token) (ns ms : List (List ℕ)) → Lexed file text old ts ns → Lexed file text old us ms → (ts ≡ us) × (ns ≡ ms)

module _ (one : OneReading) where
  among_these : (file : FileNo) (text : List ℕ) (tokens : List Token) (names : List (List ℕ)) (row : Span) (note : StopNote) → Lexed file text [] tokens names → IsStopNote file text row note → IsStopAmong file text tokens row note
  among_these file text tokens names row note lexed is = subst (λ ts. IsStopAmong file text ts row note) (one file text [] is.tokens tokens is.names names is.lexed lexed).0 is.stops

  pub beside : (file : FileNo) (text : List ℕ) (old : List (List ℕ)) (tokens : List Token) (names : List (List ℕ)) (row : Span) (note : Option StopNote) → old ≡ [] → Lexed file text old tokens names → NoteAmong file text tokens row note → NoteBeside file text row note
  beside file text old tokens names row None empty lexed none = λ note is. none note (among_these file text tokens names row note (subst (λ ns. Lexed file text ns tokens names) empty lexed) is)
  beside file text old tokens names row (Some note) empty lexed is = record { tokens = tokens; names = names; lexed = subst (λ ns. Lexed file text ns tokens names) empty lexed; stops = is }

  pub beside_all : {E : Type 0} (file : FileNo) (text : List ℕ) (old : List (List ℕ)) (tokens these : List Token) (names : List (List ℕ)) (row : Span) (r : Result (Option StopNote) E) → old ≡ [] → these ≡ tokens → Lexed file text old tokens names → IfOk r (λ note. NoteAmong file text these row note) → IfOk r (λ note. NoteBeside file text row note)
  beside_all file text old tokens these names row (Ok note) empty same lexed among = beside file text old tokens names row note empty lexed (subst (λ ts. NoteAmong file text ts row note) same among)
  beside_all file text old tokens these names row (Err e) empty same lexed among = tt

  same_note : (file : FileNo) (text : List ℕ) (row : Span) (n m : StopNote) → IsStopNote file text row n → IsStopNote file text row m → n ≡ m
  same_note file text row n m x y =
      let among = among_these file text y.tokens y.names row n y.lexed x in
      here file text y.tokens row y.stops.number n y.stops.stops among ∙ sym y.stops.is

  pub one_note : (file : FileNo) (text : List ℕ) (row : Span) (n m : Option StopNote) → NoteBeside file text row n → NoteBeside file text row m → n ≡ m
  one_note file text row None None x y = refl
  one_note file text row None (Some m) x y = absurd (x m y)
  one_note file text row (Some n) None x y = absurd (y n x)
  one_note file text row (Some n) (Some m) x y = ap (λ note. Some note) (same_note file text row n m x y)

file_among : (file : FileNo) (text : List ℕ) (before : Option Token) (left : List Token) → (stop_note file text before left).span.file ≡ file
file_among file text before [] = refl
file_among file text before (t ∷ ts) = either (is_string t.kind) (string_note file t.span.from t.span.to) (sign_note file text (sign_from before t) (sign_to t ts)) refl refl
  where
    either : (b : Bool) (one other : StopNote) → one.span.file ≡ file → other.span.file ≡ file → (cond b one other).span.file ≡ file
    either true one other x y = x
    either false one other x y = y

pub note_file : (file : FileNo) (text : List ℕ) (row : Span) (note : StopNote) → IsStopNote file text row note → note.span.file ≡ file
note_file file text row note is = ap (λ (x : StopNote). x.span.file) is.stops.is ∙ file_among file text (token_before is.tokens is.stops.number) (drop is.stops.number is.tokens)

-- a text that has a fault has no tokens, and so no note
pub none_beside : (faultless : (file : FileNo) (text : List ℕ) (old : List (List ℕ)) (ts : List Token) (ns : List (List ℕ)) (fault : Row) → Lexed file text old ts ns → LexicalFault file text fault → ⊥) (file : FileNo) (text : List ℕ) (row : Span) (fault : Row) → LexicalFault file text fault → NoteBeside file text row None
none_beside faultless file text row fault is = λ note stops. faultless file text [] stops.tokens stops.names fault stops.lexed is
