-- Tokens of a piece that are put after others, further on.
use Rattle.std.proofs.Common.{◌≡◌, ℕ, ◌+◌, ◌≤◌, List, [], ◌∷◌, ◌++◌, drop, refl, sym, ap, ◌∙◌, subst, arith, append_assoc, append-nil}
use Rattle.std.specs.Prelude.{Result, Ok, Err, OnOk}
use Rattle.std.proofs.lemmas.List.{map-append}
use Rattle.jn_base.specs.declared.number.FileNo.{FileNo}
use Rattle.jn_trees.specs.declared.token.Token.{Token}
use Rattle.jn_lexer.specs.declared.shape.Spelled.{Spelled}
use Rattle.jn_lexer.specs.Characters.{width}
use Rattle.jn_lexer.specs.Lexed.{names_with, Lexed}
use Rattle.jn_lexer.specs.Moved.{moved_token, moved, LexedOnto, IsLexingOnto}
use Rattle.jn_lexer.specs.Found.{IsNext, IsAllGap, lexeme_of, body_of, word_of}
use Rattle.jn_lexer.proofs.Reading.{IsRead, read_more, read_all, token, piece_of, places_more}

-- what has been read, and put after the tokens `before`
pub record IsReadOnto (file : FileNo) (text : List ℕ) (by : ℕ) (old : List (List ℕ)) (before : List Token) (rest : List ℕ) (at : ℕ) (tokens : List Token) (names : List (List ℕ)) : Type 0 where
  pub own : List Token
  pub read : IsRead file text old rest at own names
  pub put : tokens ≡ before ++ moved by own

pub none_onto : (file : FileNo) (text : List ℕ) (by : ℕ) (old : List (List ℕ)) (before : List Token) → IsReadOnto file text by old before text 0 before old
none_onto file text by old before = record { own = []; read = ([], (refl, refl), refl, refl); put = sym (append-nil before) }

module _ (file : FileNo) (text : List ℕ) (by : ℕ) (old : List (List ℕ)) (before : List Token) (rest : List ℕ) (at : ℕ) (tokens : List Token) (names : List (List ℕ)) (read : IsReadOnto file text by old before rest at tokens names) where
  pub onto_more : (s : Spelled) (next : IsNext rest at s) (more : List Token) (new : List (List ℕ)) → more ≡ tokens ++ moved_token by (token file names (piece_of rest s)) ∷ [] → new ≡ names_with names (lexeme_of s.shape (word_of rest s)) → IsReadOnto file text by old before (drop s.count (body_of rest s)) s.to more new
  onto_more s next more new m n =
      let one = token file names (piece_of rest s) in
      record {
        own = read.own ++ one ∷ [];
        read = read_more file text old rest at read.own names read.read s next (read.own ++ one ∷ []) new refl n;
        put = m ∙ ap (λ ts. ts ++ moved_token by one ∷ []) read.put ∙ append_assoc before (moved by read.own) (moved_token by one ∷ []) ∙ ap (λ ts. before ++ ts) (sym (map-append (moved_token by) read.own (one ∷ [])));
      }

  pub onto_all : IsAllGap rest → IsLexingOnto file text by old before names tokens
  onto_all g = record { own = read.own; lexing = read_all file text old rest at read.own names read.read g; put = read.put }

-- the next token ends within the piece
pub next_within : (rest : List ℕ) (at bytes : ℕ) (s : Spelled) → IsNext rest at s → at + width rest ≡ bytes → (s.from ≤ s.to) × (s.to ≤ bytes)
next_within rest at bytes s n places =
    let more = places_more rest at s n in
    let to = n.to in
    (omega (arith, to), omega (arith, more, places))

no_further : (t : Token) → moved_token 0 t ≡ t
no_further t = ap (λ n. spanned n (0 + t.span.to)) (zero_more t.span.from) ∙ ap (spanned t.span.from) (zero_more t.span.to)
  where
    spanned : ℕ → ℕ → Token
    spanned from to = record { kind = t.kind; span = record { file = t.span.file; from = from; to = to } }

    zero_more : (n : ℕ) → 0 + n ≡ n
    zero_more n = omega arith

moved_zero : (ts : List Token) → moved 0 ts ≡ ts
moved_zero [] = refl
moved_zero (t ∷ ts) = ap (λ u. u ∷ moved 0 ts) (no_further t) ∙ ap (λ us. t ∷ us) (moved_zero ts)

-- a whole text is a piece with no token before
pub whole_text : (file : FileNo) (text : List ℕ) (old : List (List ℕ)) (before : List Token) (new : List (List ℕ)) (tokens : List Token) → before ≡ [] → LexedOnto file text 0 old before new tokens → Lexed file text old tokens new
whole_text file text old before new tokens none l =
    subst (λ ts. Lexed file text old ts new) (sym (l.put ∙ ap (λ ts. ts ++ moved 0 l.own) none ∙ moved_zero l.own)) l.lexed

-- an answer that goes over to another meaning
pub on_ok : {A E : Type 0} (P Q : Type 0) → (P → Q) → (r : Result A E) → OnOk r P → OnOk r Q
on_ok P Q f (Ok a) h = f h
on_ok P Q f (Err e) h = h
