-- The tables of tokens by their first characters.
use Rattle.std.proofs.Common.{◌≡◌, ℕ, ◌≤◌, Bool, true, false, cond, ◌&&◌, inl, inr, List, [], ◌∷◌, length, drop, Some, refl, sym, ap, ◌∙◌, arith}
use Rattle.std.specs.Prelude.{nat_eq, find, filter, get_or}
use Rattle.std.proofs.lemmas.Bool.{eqb-true, eq-eqb, and_parts, false≢true}
use Rattle.jn_trees.specs.declared.token.TokenKind.{TokenKind}
use Rattle.jn_lexer.specs.declared.spelling.TheConstants.{PAIRS, SINGLES}
use Rattle.jn_lexer.specs.Spelling.{spelling}
use Rattle.jn_lexer.specs.Scan.{begins, is_spelled}
use Rattle.jn_lexer.proofs.Lists.{from_first}
use Rattle.jn_lexer.proofs.Tables.{Among, begins_front, spelled_is, pair_length}

-- where all that passes p passes q, the first that passes p is the first of those that pass q
module _ (p q : TokenKind → Bool) where
  find-filter : (kinds : List TokenKind) → ((k : TokenKind) → Among k kinds → q k ≡ false → p k ≡ false) → find p (filter q kinds) ≡ find p kinds
  find-filter [] fails = refl
  find-filter (x ∷ xs) fails = here (q x) refl (find-filter xs (λ k m. fails k (inr m)))
    where
      here : (b : Bool) → q x ≡ b → find p (filter q xs) ≡ find p xs → find p (cond b (x ∷ filter q xs) (filter q xs)) ≡ find p (x ∷ xs)
      here true e rest = ap (cond (p x) (Some x)) rest
      here false e rest = rest ∙ ap (λ b. cond b (Some x) (find p xs)) (sym (fails x (inl refl) e))

-- whether a word begins with the character, and has so many
abbrev pub is_like : ℕ → ℕ → List ℕ → Bool
is_like c n word = begins word (c ∷ []) && nat_eq n (length word)

-- a word that begins with another character, or has another length, isn't the text; one that begins with another doesn't stand at its front
other_word : (c : ℕ) (cs word : List ℕ) → is_like c (length (c ∷ cs)) word ≡ false → is_spelled (c ∷ cs) word ≡ false
other_word c cs word other = here (is_spelled (c ∷ cs) word) refl
  where
    same : is_like c (length (c ∷ cs)) (c ∷ cs) ≡ true
    same = ap (λ b. b && nat_eq (length (c ∷ cs)) (length (c ∷ cs))) (begins_front (c ∷ []) cs) ∙ eq-eqb (length (c ∷ cs)) (length (c ∷ cs)) refl

    here : (b : Bool) → is_spelled (c ∷ cs) word ≡ b → b ≡ false
    here true e = absurd (false≢true (sym other ∙ ap (is_like c (length (c ∷ cs))) (sym (spelled_is (c ∷ cs) word e)) ∙ same))
    here false e = refl

other_front : (c : ℕ) (cs word : List ℕ) → 1 ≤ length word → begins word (c ∷ []) ≡ false → begins (c ∷ cs) word ≡ false
other_front c cs [] some other = absurd (omega arith)
other_front c cs (f ∷ fs) some other = here (begins (c ∷ cs) (f ∷ fs)) refl
  where
    here : (b : Bool) → begins (c ∷ cs) (f ∷ fs) ≡ b → b ≡ false
    here true e = absurd (false≢true (sym other ∙ ap (λ b. b && true) (eq-eqb f c (sym (eqb-true c f (and_parts (nat_eq c f) (begins cs fs) e).0)))))
    here false e = refl

-- a text with its first character
module _ (text : List ℕ) (c : ℕ) (some : 1 ≤ length text) (first : c ≡ get_or text 0 c) where
  -- the first of the kinds that it spells is the first of those that begin as it does and are as long
  pub spelled_like : (kinds : List TokenKind) → find (λ kind. is_spelled text (spelling kind)) (filter (λ kind. is_like c (length text) (spelling kind)) kinds) ≡ find (λ kind. is_spelled text (spelling kind)) kinds
  spelled_like kinds =
      from_first (λ xs. find (λ kind. is_spelled xs (spelling kind)) (filter (λ kind. is_like c (length xs) (spelling kind)) kinds) ≡ find (λ kind. is_spelled xs (spelling kind)) kinds) text c some first
      (find-filter (λ kind. is_spelled (c ∷ drop 1 text) (spelling kind)) (λ kind. is_like c (length (c ∷ drop 1 text)) (spelling kind)) kinds (λ kind m. other_word c (drop 1 text) (spelling kind)))

  -- the operator of two characters at its front is the first of those that begin as it does
  pub pair_beginning : find (λ kind. begins text (spelling kind)) (filter (λ kind. begins (spelling kind) (c ∷ [])) PAIRS) ≡ find (λ kind. begins text (spelling kind)) PAIRS
  pair_beginning =
      from_first (λ xs. find (λ kind. begins xs (spelling kind)) (filter (λ kind. begins (spelling kind) (c ∷ [])) PAIRS) ≡ find (λ kind. begins xs (spelling kind)) PAIRS) text c some first
      (find-filter (λ kind. begins (c ∷ drop 1 text) (spelling kind)) (λ kind. begins (spelling kind) (c ∷ [])) PAIRS (λ kind m. other_front c (drop 1 text) (spelling kind) (let two = pair_length kind m in omega (arith, two))))

  -- the token of one character at its front is that of the character
  pub single_first : find (λ kind. begins (c ∷ []) (spelling kind)) SINGLES ≡ find (λ kind. begins text (spelling kind)) SINGLES
  single_first = from_first (λ xs. find (λ kind. begins (c ∷ []) (spelling kind)) SINGLES ≡ find (λ kind. begins xs (spelling kind)) SINGLES) text c some first refl
