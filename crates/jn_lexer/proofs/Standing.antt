-- What tokens begin with, and how long they are.
use Rattle.std.proofs.Common.{◌≡◌, ℕ, zero, suc, ◌≤◌, Bool, true, false, not, ◌&&◌, ◌||◌, ◌⊎◌, inl, inr, ⊎_elim, List, [], ◌∷◌, ◌++◌, length, take, drop, Some, None, refl, sym, ap, ◌∙◌, subst, arith, length-append}
use Rattle.std.specs.Prelude.{nat_eq, find}
use Rattle.std.specs.List.{prefix_len, list_all}
use Rattle.std.proofs.lemmas.Bool.{eqb-true, eq-eqb, and_parts, or_cases, false≢true}
use Rattle.std.proofs.lemmas.List.{take-append-drop, take_at, length-take-le}
use Rattle.jn_trees.specs.declared.token.TokenKind.{TokenKind}
use Rattle.jn_trees.specs.declared.token.TokenKind.TheVariants.{Dot, Slash}
use Rattle.jn_lexer.specs.declared.spelling.TheConstants.{WORDS, PAIRS, SINGLES}
use Rattle.jn_lexer.specs.Characters.{is_start, is_part, is_digit, is_digit_or_low, AllAre, BeginsNot}
use Rattle.jn_lexer.specs.Spelling.{spelling}
use Rattle.jn_lexer.specs.Lexemes.{Lexeme, Word, Quoted, Numeral, Fixed, IsWord, is_decimal, is_zero, is_long, ends_in_digit, IsNumeral, IsSpelling, hinders_kind, NoneLonger}
use Rattle.jn_lexer.specs.Scan.{begins, is_spelled, begins_blank, begins_bad_dot, begins_dot}
use Rattle.jn_lexer.specs.Faults.{IsRun, IsBadRun, IsBadDot, is_special}
use Rattle.jn_base.specs.declared.code.Code.TheVariants.{L3, L7}
use Rattle.jn_lexer.specs.Found.{IsToken, BeginsWith, IsMarkPlace, NoToken, IsFaultHere}
use Rattle.jn_lexer.proofs.Lists.{prefix_passes, prefix_longest, prefix_within, prefix_ends}
use Rattle.jn_lexer.proofs.Classes.{is_mark, is_lower, white_47, digit_48, lower_start, digit_part, low_part, start_part, digit_start, quote_start, quote_digit, mark_start, mark_digit, not_both, not_true}
use Rattle.jn_lexer.proofs.Tables.{Among, among, found_passes, none_passes, begins_is, begins_front, spelled_is, is_spelled_same, word_frees, pair_frees, pair_length, single_length, word_lower, pair_mark, single_mark, lower_parts, free_cases}

blank_of : (xs : List ℕ) → IsMarkPlace xs → begins_blank xs ≡ false
blank_of [] h = refl
blank_of (c ∷ cs) h = h.3

slash_free : (c : ℕ) → begins_blank (47 ∷ c ∷ []) ≡ false → hinders_kind Slash c ≡ false
slash_free c h = sym (ap (λ b. b || (true && (nat_eq c 47 || nat_eq c 42))) white_47) ∙ h

-- what a spelling begins with
abbrev pub First : Lexeme → ℕ → Type 0
First (Word text) w = is_start w ≡ true
First (Quoted value) w = w ≡ 34
First (Numeral value) w = is_digit w ≡ true
First (Fixed kind) w = ((is_start w ≡ true) × Among kind WORDS) ⊎ ((is_mark w ≡ true) × (Among kind PAIRS ⊎ Among kind SINGLES))

-- the digits of a number
zero_parts : (c : ℕ) (cs : List ℕ) → is_zero (c ∷ cs) ≡ true → (is_digit c ≡ true) × AllAre is_part cs
zero_parts c cs h = let p = and_parts (nat_eq c 48) (nat_eq (length cs) 0) h in (subst (λ x. is_digit x ≡ true) (sym (eqb-true c 48 p.0)) digit_48, none cs (eqb-true (length cs) 0 p.1))
  where
    none : (cs : List ℕ) → length cs ≡ 0 → AllAre is_part cs
    none [] l = tt
    none (d ∷ ds) l = absurd (omega arith)

long_parts : (c : ℕ) (cs : List ℕ) → is_long (c ∷ cs) ≡ true → (is_digit c ≡ true) × AllAre is_part cs
long_parts c cs h =
    let p = and_parts ((is_digit c && not (nat_eq c 48)) && list_all is_digit_or_low cs) (ends_in_digit (c ∷ cs)) h in
    let q = and_parts (is_digit c && not (nat_eq c 48)) (list_all is_digit_or_low cs) p.0 in
    let r = and_parts (is_digit c) (not (nat_eq c 48)) q.0 in
    (r.0, parts cs q.1)
  where
    parts : (ds : List ℕ) → list_all is_digit_or_low ds ≡ true → AllAre is_part ds
    parts [] l = tt
    parts (d ∷ ds) l = let p = and_parts (is_digit_or_low d) (list_all is_digit_or_low ds) l in (low_part d p.0, parts ds p.1)

numeral_parts : (c : ℕ) (cs : List ℕ) → is_decimal (c ∷ cs) ≡ true → (is_digit c ≡ true) × AllAre is_part cs
unfolding is_decimal
numeral_parts c cs h = ⊎_elim (λ a. zero_parts c cs a) (λ a. long_parts c cs a) (or_cases _ _ h)

not_empty_decimal : is_decimal [] ≡ true → ⊥
unfolding is_decimal
not_empty_decimal h = false≢true h

-- a token has at least one character
pub some_spelling : (l : Lexeme) → IsSpelling l [] → ⊥
some_spelling (Word text) h = h.1
some_spelling (Quoted value) h = let e = h.is in cc
some_spelling (Numeral value) h = not_empty_decimal h.0
some_spelling (Fixed kind) h = let l = h.1 in omega arith

pub first : (l : Lexeme) (w : ℕ) (ws : List ℕ) → IsSpelling l (w ∷ ws) → First l w
first (Word text) w ws h = h.1.0
first (Quoted value) w ws h = let e = h.is in cc
first (Numeral value) w ws h = (numeral_parts w ws h.0).0
first (Fixed kind) w ws h =
    let e : w ∷ ws ≡ spelling kind = h.0 in
    ⊎_elim (λ m. inl (lower_start w (and_parts _ _ (subst (λ s. list_all is_lower s ≡ true) (sym e) (word_lower kind m))).0, m))
    (λ r. inr (⊎_elim (λ m. (pair_mark kind m w ws e, inl m)) (λ m. (single_mark kind m w ws e, inr m)) r))
    (among kind (subst (λ s. 1 ≤ length s) e (omega arith)))

-- a token that begins as an identifier, or as a number, is all of an identifier's characters
pub start_parts : (l : Lexeme) (w : ℕ) (ws : List ℕ) → IsSpelling l (w ∷ ws) → is_start w ≡ true → AllAre is_part (w ∷ ws)
start_parts (Word text) w ws h s = (start_part w s, h.1.1)
start_parts (Quoted value) w ws h s = absurd (quote_start w (first (Quoted value) w ws h) s)
start_parts (Numeral value) w ws h s = absurd (digit_start w (first (Numeral value) w ws h) s)
start_parts (Fixed kind) w ws h s =
    ⊎_elim (λ m. subst (AllAre is_part) (sym h.0) (lower_parts (spelling kind) (word_lower kind m.1))) (λ m. absurd (mark_start w m.0 s)) (first (Fixed kind) w ws h)

pub digit_parts : (l : Lexeme) (w : ℕ) (ws : List ℕ) → IsSpelling l (w ∷ ws) → is_digit w ≡ true → AllAre is_part (w ∷ ws)
digit_parts (Word text) w ws h d = absurd (digit_start w d h.1.0)
digit_parts (Quoted value) w ws h d = absurd (quote_digit w (first (Quoted value) w ws h) d)
digit_parts (Numeral value) w ws h d = (digit_part w d, (numeral_parts w ws h.0).1)
digit_parts (Fixed kind) w ws h d = ⊎_elim (λ m. absurd (digit_start w d m.0)) (λ m. absurd (mark_digit w m.0 d)) (first (Fixed kind) w ws h)

pub record IsMarkOf (l : Lexeme) (word : List ℕ) : Type 0 where
  pub kind : TokenKind
  pub lexeme_is : l ≡ Fixed kind
  pub word_is : word ≡ spelling kind
  pub listed : Among kind PAIRS ⊎ Among kind SINGLES

pub mark_fixed : (l : Lexeme) (w : ℕ) (ws : List ℕ) → IsSpelling l (w ∷ ws) → is_start w ≡ false → is_digit w ≡ false → nat_eq w 34 ≡ false → IsMarkOf l (w ∷ ws)
mark_fixed (Word text) w ws h a b c = absurd (not_both _ h.1.0 a)
mark_fixed (Quoted value) w ws h a b c = absurd (not_both _ (eq-eqb w 34 (first (Quoted value) w ws h)) c)
mark_fixed (Numeral value) w ws h a b c = absurd (not_both _ (first (Numeral value) w ws h) b)
mark_fixed (Fixed kind) w ws h a b c = record {
  kind = kind;
  lexeme_is = refl;
  word_is = h.0;
  listed = ⊎_elim (λ m. absurd (not_both _ m.0 a)) (λ m. m.1) (first (Fixed kind) w ws h);
}

-- runs of an identifier's characters
module _ (text : List ℕ) (n : ℕ) (is : n ≡ prefix_len is_part text) where
  run_within : n ≤ length text
  run_within = let w = prefix_within is_part text in omega arith

  pub run_length : length (take n text) ≡ n
  run_length = length-take-le n text run_within

  run_parts : AllAre is_part (take n text)
  run_parts = subst (λ m. AllAre is_part (take m text)) (sym is) (prefix_passes is_part text)

  run_ends : BeginsNot is_part (drop n text)
  run_ends = subst (λ m. BeginsNot is_part (drop m text)) (sym is) (prefix_ends is_part text)

  module _ (q : ℕ → Bool) (begin : BeginsWith q text) (parts : (l : Lexeme) (w : ℕ) (ws : List ℕ) → IsSpelling l (w ∷ ws) → q w ≡ true → AllAre is_part (w ∷ ws)) where
    run_longest : NoneLonger n text
    run_longest l [] rest e h = omega arith
    run_longest l (w ∷ ws) rest e h =
        let p = prefix_longest is_part text (w ∷ ws) rest e (parts l w ws h (subst (BeginsWith q) e begin)) in
        omega arith

  module _ (q : ℕ → Bool) (begin : BeginsWith q text) (part : (c : ℕ) → q c ≡ true → is_part c ≡ true) where
    run_some : 1 ≤ n
    run_some = go text begin is
      where
        go : (xs : List ℕ) → BeginsWith q xs → n ≡ prefix_len is_part xs → 1 ≤ n
        go [] b e = absurd b
        go (c ∷ cs) b e = let p = prefix_longest is_part (c ∷ cs) (c ∷ []) cs refl (part c b, tt) in omega arith

    run_begins : (c : ℕ) × (cs : List ℕ) × (take n text ≡ c ∷ cs) × (q c ≡ true) × AllAre is_part cs
    run_begins = go text n run_some begin run_parts
      where
        go : (xs : List ℕ) (m : ℕ) → 1 ≤ m → BeginsWith q xs → AllAre is_part (take m xs) → (c : ℕ) × (cs : List ℕ) × (take m xs ≡ c ∷ cs) × (q c ≡ true) × AllAre is_part cs
        go [] m l b a = absurd b
        go (c ∷ cs) zero l b a = absurd (omega arith)
        go (c ∷ cs) (suc m) l b a = (c, take m cs, refl, b, a.1)

  free_of : (p : ℕ → Bool) (xs : List ℕ) → ((c : ℕ) → p c ≡ false) → BeginsNot p xs
  free_of p [] f = tt
  free_of p (c ∷ cs) f = f c

  -- words
  module _ (begin : BeginsWith is_start text) where
    pub word_fixed : (kind : TokenKind) → find (λ k. is_spelled (take n text) (spelling k)) WORDS ≡ Some kind → IsToken text (Fixed kind) n
    word_fixed kind e =
        let f = found_passes (λ k. is_spelled (take n text) (spelling k)) WORDS kind e in
        let s = run_some is_start begin start_part in
        record {
          spelled = (spelled_is (take n text) (spelling kind) f.0, let l = run_length in omega arith);
          free = free_of (hinders_kind kind) (drop n text) (word_frees kind f.1);
          longest = run_longest is_start begin start_parts;
          within = run_within;
          some = omega arith;
        }

    no_keyword : find (λ k. is_spelled (take n text) (spelling k)) WORDS ≡ None → (kind : TokenKind) → spelling kind ≡ take n text → ⊥
    no_keyword e kind s =
        let r = run_begins is_start begin start_part in
        let same : r.0 ∷ r.1 ≡ spelling kind = sym (s ∙ r.2) in
        ⊎_elim
        (λ m. none_passes (λ k. is_spelled (take n text) (spelling k)) WORDS kind e m (subst (λ w. is_spelled w (spelling kind) ≡ true) s (is_spelled_same (spelling kind))))
        (λ b. ⊎_elim (λ m. mark_start r.0 (pair_mark kind m r.0 r.1 same) r.3) (λ m. mark_start r.0 (single_mark kind m r.0 r.1 same) r.3) b)
        (among kind (subst (λ w. 1 ≤ length w) same (omega arith)))

    pub word_plain : find (λ k. is_spelled (take n text) (spelling k)) WORDS ≡ None → IsToken text (Word (take n text)) n
    word_plain e =
        let r = run_begins is_start begin start_part in
        let s = run_some is_start begin start_part in
        record {
          spelled = (refl, subst IsWord (sym r.2) (r.3, r.4), no_keyword e);
          free = free_of (λ c. false) (drop n text) (λ c. refl);
          longest = run_longest is_start begin start_parts;
          within = run_within;
          some = omega arith;
        }

  -- numbers
  module _ (begin : BeginsWith is_digit text) where
    pub number_token : (value : ℕ) → IsNumeral (take n text) value → BeginsNot (λ c. nat_eq c 46) (drop n text) → IsToken text (Numeral value) n
    number_token value h f =
        let s = run_some is_digit begin digit_part in
        record {
          spelled = h;
          free = both (drop n text) run_ends f;
          longest = run_longest is_digit begin digit_parts;
          within = run_within;
          some = omega arith;
        }
      where
        both : (xs : List ℕ) → BeginsNot is_part xs → BeginsNot (λ c. nat_eq c 46) xs → BeginsNot (λ c. is_part c || nat_eq c 46) xs
        both [] a b = tt
        both (c ∷ cs) a b = ap (λ x. x || nat_eq c 46) a ∙ b

    pub bad_run : (((value : ℕ) → IsNumeral (take n text) value → ⊥) ⊎ ((rest : List ℕ) × (drop n text ≡ 46 ∷ rest))) → IsBadRun text
    bad_run bad =
        let r = run_begins is_digit begin digit_part in
        record {
          run = take n text;
          after = drop n text;
          is = sym (take-append-drop n text);
          digits = subst IsRun (sym r.2) (r.3, r.4);
          whole = run_ends;
          bad = bad;
        }

-- marks
module _ (text : List ℕ) (place : IsMarkPlace text) where
  marks : (l : Lexeme) (word rest : List ℕ) → text ≡ word ++ rest → IsSpelling l word → IsMarkOf l word
  marks l [] rest e h = absurd (some_spelling l h)
  marks l (w ∷ ws) rest e h = let p = subst IsMarkPlace e place in mark_fixed l w ws h p.0 p.1 p.2

  module _ (kind : TokenKind) (n : ℕ) (front : begins text (spelling kind) ≡ true) (long : length (spelling kind) ≡ n) (some : 1 ≤ n) (free : BeginsNot (hinders_kind kind) (drop n text)) (longest : NoneLonger n text) where
    mark_token : IsToken text (Fixed kind) n
    mark_token =
        let r = begins_is text (spelling kind) front in
        let word : take n text ≡ spelling kind = ap (take n) r.1 ∙ take_at (spelling kind) r.0 n long in
        let total = ap length r.1 ∙ length-append (spelling kind) r.0 in
        record {
          spelled = (word, subst (λ w. 1 ≤ length w) (sym word) (omega arith));
          free = free;
          longest = longest;
          within = omega arith;
          some = omega arith;
        }

  front_of : (kind : TokenKind) (word rest : List ℕ) → text ≡ word ++ rest → word ≡ spelling kind → begins text (spelling kind) ≡ true
  front_of kind word rest e s = ap (λ t. begins t (spelling kind)) (e ∙ ap (λ w. w ++ rest) s) ∙ begins_front (spelling kind) rest

  pub pair_token : (kind : TokenKind) → find (λ k. begins text (spelling k)) PAIRS ≡ Some kind → IsToken text (Fixed kind) 2
  pair_token kind e =
      let f = found_passes (λ k. begins text (spelling k)) PAIRS kind e in
      mark_token kind 2 f.0 (pair_length kind f.1) (omega arith) (free (drop 2 text) (pair_frees kind f.1)) longest
    where
      free : (xs : List ℕ) → ((c : ℕ) → hinders_kind kind c ≡ false) → BeginsNot (hinders_kind kind) xs
      free [] h = tt
      free (c ∷ cs) h = h c

      longest : NoneLonger 2 text
      longest l word rest t h =
          let m = marks l word rest t h in
          let len = ap length m.word_is in
          ⊎_elim (λ p. let k = pair_length m.kind p in omega arith) (λ p. let k = single_length m.kind p in omega arith) m.listed

  module _ (none : find (λ k. begins text (spelling k)) PAIRS ≡ None) where
    pub single_token : begins_bad_dot text ≡ false → (kind : TokenKind) → find (λ k. begins text (spelling k)) SINGLES ≡ Some kind → IsToken text (Fixed kind) 1
    single_token dot kind e =
        let f = found_passes (λ k. begins text (spelling k)) SINGLES kind e in
        mark_token kind 1 f.0 (single_length kind f.1) (omega arith) (free f.0) longest
      where
        longest : NoneLonger 1 text
        longest l word rest t h =
            let m = marks l word rest t h in
            let len = ap length m.word_is in
            ⊎_elim (λ p. absurd (none_passes (λ k. begins text (spelling k)) PAIRS m.kind none p (front_of m.kind word rest t m.word_is))) (λ p. let k = single_length m.kind p in omega arith) m.listed

        any : (xs : List ℕ) → ((c : ℕ) → hinders_kind kind c ≡ false) → BeginsNot (hinders_kind kind) xs
        any [] h = tt
        any (c ∷ cs) h = h c

        after_dot : (xs : List ℕ) → begins_bad_dot (46 ∷ xs) ≡ false → BeginsNot is_digit xs
        after_dot [] h = tt
        after_dot (c ∷ cs) h = h

        after_slash : (xs : List ℕ) → begins_blank (47 ∷ xs) ≡ false → BeginsNot (hinders_kind Slash) xs
        after_slash [] h = tt
        after_slash (c ∷ cs) h = slash_free c h

        free : begins text (spelling kind) ≡ true → BeginsNot (hinders_kind kind) (drop 1 text)
        free t =
            let r = begins_is text (spelling kind) t in
            ⊎_elim
            (λ d.
            let text_is : text ≡ 46 ∷ r.0 = r.1 ∙ ap (λ k. spelling k ++ r.0) d in
            subst (λ k. BeginsNot (hinders_kind k) (drop 1 text)) (sym d) (subst (BeginsNot is_digit) (sym (ap (drop 1) text_is)) (after_dot r.0 (subst (λ x. begins_bad_dot x ≡ false) text_is dot))))
            (λ s. ⊎_elim
            (λ d.
            let text_is : text ≡ 47 ∷ r.0 = r.1 ∙ ap (λ k. spelling k ++ r.0) d in
            subst (λ k. BeginsNot (hinders_kind k) (drop 1 text)) (sym d) (subst (BeginsNot (hinders_kind Slash)) (sym (ap (drop 1) text_is)) (after_slash r.0 (blank_of (47 ∷ r.0) (subst IsMarkPlace text_is place)))))
            (λ f. any (drop 1 text) f) s)
            (free_cases kind)

    pub no_token : find (λ k. begins text (spelling k)) SINGLES ≡ None → NoToken text
    no_token e l word rest t h =
        let m = marks l word rest t h in
        ⊎_elim (λ p. none_passes (λ k. begins text (spelling k)) PAIRS m.kind none p (front_of m.kind word rest t m.word_is))
        (λ p. none_passes (λ k. begins text (spelling k)) SINGLES m.kind e p (front_of m.kind word rest t m.word_is)) m.listed

-- faults
first_of : (text : List ℕ) → 1 ≤ length text → (c : ℕ) × (back : List ℕ) × (text ≡ c ∷ back)
first_of [] l = absurd (omega arith)
first_of (c ∷ cs) l = (c, cs, refl)

starts : (q : ℕ → Bool) (text : List ℕ) → BeginsWith q text → 1 ≤ length text
starts q [] b = absurd b
starts q (c ∷ cs) b = omega arith

module _ (text : List ℕ) (some : 1 ≤ length text) where
  number_fault : (IsBadRun text ⊎ IsBadDot text) → IsFaultHere text (record { code = L7; before = 0 })
  number_fault bad = let f = first_of text some in ([], f.0, f.1, f.2, refl, (refl, (f.1, f.2), bad))

module _ (text : List ℕ) (n : ℕ) (is : n ≡ prefix_len is_part text) (begin : BeginsWith is_digit text) where
  pub number_free : begins_dot (drop n text) ≡ false → BeginsNot (λ c. nat_eq c 46) (drop n text)
  number_free h = go (drop n text) h
    where
      go : (xs : List ℕ) → begins_dot xs ≡ false → BeginsNot (λ c. nat_eq c 46) xs
      go [] h = tt
      go (c ∷ cs) h = h

  pub dotted_fault : begins_dot (drop n text) ≡ true → IsFaultHere text (record { code = L7; before = 0 })
  dotted_fault h = number_fault text (starts is_digit text begin) (inl (bad_run text n is begin (inr (go (drop n text) h))))
    where
      go : (xs : List ℕ) → begins_dot xs ≡ true → (rest : List ℕ) × (xs ≡ 46 ∷ rest)
      go [] h = absurd (false≢true h)
      go (c ∷ cs) h = (cs, ap (λ x. x ∷ cs) (eqb-true c 46 h))

  pub numeral_fault : ((value : ℕ) → IsNumeral (take n text) value → ⊥) → IsFaultHere text (record { code = L7; before = 0 })
  numeral_fault h = number_fault text (starts is_digit text begin) (inl (bad_run text n is begin (inl h)))

pub dot_fault : (text : List ℕ) → begins_bad_dot text ≡ true → IsFaultHere text (record { code = L7; before = 0 })
dot_fault [] h = absurd (false≢true h)
dot_fault (c ∷ []) h = absurd (false≢true h)
dot_fault (c ∷ d ∷ ds) h =
    let p = and_parts (nat_eq c 46) (is_digit d) h in
    number_fault (c ∷ d ∷ ds) (omega arith) (inr (record { digit = d; back = ds; is = ap (λ x. x ∷ d ∷ ds) (eqb-true c 46 p.0); digits = p.1 }))

or_false : (a b : Bool) → (a || b) ≡ false → (a ≡ false) × (b ≡ false)
or_false true b e = absurd (false≢true (sym e))
or_false false b e = (refl, e)

pub character_fault : (text : List ℕ) → IsMarkPlace text → NoToken text → IsFaultHere text (record { code = L3; before = 0 })
character_fault [] p none = absurd p
character_fault (c ∷ cs) p none = ([], c, cs, refl, refl, (refl, record { back = cs; is = refl; other = other; white = (or_false _ _ p.3).0; none = none }))
  where
    dot : nat_eq c 46 ≡ false
    dot = not_true (nat_eq c 46) (λ e. none (Fixed Dot) (46 ∷ []) cs (ap (λ x. x ∷ cs) (eqb-true c 46 e)) (refl, omega arith))

    slash : nat_eq c 47 ≡ false
    slash = not_true (nat_eq c 47) (λ e. none (Fixed Slash) (47 ∷ []) cs (ap (λ x. x ∷ cs) (eqb-true c 47 e)) (refl, omega arith))

    other : is_special c ≡ false
    other = ap (λ x. x || nat_eq c 46 || nat_eq c 47 || is_digit c) p.2 ∙ ap (λ x. x || nat_eq c 47 || is_digit c) dot ∙ ap (λ x. x || is_digit c) slash ∙ p.1
