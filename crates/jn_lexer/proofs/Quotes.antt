-- Strings, as a scan finds them.
use Rattle.std.proofs.Common.{◌≡◌, ℕ, suc, ◌+◌, ◌-◌, Bool, true, false, not, cond, ◌||◌, ⊎_elim, List, [], ◌∷◌, ◌++◌, length, take, drop, Option, Some, None, refl, sym, ap, ◌∙◌, subst, arith, length-append, append_assoc}
use Rattle.std.specs.Prelude.{nat_eq, option_map, unwrap_or, is_none}
use Rattle.std.proofs.lemmas.Bool.{eqb-true, false≢true}
use Rattle.std.proofs.lemmas.List.{take_at}
use Rattle.jn_lexer.specs.Characters.{is_plain, is_line_end, BeginsNot}
use Rattle.jn_lexer.specs.Lexemes.{Word, Quoted, Numeral, Fixed, NoneLonger, Part, Plain, Escape, part_text, inside, AreParts, escape_value, Mean}
use Rattle.jn_lexer.specs.Faults.{IsOpenString, IsBadEscape}
use Rattle.jn_lexer.specs.Scan.{string_len, bad_letter, unescaped}
use Rattle.jn_base.specs.declared.code.Code.TheVariants.{L5, L6}
use Rattle.jn_lexer.specs.Found.{IsToken, between, BeginsWith, is_quote, IsFaultHere}
use Rattle.jn_lexer.proofs.Classes.{quote_start, quote_digit, mark_quote, not_flips}
use Rattle.jn_lexer.proofs.Comments.{suc_some, suc_none}
use Rattle.jn_lexer.proofs.Standing.{first}

line_end_34 : is_line_end 34 ≡ false
unfolding is_line_end
line_end_34 = refl

line_end_92 : is_line_end 92 ≡ false
unfolding is_line_end
line_end_92 = refl

or_false : (a b : Bool) → (a || b) ≡ false → (a ≡ false) × (b ≡ false)
or_false true b e = absurd (false≢true (sym e))
or_false false b e = (refl, e)

-- what a plain character isn't
pub plain_is : (c : ℕ) → is_plain c ≡ true → (nat_eq c 34 ≡ false) × (nat_eq c 92 ≡ false) × (is_line_end c ≡ false)
unfolding is_plain
plain_is c h = let p = or_false _ _ (not_flips _ h) in let q = or_false _ _ p.0 in (q.0, q.1, p.1)

is_plain_from : (c : ℕ) → nat_eq c 34 ≡ false → nat_eq c 92 ≡ false → is_line_end c ≡ false → is_plain c ≡ true
unfolding is_plain
is_plain_from c a b d = ap (λ x. not (x || nat_eq c 92 || is_line_end c)) a ∙ ap (λ x. not (x || is_line_end c)) b ∙ ap not d

-- one step of the scan
step_quote : (cs : List ℕ) → string_len false (34 ∷ cs) ≡ Some 0
step_quote cs = ap (λ b. cond {A = Option ℕ} b None (Some 0)) line_end_34

step_plain : (c : ℕ) (cs : List ℕ) → is_plain c ≡ true → string_len false (c ∷ cs) ≡ option_map suc (string_len false cs)
step_plain c cs h =
    let p = plain_is c h in
    ap (λ b. cond {A = Option ℕ} b None (cond (nat_eq c 34) (Some 0) (option_map suc (string_len (nat_eq c 92) cs)))) p.2
    ∙ ap (λ b. cond {A = Option ℕ} b (Some 0) (option_map suc (string_len (nat_eq c 92) cs))) p.0
    ∙ ap (λ b. option_map suc (string_len b cs)) p.1

step_slash : (cs : List ℕ) → string_len false (92 ∷ cs) ≡ option_map suc (string_len true cs)
step_slash cs = ap (λ b. cond {A = Option ℕ} b None (option_map suc (string_len true cs))) line_end_92

step_letter : (c : ℕ) (cs : List ℕ) → is_line_end c ≡ false → string_len true (c ∷ cs) ≡ option_map suc (string_len false cs)
step_letter c cs h = ap (λ b. cond {A = Option ℕ} b None (option_map suc (string_len false cs))) h

-- parts and a quote are found
pub parts_len : (ps : List Part) (after : List ℕ) → AreParts ps → string_len false (inside ps ++ 34 ∷ after) ≡ Some (length (inside ps))
parts_len [] after h = step_quote after
parts_len (Plain c ∷ ps) after h = step_plain c (inside ps ++ 34 ∷ after) h.0 ∙ ap (option_map suc) (parts_len ps after h.1)
parts_len (Escape e ∷ ps) after h =
    step_slash (e ∷ (inside ps ++ 34 ∷ after)) ∙ ap (option_map suc) (step_letter e (inside ps ++ 34 ∷ after) h.0) ∙ ap (λ x. option_map suc (option_map suc x)) (parts_len ps after h.1)

-- and what is found is parts and a quote
pub record IsClosed (text : List ℕ) (n : ℕ) : Type 0 where
  pub parts : List Part
  pub after : List ℕ
  pub good : AreParts parts
  pub is : text ≡ inside parts ++ 34 ∷ after
  pub long : n ≡ length (inside parts)

pub record IsClosedBehindSlash (text : List ℕ) (n : ℕ) : Type 0 where
  pub letter : ℕ
  pub rest : List ℕ
  pub m : ℕ
  pub is : text ≡ letter ∷ rest
  pub letter_good : is_line_end letter ≡ false
  pub long : n ≡ suc m
  pub closed : IsClosed rest m

abbrev IsClosedAt : Bool → List ℕ → ℕ → Type 0
IsClosedAt true text n = IsClosedBehindSlash text n
IsClosedAt false text n = IsClosed text n

closed_at : (slash : Bool) (text : List ℕ) (n : ℕ) → string_len slash text ≡ Some n → IsClosedAt slash text n
closed_at slash [] n e = absurd (let f : ◌≡◌ {A = Option ℕ} None (Some n) = e in cc)
closed_at slash (c ∷ cs) n e = here (is_line_end c) refl slash (λ s m. closed_at s cs m) e
  where
    quote : nat_eq c 34 ≡ true → ◌≡◌ {A = Option ℕ} (Some 0) (Some n) → IsClosed (c ∷ cs) n
    quote t e = record { parts = []; after = cs; good = tt; is = ap (λ x. x ∷ cs) (eqb-true c 34 t); long = (let z : 0 ≡ n = cc in sym z) }

    escape : nat_eq c 92 ≡ true → (m : ℕ) → n ≡ suc m → IsClosedBehindSlash cs m → IsClosed (c ∷ cs) n
    escape t m s r = record {
      parts = Escape r.letter ∷ r.closed.parts;
      after = r.closed.after;
      good = (r.letter_good, r.closed.good);
      is = ap (λ x. x ∷ cs) (eqb-true c 92 t) ∙ ap (λ xs. 92 ∷ xs) r.is ∙ ap (λ xs. 92 ∷ r.letter ∷ xs) r.closed.is;
      long = s ∙ ap suc r.long ∙ ap (λ x. suc (suc x)) r.closed.long;
    }

    plain : nat_eq c 34 ≡ false → nat_eq c 92 ≡ false → is_line_end c ≡ false → (m : ℕ) → n ≡ suc m → IsClosed cs m → IsClosed (c ∷ cs) n
    plain a b d m s r = record {
      parts = Plain c ∷ r.parts;
      after = r.after;
      good = (is_plain_from c a b d, r.good);
      is = ap (λ xs. c ∷ xs) r.is;
      long = s ∙ ap suc r.long;
    }

    more : (b : Bool) → nat_eq c 92 ≡ b → nat_eq c 34 ≡ false → is_line_end c ≡ false → (m : ℕ) → n ≡ suc m → IsClosedAt (nat_eq c 92) cs m → IsClosed (c ∷ cs) n
    more true t a d m s r = escape t m s (subst (λ b. IsClosedAt b cs m) t r)
    more false t a d m s r = plain a t d m s (subst (λ b. IsClosedAt b cs m) t r)

    other : (b : Bool) → nat_eq c 34 ≡ b → is_line_end c ≡ false → ((s : Bool) (m : ℕ) → string_len s cs ≡ Some m → IsClosedAt s cs m) → cond {A = Option ℕ} b (Some 0) (option_map suc (string_len (nat_eq c 92) cs)) ≡ Some n → IsClosed (c ∷ cs) n
    other true t d ih e = quote t e
    other false t d ih e = let s = suc_some (string_len (nat_eq c 92) cs) n e in more (nat_eq c 92) refl t d s.0 s.2 (ih (nat_eq c 92) s.0 s.1)

    here : (b : Bool) → is_line_end c ≡ b → (slash : Bool) → ((s : Bool) (m : ℕ) → string_len s cs ≡ Some m → IsClosedAt s cs m) → cond {A = Option ℕ} b None (cond slash (option_map suc (string_len false cs)) (cond (nat_eq c 34) (Some 0) (option_map suc (string_len (nat_eq c 92) cs)))) ≡ Some n → IsClosedAt slash (c ∷ cs) n
    here true d slash ih e = absurd (let f : ◌≡◌ {A = Option ℕ} None (Some n) = e in cc)
    here false d true ih e = let s = suc_some (string_len false cs) n e in record { letter = c; rest = cs; m = s.0; is = refl; letter_good = d; long = s.2; closed = ih false s.0 s.1 }
    here false d false ih e = other (nat_eq c 34) refl d ih e

pub closed : (text : List ℕ) (n : ℕ) → string_len false text ≡ Some n → IsClosed text n
closed text n e = closed_at false text n e

-- the escapes of parts
slash_letter : (e : ℕ) (xs : List ℕ) → bad_letter false (92 ∷ e ∷ xs) ≡ option_map suc (cond (is_none (escape_value e)) (Some 0) (option_map suc (bad_letter false xs)))
slash_letter e xs = refl

plain_letter : (c : ℕ) (xs : List ℕ) → is_plain c ≡ true → bad_letter false (c ∷ xs) ≡ option_map suc (bad_letter false xs)
plain_letter c xs h = ap (λ b. option_map suc (bad_letter b xs)) (plain_is c h).1

pub mean_parts : (ps : List Part) → AreParts ps → bad_letter false (inside ps) ≡ None → Mean ps (unescaped false (inside ps))
mean_parts [] h e = tt
mean_parts (Plain c ∷ ps) h e =
    let un : c ∷ unescaped false (inside ps) ≡ unescaped false (c ∷ inside ps) = sym (ap (λ b. cond b (unescaped true (inside ps)) (c ∷ unescaped false (inside ps))) (plain_is c h.0).1) in
    subst (Mean (Plain c ∷ ps)) un (refl, mean_parts ps h.1 (suc_none (bad_letter false (inside ps)) (sym (plain_letter c (inside ps) h.0) ∙ e)))
mean_parts (Escape l ∷ ps) h e = here (escape_value l) refl (suc_none _ e) (mean_parts ps h.1)
  where
    here : (o : Option ℕ) → escape_value l ≡ o → cond (is_none (escape_value l)) (Some 0) (option_map suc (bad_letter false (inside ps))) ≡ None → (bad_letter false (inside ps) ≡ None → Mean ps (unescaped false (inside ps))) → Mean (Escape l ∷ ps) (unescaped false (92 ∷ l ∷ inside ps))
    here None o e ih = absurd (let f : ◌≡◌ {A = Option ℕ} (Some 0) None = sym (ap (λ x. cond (is_none x) (Some 0) (option_map suc (bad_letter false (inside ps)))) o) ∙ e in cc)
    here (Some v) o e ih =
        let none = suc_none (bad_letter false (inside ps)) (sym (ap (λ x. cond (is_none x) (Some 0) (option_map suc (bad_letter false (inside ps)))) o) ∙ e) in
        (o ∙ ap Some (sym (ap (λ x. unwrap_or x l) o)), ih none)

pub record IsBadAt (ps : List Part) (k : ℕ) : Type 0 where
  pub good : List Part
  pub letter : ℕ
  pub more : List Part
  pub value : List ℕ
  pub is : ps ≡ good ++ Escape letter ∷ more
  pub mean : Mean good value
  pub bad : escape_value letter ≡ None
  pub place : k ≡ suc (length (inside good))

pub bad_parts : (ps : List Part) (k : ℕ) → AreParts ps → bad_letter false (inside ps) ≡ Some k → IsBadAt ps k
bad_parts [] k h e = absurd (let f : ◌≡◌ {A = Option ℕ} None (Some k) = e in cc)
bad_parts (Plain c ∷ ps) k h e =
    let s = suc_some (bad_letter false (inside ps)) k (sym (plain_letter c (inside ps) h.0) ∙ e) in
    let r = bad_parts ps s.0 h.1 s.1 in
    record {
      good = Plain c ∷ r.good;
      letter = r.letter;
      more = r.more;
      value = c ∷ r.value;
      is = ap (λ xs. Plain c ∷ xs) r.is;
      mean = (refl, r.mean);
      bad = r.bad;
      place = s.2 ∙ ap suc r.place;
    }
bad_parts (Escape l ∷ ps) k h e = here (escape_value l) refl (suc_some _ k e) (λ m. bad_parts ps m h.1)
  where
    here : (o : Option ℕ) → escape_value l ≡ o → (m : ℕ) × (cond (is_none (escape_value l)) (Some 0) (option_map suc (bad_letter false (inside ps))) ≡ Some m) × (k ≡ suc m) → ((m : ℕ) → bad_letter false (inside ps) ≡ Some m → IsBadAt ps m) → IsBadAt (Escape l ∷ ps) k
    here None o s ih =
        let f : ◌≡◌ {A = Option ℕ} (Some 0) (Some s.0) = sym (ap (λ x. cond (is_none x) (Some 0) (option_map suc (bad_letter false (inside ps)))) o) ∙ s.1 in
        let z : 0 ≡ s.0 = cc in
        record { good = []; letter = l; more = ps; value = []; is = refl; mean = tt; bad = o; place = s.2 ∙ ap suc (sym z) }
    here (Some v) o s ih =
        let t = suc_some (bad_letter false (inside ps)) s.0 (sym (ap (λ x. cond (is_none x) (Some 0) (option_map suc (bad_letter false (inside ps)))) o) ∙ s.1) in
        let r = ih t.0 t.1 in
        record {
          good = Escape l ∷ r.good;
          letter = r.letter;
          more = r.more;
          value = v ∷ r.value;
          is = ap (λ xs. Escape l ∷ xs) r.is;
          mean = (o, r.mean);
          bad = r.bad;
          place = s.2 ∙ ap suc t.2 ∙ ap (λ x. suc (suc x)) r.place;
        }

pub inside-append : (ps qs : List Part) → inside (ps ++ qs) ≡ inside ps ++ inside qs
inside-append [] qs = refl
inside-append (p ∷ ps) qs = ap (λ xs. part_text p ++ xs) (inside-append ps qs) ∙ sym (append_assoc (part_text p) (inside ps) (inside qs))

-- a string at the front
module _ (rest : List ℕ) where
  pub open_string : string_len false rest ≡ None → IsOpenString (34 ∷ rest)
  open_string e = record {
    back = rest;
    is = refl;
    open_end = λ ps after g is. (let f : ◌≡◌ {A = Option ℕ} None (Some (length (inside ps))) = sym e ∙ ap (string_len false) is ∙ parts_len ps after g in cc);
  }

  module _ (n : ℕ) (e : string_len false rest ≡ Some n) where
    pub shut : IsClosed rest n
    shut = closed rest n e

    front : take n rest ≡ inside shut.parts
    front = ap (take n) shut.is ∙ take_at (inside shut.parts) (34 ∷ shut.after) n (sym shut.long)

    pub bad_escape : (k : ℕ) → bad_letter false (take n rest) ≡ Some k → (r : IsBadAt shut.parts k) × IsBadEscape (34 ∷ rest) (34 ∷ inside r.good) × (34 ∷ rest ≡ (34 ∷ inside r.good) ++ 92 ∷ (r.letter ∷ (inside r.more ++ 34 ∷ shut.after)))
    bad_escape k b =
        let r = bad_parts shut.parts k shut.good (ap (bad_letter false) (sym front) ∙ b) in
        let text : 34 ∷ rest ≡ 34 ∷ (inside (r.good ++ Escape r.letter ∷ r.more) ++ 34 ∷ shut.after) = ap (λ xs. 34 ∷ xs) (shut.is ∙ ap (λ ps. inside ps ++ 34 ∷ shut.after) r.is) in (
          r,
          record {
            good = r.good;
            letter = r.letter;
            more = r.more;
            after = shut.after;
            is = text;
            parts = subst AreParts r.is shut.good;
            value = r.value;
            mean = r.mean;
            bad = r.bad;
            place = refl;
          },
          text ∙ ap (λ xs. 34 ∷ (xs ++ 34 ∷ shut.after)) (inside-append r.good (Escape r.letter ∷ r.more)) ∙ ap (λ xs. 34 ∷ xs) (append_assoc (inside r.good) (92 ∷ r.letter ∷ inside r.more) (34 ∷ shut.after)),
        )

    word : List ℕ
    word = 34 ∷ (inside shut.parts ++ 34 ∷ [])

    text_is : 34 ∷ rest ≡ word ++ shut.after
    unfolding word
    text_is = ap (λ xs. 34 ∷ xs) (shut.is ∙ sym (append_assoc (inside shut.parts) (34 ∷ []) shut.after))

    word_long : length word ≡ n + 2
    unfolding word
    word_long = let l = length-append (inside shut.parts) (34 ∷ []) in let k = shut.long in omega arith

    word_is : take (n + 2) (34 ∷ rest) ≡ word
    word_is = ap (take (n + 2)) text_is ∙ take_at word shut.after (n + 2) word_long

    between_is : between (take (n + 2) (34 ∷ rest)) ≡ inside shut.parts
    unfolding word
    between_is =
        let l = length-append (inside shut.parts) (34 ∷ []) in
        let k = shut.long in
        ap between word_is ∙ take_at (inside shut.parts) (34 ∷ []) (length word - 2) (omega arith)

    longest : NoneLonger (n + 2) (34 ∷ rest)
    longest l [] t q h = omega arith
    longest (Word text) (w ∷ ws) t q h = absurd (quote_start w (let s : 34 ≡ w = cc in sym s) h.1.0)
    longest (Quoted value) (w ∷ ws) t q h =
        let other = h.parts in
        let whole : 34 ∷ rest ≡ 34 ∷ ((inside other ++ 34 ∷ []) ++ t) = q ∙ ap (λ x. x ++ t) h.is in
        let body : rest ≡ (inside other ++ 34 ∷ []) ++ t = cc in
        let found : string_len false rest ≡ Some (length (inside other)) = ap (string_len false) (body ∙ append_assoc (inside other) (34 ∷ []) t) ∙ parts_len other t h.good in
        let same : ◌≡◌ {A = Option ℕ} (Some n) (Some (length (inside other))) = sym e ∙ found in
        let m : n ≡ length (inside other) = cc in
        let long = ap length h.is in
        let l = length-append (inside other) (34 ∷ []) in
        omega arith
    longest (Numeral value) (w ∷ ws) t q h = absurd (quote_digit w (let s : 34 ≡ w = cc in sym s) (first (Numeral value) w ws h))
    longest (Fixed kind) (w ∷ ws) t q h = absurd (let s : 34 ≡ w = cc in ⊎_elim (λ m. quote_start w (sym s) m.0) (λ m. mark_quote w m.0 (sym s)) (first (Fixed kind) w ws h))

    pub string_token : bad_letter false (take n rest) ≡ None → IsToken (34 ∷ rest) (Quoted (unescaped false (between (take (n + 2) (34 ∷ rest))))) (n + 2)
    unfolding word
    string_token b =
        let mean : Mean shut.parts (unescaped false (inside shut.parts)) = mean_parts shut.parts shut.good (ap (bad_letter false) (sym front) ∙ b) in
        let total : length (34 ∷ rest) ≡ length word + length shut.after = ap length text_is ∙ length-append word shut.after in
        let long = word_long in
        record {
          spelled = record { parts = shut.parts; is = word_is; good = shut.good; mean = subst (λ xs. Mean shut.parts (unescaped false xs)) (sym between_is) mean };
          free = free (drop (n + 2) (34 ∷ rest));
          longest = longest;
          within = omega arith;
          some = omega arith;
        }
      where
        free : (xs : List ℕ) → BeginsNot (λ c. false) xs
        free [] = tt
        free (c ∷ cs) = refl

-- the same for a text that begins with a quote
quote_parts : (P : List ℕ → Type 0) (text : List ℕ) → BeginsWith is_quote text → P (34 ∷ drop 1 text) → P text
quote_parts P [] b h = absurd b
quote_parts P (c ∷ cs) b h = subst (λ x. P (x ∷ cs)) (sym (eqb-true c 34 b)) h

module _ (text : List ℕ) (begin : BeginsWith is_quote text) where
  pub open_fault : string_len false (drop 1 text) ≡ None → IsFaultHere text (record { code = L5; before = 0 })
  open_fault e = quote_parts (λ t. IsFaultHere t (record { code = L5; before = 0 })) text begin ([], 34, drop 1 text, refl, refl, (refl, refl, open_string (drop 1 text) e))

  pub escape_fault : (n k : ℕ) → string_len false (drop 1 text) ≡ Some n → bad_letter false (take n (drop 1 text)) ≡ Some k → IsFaultHere text (record { code = L6; before = k })
  escape_fault n k e b =
      let r = bad_escape (drop 1 text) n e k b in
      quote_parts (λ t. IsFaultHere t (record { code = L6; before = k })) text begin
      (34 ∷ inside r.0.good, 92, r.0.letter ∷ (inside r.0.more ++ 34 ∷ (shut (drop 1 text) n e).after), r.2, sym r.0.place, (refl, r.1))

  pub quoted_token : (n : ℕ) → string_len false (drop 1 text) ≡ Some n → bad_letter false (take n (drop 1 text)) ≡ None → IsToken text (Quoted (unescaped false (between (take (n + 2) text)))) (n + 2)
  quoted_token n e b = quote_parts (λ t. IsToken t (Quoted (unescaped false (between (take (n + 2) t)))) (n + 2)) text begin (string_token (drop 1 text) n e b)
