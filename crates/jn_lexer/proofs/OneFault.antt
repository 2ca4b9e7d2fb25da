-- One fault stands at a place, and where one stands no token does.
use Rattle.std.proofs.Common.{◌≡◌, ℕ, Bool, true, false, ◌||◌, ◌⊎◌, inl, inr, ⊎_elim, List, [], ◌∷◌, ◌++◌, length, Option, Some, None, refl, sym, ap, ◌∙◌, subst, arith, append_assoc, lit≤}
use Rattle.std.specs.Prelude.{nat_eq}
use Rattle.std.proofs.lemmas.Bool.{eqb-true, eq-eqb, false≢true}
use Rattle.jn_base.specs.declared.code.Code.{Code}
use Rattle.jn_base.specs.declared.code.Code.TheVariants.{L3, L4, L5, L6, L7}
use Rattle.jn_trees.specs.declared.token.TokenKind.TheVariants.{Dot}
use Rattle.jn_lexer.specs.Characters.{is_white, is_part, is_digit, AllAre, BeginsNot}
use Rattle.jn_lexer.specs.Gaps.{Space, Line, Block}
use Rattle.jn_lexer.specs.Spelling.{spelling}
use Rattle.jn_lexer.specs.Lexemes.{Lexeme, Word, Quoted, Numeral, Fixed, IsSpelling, hinders, Part, Escape, inside, AreParts, part_value, escape_value, Mean}
use Rattle.jn_lexer.specs.Scan.{begins_blank}
use Rattle.jn_lexer.specs.Faults.{IsBadCharacter, IsOpenComment, IsOpenString, IsBadEscape, IsRun, IsBadRun, IsBadDot, IsFault, is_special}
use Rattle.jn_lexer.proofs.Classes.{digit_part, digit_bounds, digit_start, quote_start, quote_digit, not_both, not_true, white_digit, white_46, white_34, dot_start}
use Rattle.jn_lexer.proofs.Tables.{one_kind, pair_no_dot, single_length}
use Rattle.jn_lexer.proofs.Standing.{first, some_spelling, digit_parts}
use Rattle.jn_lexer.proofs.OneGap.{NotBlank, not_blank, block_tail, white_not_47, or_true}
use Rattle.jn_lexer.proofs.OneToken.{parts_one, token_blank, fixed_digit, fixed_quote, plain_first}

-- what kinds of faults begin with

special_47 : is_special 47 ≡ false → ⊥
special_47 h = false≢true (sym h)

special_46 : is_special 46 ≡ false → ⊥
special_46 h = false≢true (sym h)

special_34 : is_special 34 ≡ false → ⊥
special_34 h = false≢true (sym h)

or_last : (a b : Bool) → (a || b) ≡ false → b ≡ false
or_last true b e = absurd (false≢true (sym e))
or_last false b e = e

special_digit : (c : ℕ) → is_special c ≡ false → is_digit c ≡ true → ⊥
special_digit c h d = not_both _ d (or_last _ _ h)

other_47 : (c : ℕ) → is_special c ≡ false → nat_eq c 47 ≡ false
other_47 c h = here (nat_eq c 47) refl
  where
    here : (b : Bool) → nat_eq c 47 ≡ b → b ≡ false
    here true e = absurd (special_47 (subst (λ x. is_special x ≡ false) (eqb-true c 47 e) h))
    here false e = refl

run_first : (text : List ℕ) (r : IsBadRun text) → (c : ℕ) × (cs : List ℕ) × (text ≡ c ∷ cs) × (is_digit c ≡ true)
run_first text r = go r.run r.digits r.is
  where
    go : (run : List ℕ) → IsRun run → text ≡ run ++ r.after → (c : ℕ) × (cs : List ℕ) × (text ≡ c ∷ cs) × (is_digit c ≡ true)
    go [] d e = absurd d
    go (c ∷ cs) d e = (c, cs ++ r.after, e, d.0)

-- a bad number begins with a digit or a `.`
number_first : (c : ℕ) (cs text : List ℕ) → text ≡ c ∷ cs → (IsBadRun text ⊎ IsBadDot text) → (is_digit c ≡ true) ⊎ (c ≡ 46)
number_first c cs text e b =
    ⊎_elim (λ r. let f = run_first text r in let g : f.0 ∷ f.1 ≡ c ∷ cs = sym f.2 ∙ e in let h : f.0 ≡ c = cc in inl (subst (λ x. is_digit x ≡ true) h f.3))
    (λ d. let g : 46 ∷ d.digit ∷ d.back ≡ c ∷ cs = sym d.is ∙ e in let h : ◌≡◌ {A = ℕ} 46 c = cc in inr (sym h)) b

digit_46 : (c : ℕ) → is_digit c ≡ true → c ≡ 46 → ⊥
digit_46 c d e = let b = digit_bounds c d in omega arith

digit_47 : (c : ℕ) → is_digit c ≡ true → c ≡ 47 → ⊥
digit_47 c d e = let b = digit_bounds c d in omega arith

-- no white space or comment where a fault stands

number_blank : (text : List ℕ) → (IsBadRun text ⊎ IsBadDot text) → begins_blank text ≡ false
number_blank text b = ⊎_elim (λ r. let f = run_first text r in subst (λ t. begins_blank t ≡ false) (sym f.2) (token_start f.0 f.1 f.3)) (λ d. subst (λ t. begins_blank t ≡ false) (sym d.is) (plain_first 46 (d.digit ∷ d.back) white_46 refl)) b
  where
    token_start : (c : ℕ) (cs : List ℕ) → is_digit c ≡ true → begins_blank (c ∷ cs) ≡ false
    token_start c cs d = plain_first c cs (not_true _ (λ w. white_digit c w d)) (not_true _ (λ e. digit_47 c d (eqb-true c 47 e)))

open_blank : (text : List ℕ) → IsOpenComment text → NotBlank text
open_blank text o (Space c) after e h = let f : 47 ∷ 42 ∷ o.back ≡ c ∷ after = sym o.is ∙ e in white_not_47 c h (let g : ◌≡◌ {A = ℕ} 47 c = cc in sym g)
open_blank text o (Line i) after e h = let f : 47 ∷ 42 ∷ o.back ≡ 47 ∷ 47 ∷ (i ++ after) = sym o.is ∙ e in let g : ◌≡◌ {A = ℕ} 42 47 = cc in omega arith
open_blank text o (Block i) after e h = let f : 47 ∷ 42 ∷ o.back ≡ 47 ∷ 42 ∷ (i ++ 42 ∷ 47 ∷ after) = sym o.is ∙ e ∙ block_tail i after in let g : o.back ≡ i ++ 42 ∷ 47 ∷ after = cc in o.open_end i after g

pub fault_not_blank : (k : Code) (text front : List ℕ) (c : ℕ) → IsFault k text front c → NotBlank text
fault_not_blank L3 text front c f = not_blank text (subst (λ t. begins_blank t ≡ false) (sym f.1.is) (plain_first c f.1.back f.1.white (other_47 c f.1.other)))
fault_not_blank L4 text front c f = open_blank text f.2
fault_not_blank L5 text front c f = not_blank text (subst (λ t. begins_blank t ≡ false) (sym f.2.is) (plain_first 34 f.2.back white_34 refl))
fault_not_blank L6 text front c f = not_blank text (subst (λ t. begins_blank t ≡ false) (sym f.1.is) (plain_first 34 (inside (f.1.good ++ Escape f.1.letter ∷ f.1.more) ++ 34 ∷ f.1.after) white_34 refl))
fault_not_blank L7 text front c f = not_blank text (number_blank text f.2)
fault_not_blank _ text front c f = absurd f

-- the text isn't empty where a fault stands
pub fault_some : (k : Code) (text front : List ℕ) (c : ℕ) → IsFault k text front c → text ≡ [] → ⊥
fault_some L3 text front c f e = let g : c ∷ f.1.back ≡ [] = sym f.1.is ∙ e in cc
fault_some L4 text front c f e = let g : 47 ∷ 42 ∷ f.2.back ≡ [] = sym f.2.is ∙ e in cc
fault_some L5 text front c f e = let g : 34 ∷ f.2.back ≡ [] = sym f.2.is ∙ e in cc
fault_some L6 text front c f e = let g : 34 ∷ (inside (f.1.good ++ Escape f.1.letter ∷ f.1.more) ++ 34 ∷ f.1.after) ≡ [] = sym f.1.is ∙ e in cc
fault_some L7 text front c f e = let g : c ∷ f.1.0 ≡ [] = sym f.1.1 ∙ e in cc
fault_some _ text front c f e = f

-- no token where a fault stands

string_token : (text : List ℕ) (back : List ℕ) → text ≡ 34 ∷ back → (l : Lexeme) (word after : List ℕ) → text ≡ word ++ after → IsSpelling l word → (parts : List Part) × (value : List ℕ) × AreParts parts × Mean parts value × (back ≡ inside parts ++ 34 ∷ after)
string_token text back q l [] after e h = absurd (some_spelling l h)
string_token text back q (Word t) (w ∷ ws) after e h = absurd (quote_start w (let f : 34 ∷ back ≡ w ∷ (ws ++ after) = sym q ∙ e in let g : ◌≡◌ {A = ℕ} 34 w = cc in sym g) h.1.0)
string_token text back q (Quoted v) (w ∷ ws) after e h =
    let f : 34 ∷ back ≡ 34 ∷ ((inside h.parts ++ 34 ∷ []) ++ after) = sym q ∙ e ∙ ap (λ x. x ++ after) h.is in
    let g : back ≡ (inside h.parts ++ 34 ∷ []) ++ after = cc in
    (h.parts, v, h.good, h.mean, g ∙ append_assoc (inside h.parts) (34 ∷ []) after)
string_token text back q (Numeral v) (w ∷ ws) after e h = absurd (quote_digit w (let f : 34 ∷ back ≡ w ∷ (ws ++ after) = sym q ∙ e in let g : ◌≡◌ {A = ℕ} 34 w = cc in sym g) (first (Numeral v) w ws h))
string_token text back q (Fixed k) (w ∷ ws) after e h = absurd (fixed_quote k w ws h (let f : 34 ∷ back ≡ w ∷ (ws ++ after) = sym q ∙ e in let g : ◌≡◌ {A = ℕ} 34 w = cc in sym g))

mean_bad : (good : List Part) (letter : ℕ) (more : List Part) (v : List ℕ) → Mean (good ++ Escape letter ∷ more) v → escape_value letter ≡ None → ⊥
mean_bad [] letter more [] m b = m
mean_bad [] letter more (v ∷ vs) m b = let some : ◌≡◌ {A = Option ℕ} None (Some v) = sym b ∙ m.0 in cc
mean_bad (p ∷ good) letter more [] m b = m
mean_bad (p ∷ good) letter more (v ∷ vs) m b = mean_bad good letter more vs m.1 b

run_one : (p : ℕ → Bool) (xs ys a b : List ℕ) → xs ++ a ≡ ys ++ b → AllAre p xs → AllAre p ys → BeginsNot p a → BeginsNot p b → (xs ≡ ys) × (a ≡ b)
run_one p [] [] a b e f g s t = (refl, e)
run_one p [] (y ∷ ys) a b e f g s t = absurd (not_both _ g.0 (subst (BeginsNot p) e s))
run_one p (x ∷ xs) [] a b e f g s t = absurd (not_both _ f.0 (subst (BeginsNot p) (sym e) t))
run_one p (x ∷ xs) (y ∷ ys) a b e f g s t =
    let head : x ≡ y = cc in
    let tail : xs ++ a ≡ ys ++ b = cc in
    let ih = run_one p xs ys a b tail f.1 g.1 s t in
    (ap (λ z. z ∷ xs) head ∙ ap (λ zs. y ∷ zs) ih.0, ih.1)

run_parts : (run : List ℕ) → IsRun run → AllAre is_part run
run_parts [] d = tt
run_parts (c ∷ cs) d = (digit_part c d.0, d.1)

no_part : (xs : List ℕ) → BeginsNot (λ c. is_part c || nat_eq c 46) xs → BeginsNot is_part xs
no_part [] f = tt
no_part (c ∷ cs) f = (or_first_false _ _ f)
  where
    or_first_false : (a b : Bool) → (a || b) ≡ false → a ≡ false
    or_first_false true b e = e
    or_first_false false b e = refl

no_dot : (xs rest : List ℕ) → BeginsNot (λ c. is_part c || nat_eq c 46) xs → xs ≡ 46 ∷ rest → ⊥
no_dot [] rest f e = cc
no_dot (c ∷ cs) rest f e = let g : c ≡ 46 = cc in not_both _ (eq-eqb c 46 g) (or_last _ _ f)

run_token : (text : List ℕ) → IsBadRun text → (l : Lexeme) (word after : List ℕ) → text ≡ word ++ after → IsSpelling l word → BeginsNot (hinders l) after → ⊥
run_token text r l [] after e h f = some_spelling l h
run_token text r (Word t) (w ∷ ws) after e h f = let d = run_first text r in let g : d.0 ∷ d.1 ≡ w ∷ (ws ++ after) = sym d.2 ∙ e in let s : d.0 ≡ w = cc in digit_start w (subst (λ x. is_digit x ≡ true) s d.3) h.1.0
run_token text r (Quoted v) (w ∷ ws) after e h f = let d = run_first text r in let g : d.0 ∷ d.1 ≡ w ∷ (ws ++ after) = sym d.2 ∙ e in let s : d.0 ≡ w = cc in quote_digit w (first (Quoted v) w ws h) (subst (λ x. is_digit x ≡ true) s d.3)
run_token text r (Fixed k) (w ∷ ws) after e h f = let d = run_first text r in let g : d.0 ∷ d.1 ≡ w ∷ (ws ++ after) = sym d.2 ∙ e in let s : d.0 ≡ w = cc in fixed_digit k w ws h (subst (λ x. is_digit x ≡ true) s d.3)
run_token text r (Numeral v) (w ∷ ws) after e h f =
    let o = run_one is_part r.run (w ∷ ws) r.after after (sym r.is ∙ e) (run_parts r.run r.digits) (digit_parts (Numeral v) w ws h (first (Numeral v) w ws h)) r.whole (no_part after f) in
    ⊎_elim (λ b. b v (subst (λ xs. IsSpelling (Numeral v) xs) (sym o.0) h)) (λ d. no_dot after d.0 f (sym o.1 ∙ d.1)) r.bad

dot_token : (text : List ℕ) → IsBadDot text → (l : Lexeme) (word after : List ℕ) → text ≡ word ++ after → IsSpelling l word → BeginsNot (hinders l) after → ⊥
dot_token text d l [] after e h f = some_spelling l h
dot_token text d (Word t) (w ∷ ws) after e h f = let g : 46 ∷ d.digit ∷ d.back ≡ w ∷ (ws ++ after) = sym d.is ∙ e in let s : ◌≡◌ {A = ℕ} 46 w = cc in dot_start w (sym s) h.1.0
dot_token text d (Quoted v) (w ∷ ws) after e h f = let g : 46 ∷ d.digit ∷ d.back ≡ w ∷ (ws ++ after) = sym d.is ∙ e in let s : ◌≡◌ {A = ℕ} 46 w = cc in let q = first (Quoted v) w ws h in omega arith
dot_token text d (Numeral v) (w ∷ ws) after e h f = let g : 46 ∷ d.digit ∷ d.back ≡ w ∷ (ws ++ after) = sym d.is ∙ e in let s : ◌≡◌ {A = ℕ} 46 w = cc in digit_46 w (first (Numeral v) w ws h) (sym s)
dot_token text d (Fixed k) (w ∷ ws) after e h f =
    let g : 46 ∷ d.digit ∷ d.back ≡ w ∷ (ws ++ after) = sym d.is ∙ e in
    let s : ◌≡◌ {A = ℕ} 46 w = cc in
    let tail : d.digit ∷ d.back ≡ ws ++ after = cc in
    ⊎_elim (λ m. dot_start w (sym s) m.0)
    (λ m. ⊎_elim (λ p. pair_no_dot k p ws (ap (λ x. x ∷ ws) s ∙ h.0)) (λ p. single ws (let l = single_length k p in let n = ap length h.0 in omega arith) (ap (λ x. x ∷ ws) s ∙ h.0) tail) m.1)
    (first (Fixed k) w ws h)
  where
    single : (ws : List ℕ) → length ws ≡ 0 → 46 ∷ ws ≡ spelling k → d.digit ∷ d.back ≡ ws ++ after → ⊥
    single [] l q t =
        let kind : Dot ≡ k = one_kind Dot k (lit≤ tt) q in
        let free : BeginsNot (hinders (Fixed Dot)) (d.digit ∷ d.back) = subst (BeginsNot (hinders (Fixed Dot))) (sym t) (subst (λ j. BeginsNot (hinders (Fixed j)) after) (sym kind) f) in
        not_both _ d.digits free
    single (x ∷ xs) l q t = absurd (omega arith)

pub fault_token : (k : Code) (text front : List ℕ) (c : ℕ) → IsFault k text front c → (l : Lexeme) (word after : List ℕ) → text ≡ word ++ after → IsSpelling l word → BeginsNot (hinders l) after → ⊥
fault_token L3 text front c f l word after e h free = f.1.none l word after e h
fault_token L4 text front c f l word after e h free = not_both _ (ap begins_blank (sym e ∙ f.2.is) ∙ or_true (is_white 47) true refl) (token_blank l word after h free)
fault_token L5 text front c f l word after e h free = let s = string_token text f.2.back f.2.is l word after e h in f.2.open_end s.0 after s.2 s.4
fault_token L6 text front c f l word after e h free =
    let b = f.1 in
    let s = string_token text (inside (b.good ++ Escape b.letter ∷ b.more) ++ 34 ∷ b.after) b.is l word after e h in
    let p = parts_one (b.good ++ Escape b.letter ∷ b.more) s.0 b.after after s.4 b.parts s.2 in
    mean_bad b.good b.letter b.more s.1 (subst (λ ps. Mean ps s.1) (sym p.0) s.3) b.bad
fault_token L7 text front c f l word after e h free = ⊎_elim (λ r. run_token text r l word after e h free) (λ d. dot_token text d l word after e h free) f.2
fault_token _ text front c f l word after e h free = f

-- the one bad escape of parts
first_bad : (g h : List Part) (a b : ℕ) (more other : List Part) (v w : List ℕ) → g ++ Escape a ∷ more ≡ h ++ Escape b ∷ other → Mean g v → Mean h w → escape_value a ≡ None → escape_value b ≡ None → g ≡ h
first_bad [] [] a b more other v w e m n x y = refl
first_bad [] (q ∷ h) a b more other v [] e m n x y = absurd n
first_bad [] (q ∷ h) a b more other v (w ∷ ws) e m n x y =
    let same : Escape a ≡ q = cc in
    let some : ◌≡◌ {A = Option ℕ} None (Some w) = sym x ∙ ap part_value same ∙ n.0 in
    absurd (cc)
first_bad (p ∷ g) [] a b more other [] w e m n x y = absurd m
first_bad (p ∷ g) [] a b more other (v ∷ vs) w e m n x y =
    let same : p ≡ Escape b = cc in
    let some : ◌≡◌ {A = Option ℕ} None (Some v) = sym y ∙ ap part_value (sym same) ∙ m.0 in
    absurd (cc)
first_bad (p ∷ g) (q ∷ h) a b more other [] w e m n x y = absurd m
first_bad (p ∷ g) (q ∷ h) a b more other (v ∷ vs) [] e m n x y = absurd n
first_bad (p ∷ g) (q ∷ h) a b more other (v ∷ vs) (w ∷ ws) e m n x y =
    let head : p ≡ q = cc in
    let tail : g ++ Escape a ∷ more ≡ h ++ Escape b ∷ other = cc in
    ap (λ r. r ∷ g) head ∙ ap (λ rs. q ∷ rs) (first_bad g h a b more other vs ws tail m.1 n.1 x y)

-- the character at the front of a text with a fault says of which kind it is
data Kind : Type 0 where
  character : Kind
  comment : Kind
  text_of : Kind
  number : Kind

abbrev IsHead : Kind → ℕ → Type 0
IsHead character h = is_special h ≡ false
IsHead comment h = h ≡ 47
IsHead text_of h = h ≡ 34
IsHead number h = (is_digit h ≡ true) ⊎ (h ≡ 46)

number_special : (h : ℕ) → is_special h ≡ false → (is_digit h ≡ true) ⊎ (h ≡ 46) → ⊥
number_special h s n = ⊎_elim (λ d. special_digit h s d) (λ e. special_46 (subst (λ x. is_special x ≡ false) e s)) n

number_not : (h n : ℕ) → (h ≡ 47) ⊎ (h ≡ 34) → (is_digit h ≡ true) ⊎ (h ≡ 46) → ⊥
number_not h n a b = ⊎_elim (λ d. let r = digit_bounds h d in ⊎_elim (λ e. omega arith) (λ e. omega arith) a) (λ x. ⊎_elim (λ e. omega arith) (λ e. omega arith) a) b

one_head : (k j : Kind) (h : ℕ) → IsHead k h → IsHead j h → k ≡ j
one_head character character h a b = refl
one_head character comment h a b = absurd (special_47 (subst (λ x. is_special x ≡ false) b a))
one_head character text_of h a b = absurd (special_34 (subst (λ x. is_special x ≡ false) b a))
one_head character number h a b = absurd (number_special h a b)
one_head comment character h a b = absurd (special_47 (subst (λ x. is_special x ≡ false) a b))
one_head comment comment h a b = refl
one_head comment text_of h a b = absurd (omega arith)
one_head comment number h a b = absurd (number_not h 0 (inl a) b)
one_head text_of character h a b = absurd (special_34 (subst (λ x. is_special x ≡ false) a b))
one_head text_of comment h a b = absurd (omega arith)
one_head text_of text_of h a b = refl
one_head text_of number h a b = absurd (number_not h 0 (inr a) b)
one_head number character h a b = absurd (number_special h b a)
one_head number comment h a b = absurd (number_not h 0 (inl b) a)
one_head number text_of h a b = absurd (number_not h 0 (inr b) a)
one_head number number h a b = refl

-- the five kinds of faults
data Five (text front : List ℕ) (c : ℕ) : Type 0 where
  bad_character : front ≡ [] → IsBadCharacter text c → Five text front c
  open_comment : front ≡ [] → c ≡ 47 → IsOpenComment text → Five text front c
  open_string : front ≡ [] → c ≡ 34 → IsOpenString text → Five text front c
  bad_escape : c ≡ 92 → IsBadEscape text front → Five text front c
  bad_number : front ≡ [] → (back : List ℕ) → text ≡ c ∷ back → (IsBadRun text ⊎ IsBadDot text) → Five text front c

abbrev code_of : {text front : List ℕ} {c : ℕ} → Five text front c → Code
code_of (bad_character a b) = L3
code_of (open_comment a b d) = L4
code_of (open_string a b d) = L5
code_of (bad_escape a b) = L6
code_of (bad_number a b d e) = L7

five : (k : Code) (text front : List ℕ) (c : ℕ) → IsFault k text front c → (x : Five text front c) × (k ≡ code_of x)
five L3 text front c f = (bad_character f.0 f.1, refl)
five L4 text front c f = (open_comment f.0 f.1 f.2, refl)
five L5 text front c f = (open_string f.0 f.1 f.2, refl)
five L6 text front c f = (bad_escape f.0 f.1, refl)
five L7 text front c f = (bad_number f.0 f.1.0 f.1.1 f.2, refl)
five _ text front c f = absurd f

abbrev kind_of : {text front : List ℕ} {c : ℕ} → Five text front c → Kind
kind_of (bad_character a b) = character
kind_of (open_comment a b d) = comment
kind_of (open_string a b d) = text_of
kind_of (bad_escape a b) = text_of
kind_of (bad_number a b d e) = number

head_of : {text front : List ℕ} {c : ℕ} (x : Five text front c) → (h : ℕ) × (t : List ℕ) × (text ≡ h ∷ t) × IsHead (kind_of x) h
head_of {c = c} (bad_character a b) = (c, b.back, b.is, b.other)
head_of (open_comment a b d) = (47, 42 ∷ d.back, d.is, refl)
head_of (open_string a b d) = (34, d.back, d.is, refl)
head_of (bad_escape a b) = (34, inside (b.good ++ Escape b.letter ∷ b.more) ++ 34 ∷ b.after, b.is, refl)
head_of {text = text} {c = c} (bad_number a back e n) = (c, back, e, number_first c back text e n)

same_kind : {text f g : List ℕ} {c d : ℕ} (x : Five text f c) (y : Five text g d) → kind_of x ≡ kind_of y
same_kind x y =
    let a = head_of x in
    let b = head_of y in
    let e : a.0 ∷ a.1 ≡ b.0 ∷ b.1 = sym a.2 ∙ b.2 in
    let h : a.0 ≡ b.0 = cc in
    one_head (kind_of x) (kind_of y) b.0 (subst (IsHead (kind_of x)) h a.3) b.3

abbrev Same : {text f g : List ℕ} {c d : ℕ} → Five text f c → Five text g d → Type 0
Same {f = f} {g = g} {c = c} {d = d} x y = (code_of x ≡ code_of y) × (f ≡ g) × (c ≡ d)

closed_string : (text f : List ℕ) → IsOpenString text → IsBadEscape text f → ⊥
closed_string text f o b =
    let e : 34 ∷ (inside (b.good ++ Escape b.letter ∷ b.more) ++ 34 ∷ b.after) ≡ 34 ∷ o.back = sym b.is ∙ o.is in
    let q : inside (b.good ++ Escape b.letter ∷ b.more) ++ 34 ∷ b.after ≡ o.back = cc in
    o.open_end (b.good ++ Escape b.letter ∷ b.more) b.after b.parts (sym q)

escape_front : (text f g : List ℕ) → IsBadEscape text f → IsBadEscape text g → f ≡ g
escape_front text f g a b =
    let e : 34 ∷ (inside (a.good ++ Escape a.letter ∷ a.more) ++ 34 ∷ a.after) ≡ 34 ∷ (inside (b.good ++ Escape b.letter ∷ b.more) ++ 34 ∷ b.after) = sym a.is ∙ b.is in
    let q : inside (a.good ++ Escape a.letter ∷ a.more) ++ 34 ∷ a.after ≡ inside (b.good ++ Escape b.letter ∷ b.more) ++ 34 ∷ b.after = cc in
    let p = parts_one (a.good ++ Escape a.letter ∷ a.more) (b.good ++ Escape b.letter ∷ b.more) a.after b.after q a.parts b.parts in
    let good = first_bad a.good b.good a.letter b.letter a.more b.more a.value b.value p.0 a.mean b.mean a.bad b.bad in
    a.place ∙ ap (λ ps. 34 ∷ inside ps) good ∙ sym b.place

head_same : (c d : ℕ) (s t text : List ℕ) → text ≡ c ∷ s → text ≡ d ∷ t → c ≡ d
head_same c d s t text a b = let e : c ∷ s ≡ d ∷ t = sym a ∙ b in cc

five_one : {text f g : List ℕ} {c d : ℕ} (x : Five text f c) (y : Five text g d) → kind_of x ≡ kind_of y → Same x y
five_one {text = text} {c = c} {d = d} (bad_character a b) (bad_character p q) k = (refl, a ∙ sym p, head_same c d b.back q.back text b.is q.is)
five_one (bad_character a b) (open_comment p q r) k = absurd (cc)
five_one (bad_character a b) (open_string p q r) k = absurd (cc)
five_one (bad_character a b) (bad_escape p q) k = absurd (cc)
five_one (bad_character a b) (bad_number p q r s) k = absurd (cc)
five_one (open_comment a b e) (bad_character p q) k = absurd (cc)
five_one (open_comment a b e) (open_comment p q r) k = (refl, a ∙ sym p, b ∙ sym q)
five_one (open_comment a b e) (open_string p q r) k = absurd (cc)
five_one (open_comment a b e) (bad_escape p q) k = absurd (cc)
five_one (open_comment a b e) (bad_number p q r s) k = absurd (cc)
five_one (open_string a b e) (bad_character p q) k = absurd (cc)
five_one (open_string a b e) (open_comment p q r) k = absurd (cc)
five_one (open_string a b e) (open_string p q r) k = (refl, a ∙ sym p, b ∙ sym q)
five_one {text = text} {g = g} (open_string a b e) (bad_escape p q) k = absurd (closed_string text g e q)
five_one (open_string a b e) (bad_number p q r s) k = absurd (cc)
five_one (bad_escape a b) (bad_character p q) k = absurd (cc)
five_one (bad_escape a b) (open_comment p q r) k = absurd (cc)
five_one {text = text} {f = f} (bad_escape a b) (open_string p q r) k = absurd (closed_string text f r b)
five_one {text = text} {f = f} {g = g} (bad_escape a b) (bad_escape p q) k = (refl, escape_front text f g b q, a ∙ sym p)
five_one (bad_escape a b) (bad_number p q r s) k = absurd (cc)
five_one (bad_number a b e n) (bad_character p q) k = absurd (cc)
five_one (bad_number a b e n) (open_comment p q r) k = absurd (cc)
five_one (bad_number a b e n) (open_string p q r) k = absurd (cc)
five_one (bad_number a b e n) (bad_escape p q) k = absurd (cc)
five_one {text = text} {c = c} {d = d} (bad_number a b e n) (bad_number p q r s) k = (refl, a ∙ sym p, head_same c d b q text e r)

pub fault_one : (k j : Code) (text f g : List ℕ) (c d : ℕ) → IsFault k text f c → IsFault j text g d → (k ≡ j) × (f ≡ g) × (c ≡ d)
fault_one k j text f g c d x y =
    let a = five k text f c x in
    let b = five j text g d y in
    let s = five_one a.0 b.0 (same_kind a.0 b.0) in
    (a.1 ∙ s.0 ∙ sym b.1, s.1, s.2)
