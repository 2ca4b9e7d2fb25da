-- What is shown of a line.
use Rattle.std.proofs.Common.{◌≡◌, ℕ, ◌+◌, ◌-◌, ◌≤◌, ◌<◌, ◌==◌, Bool, true, false, not, List, [], ◌∷◌, ◌++◌, length, get_or, take, drop, append_assoc, append-nil, refl, sym, ap, ◌∙◌, arith}
use Rattle.std.specs.Prelude.{cond, max, min, nat_le, if◌then◌else◌}
use Rattle.std.proofs.Math.Dec.{leb-zero}
use Rattle.std.proofs.Math.Seq.{take-length, drop-length}
use Rattle.std.proofs.lemmas.Bool.{le-leb, leb-true}
use Rattle.std.proofs.lemmas.Bool.Decides.{nat_tests}
use Rattle.std.proofs.lemmas.List.{drop_more, take_more, length-append}
use Rattle.std.proofs.lemmas.List.Sums.{sum_by-append}
use Rattle.jn_base.specs.Place.{characters, is_continuation, is_line_end, last_line}
use Rattle.jn_diag.proofs.Sweeping.{line_anew, line_longer}
use Rattle.jn_reporters.specs.Excerpts.{begun, first_characters, first_line, last_characters}
use Rattle.jn_reporters.specs.Walks.{GoesBack, GoesOn, is_nothing}

-- ---- from a place on

-- the line that begins at a byte that doesn't end it
line_on : (text : List ℕ) (at : ℕ) → at < length text → is_line_end (get_or text at 0) ≡ false → first_line (drop at text) ≡ get_or text at 0 ∷ first_line (drop (at + 1) text)
line_on text at lt inside = ap first_line (drop_more text at 0 lt) ∙ ap (λ b. if b then [] else get_or text at 0 ∷ first_line (drop (at + 1) text)) inside

pub line_over : (text : List ℕ) (at : ℕ) → at < length text → is_line_end (get_or text at 0) ≡ true → first_line (drop at text) ≡ []
line_over text at lt ends = ap first_line (drop_more text at 0 lt) ∙ ap (λ b. if b then [] else get_or text at 0 ∷ first_line (drop (at + 1) text)) ends

shifted : (text rest : List ℕ) (at : ℕ) → at < length text → take (at + 1) text ++ rest ≡ take at text ++ get_or text at 0 ∷ rest
shifted text rest at lt = ap (λ xs. xs ++ rest) (take_more text at 0 lt) ∙ append_assoc (take at text) (get_or text at 0 ∷ []) rest

pub line_more : (text whole : List ℕ) (at left : ℕ) → GoesOn text at left → take at text ++ first_line (drop at text) ≡ whole → take (at + 1) text ++ first_line (drop (at + 1) text) ≡ whole
line_more text whole at left on is = shifted text (first_line (drop (at + 1) text)) at on.within ∙ ap (λ xs. take at text ++ xs) (sym (line_on text at on.within on.inside)) ∙ is

pub front_more : (text whole : List ℕ) (at left : ℕ) → GoesOn text at left → take at text ++ first_characters left (first_line (drop at text)) ≡ whole → take (at + 1) text ++ first_characters (left - begun (get_or text at 0)) (first_line (drop (at + 1) text)) ≡ whole
front_more text whole at left on is =
    let byte = get_or text at 0 in
    let rest = first_line (drop (at + 1) text) in
    let taken : first_characters left (byte ∷ rest) ≡ byte ∷ first_characters (left - begun byte) rest = ap (λ b. if b then byte ∷ first_characters (left - begun byte) rest else []) (le-leb (begun byte) left on.fits) in
    shifted text (first_characters (left - begun byte) rest) at on.within ∙ ap (λ xs. take at text ++ xs) (sym taken ∙ ap (first_characters left) (sym (line_on text at on.within on.inside))) ∙ is

-- ---- back from a place

-- a byte that is no line end stands before the place
before_is : (text : List ℕ) (at : ℕ) → 0 < at → at ≤ length text → take at text ≡ take (at - 1) text ++ get_or text (at - 1) 0 ∷ []
before_is text at some le =
    let e : at - 1 + 1 ≡ at = omega (arith, some) in
    let lt : at - 1 < length text = omega (arith, some, le) in
    ap (λ n. take n text) (sym e) ∙ take_more text (at - 1) 0 lt

pub line_back : (text : List ℕ) (at : ℕ) → 0 < at → at ≤ length text → is_line_end (get_or text (at - 1) 0) ≡ false → last_line (take at text) ≡ last_line (take (at - 1) text) ++ get_or text (at - 1) 0 ∷ []
line_back text at some le inside = ap last_line (before_is text at some le) ∙ line_longer (take (at - 1) text) (get_or text (at - 1) 0) inside

pub line_anew_at : (text : List ℕ) (at : ℕ) → 0 < at → at ≤ length text → is_line_end (get_or text (at - 1) 0) ≡ true → last_line (take at text) ≡ []
line_anew_at text at some le ends = ap last_line (before_is text at some le) ∙ line_anew (take (at - 1) text) (get_or text (at - 1) 0) ends

one_more : (text : List ℕ) (byte : ℕ) → characters (text ++ byte ∷ []) ≡ characters text + begun byte
one_more text byte = sum_by-append (λ b. cond (not (is_continuation b)) 1 0) text (byte ∷ []) ∙ ap (λ n. characters text + n) (by_cases (is_continuation byte))
  where
    by_cases : (b : Bool) → 0 + cond {A = ℕ} (not b) 1 0 ≡ (if b then 0 else 1)
    by_cases true = refl
    by_cases false = refl

char_cons : (byte : ℕ) (rest : List ℕ) → characters (byte ∷ rest) ≡ begun byte + characters rest
char_cons byte rest = sum_by-append (λ b. cond (not (is_continuation b)) 1 0) (byte ∷ []) rest ∙ ap (λ n. n + characters rest) (by_cases (is_continuation byte))
  where
    by_cases : (b : Bool) → 0 + cond {A = ℕ} (not b) 1 0 ≡ (if b then 0 else 1)
    by_cases true = refl
    by_cases false = refl

few_begun : (byte : ℕ) → begun byte ≤ 1
few_begun byte = by_cases (is_continuation byte)
  where
    by_cases : (b : Bool) → (if b then 0 else 1) ≤ 1
    by_cases true = omega arith
    by_cases false = omega arith

moved_test : (count k n : ℕ) → nat_le count (n + k) ≡ nat_le (count - k) n
moved_test count k n = grind (arith, nat_tests)

-- of so many characters a byte at the end takes its own
last_more : (count : ℕ) (text : List ℕ) (byte : ℕ) → 0 < count → last_characters count (text ++ byte ∷ []) ≡ last_characters (count - begun byte) text ++ byte ∷ []
last_more count [] byte some =
    let fewer : nat_le count 0 ≡ false = grind (arith, nat_tests, some) in
    ap (λ b. if b then [] else byte ∷ []) fewer
last_more count (first ∷ rest) byte some =
    let same : nat_le count (characters (rest ++ byte ∷ [])) ≡ nat_le (count - begun byte) (characters rest) = ap (nat_le count) (one_more rest byte) ∙ moved_test count (begun byte) (characters rest) in
    by_cases (nat_le (count - begun byte) (characters rest)) same refl (last_more count rest byte some)
  where
    by_cases : (b : Bool) → nat_le count (characters (rest ++ byte ∷ [])) ≡ nat_le (count - begun byte) (characters rest) → nat_le (count - begun byte) (characters rest) ≡ b → last_characters count (rest ++ byte ∷ []) ≡ last_characters (count - begun byte) rest ++ byte ∷ [] → last_characters count ((first ∷ rest) ++ byte ∷ []) ≡ last_characters (count - begun byte) (first ∷ rest) ++ byte ∷ []
    by_cases true same e more = rw (same ∙ e) (rw e more)
    by_cases false same e more = rw (same ∙ e) (rw e refl)

pub none_last : (text : List ℕ) → last_characters 0 text ≡ []
none_last [] = refl
none_last (byte ∷ rest) = ap (λ b. if b then last_characters 0 rest else byte ∷ rest) (leb-zero (characters rest)) ∙ none_last rest

module _ (text whole : List ℕ) (at : ℕ) (le : at ≤ length text) where
  module _ (left : ℕ) (back : GoesBack text at left) where
    abbrev last : ℕ
    last = get_or text (at - 1) 0

    dropped : drop (at - 1) text ≡ last ∷ drop at text
    dropped =
        let some = back.some in
        let e : at - 1 + 1 ≡ at = omega (arith, some) in
        let lt : at - 1 < length text = omega (arith, some, le) in
        drop_more text (at - 1) 0 lt ∙ ap (λ n. last ∷ drop n text) e

    moved : (front : List ℕ) → front ++ drop (at - 1) text ≡ (front ++ last ∷ []) ++ drop at text
    moved front = ap (λ xs. front ++ xs) dropped ∙ sym (append_assoc front (last ∷ []) (drop at text))

    pub line_less : last_line (take at text) ++ drop at text ≡ whole → last_line (take (at - 1) text) ++ drop (at - 1) text ≡ whole
    line_less is = moved (last_line (take (at - 1) text)) ∙ ap (λ xs. xs ++ drop at text) (sym (line_back text at back.some le back.inside)) ∙ is

    pub back_less : last_characters left (last_line (take at text)) ++ drop at text ≡ whole → last_characters (left - begun last) (last_line (take (at - 1) text)) ++ drop (at - 1) text ≡ whole
    back_less is =
        moved (last_characters (left - begun last) (last_line (take (at - 1) text)))
        ∙ ap (λ xs. xs ++ drop at text) (sym (last_more left (last_line (take (at - 1) text)) last back.more) ∙ ap (last_characters left) (sym (line_back text at back.some le back.inside)))
        ∙ is

-- what stands before a text's beginning
pub at_start : (text : List ℕ) (at : ℕ) → at ≡ 0 → last_line (take at text) ≡ []
at_start text at e = ap (λ n. last_line (take n text)) e ∙ none text
  where
    none : (text : List ℕ) → last_line (take 0 text) ≡ []
    none [] = refl
    none (byte ∷ rest) = refl

pub whole_back : (f : List ℕ → List ℕ) (text : List ℕ) → f (take (length text) text) ++ drop (length text) text ≡ f text
whole_back f text = ap (λ xs. f xs ++ drop (length text) text) (take-length text) ∙ ap (λ xs. f text ++ xs) (drop-length text) ∙ append-nil (f text)

-- ---- how much is shown

step_many : (count byte : ℕ) (rest : List ℕ) → ((n : ℕ) → characters (first_characters n rest) ≡ min n (characters rest)) → characters (first_characters count (byte ∷ rest)) ≡ min count (characters (byte ∷ rest))
step_many count byte rest more = by_cases (nat_le (begun byte) count) refl
  where
    by_cases : (b : Bool) → nat_le (begun byte) count ≡ b → characters (if b then byte ∷ first_characters (count - begun byte) rest else []) ≡ min count (characters (byte ∷ rest))
    by_cases true e =
        let fits : begun byte ≤ count = leb-true (begun byte) count e in
        let behind = more (count - begun byte) in
        let whole = char_cons byte rest in
        char_cons byte (first_characters (count - begun byte) rest) ∙ omega (arith, fits, behind, whole)
    by_cases false e =
        let over : count < begun byte = grind (arith, nat_tests, e) in
        let few = few_begun byte in
        omega (arith, over, few)

pub as_many : (count : ℕ) (text : List ℕ) → characters (first_characters count text) ≡ min count (characters text)
as_many count [] = omega arith
as_many count (byte ∷ rest) = step_many count byte rest (λ n. as_many n rest)

pub most_is : (n c : ℕ) → n ≡ min 60 c → max 60 (120 - n) ≡ max 60 (120 - c)
most_is n c is = omega (arith, is)

-- what a part leaves out
pub none_ahead : (part left whole : List ℕ) → part ++ left ≡ whole → is_nothing left ≡ (length part == length whole)
none_ahead part left whole is = tells left ∙ ap (λ n. length part == n) (sym (length-append part left) ∙ ap length is)
  where
    tells : (left : List ℕ) → is_nothing left ≡ (length part == length part + length left)
    tells [] = grind (arith, nat_tests)
    tells (byte ∷ rest) = grind (arith, nat_tests)

pub none_before : (left part whole : List ℕ) → left ++ part ≡ whole → is_nothing left ≡ (length part == length whole)
none_before left part whole is = tells left ∙ ap (λ n. length part == n) (sym (length-append left part) ∙ ap length is)
  where
    tells : (left : List ℕ) → is_nothing left ≡ (length part == length left + length part)
    tells [] = grind (arith, nat_tests)
    tells (byte ∷ rest) = grind (arith, nat_tests)

nothing_before : (xs : List ℕ) (byte : ℕ) → is_nothing (xs ++ byte ∷ []) ≡ false
nothing_before [] byte = refl
nothing_before (x ∷ xs) byte = refl

-- a line begins after a line end
pub begins_at : (text : List ℕ) (at : ℕ) (ends : Bool) → 0 < at → at ≤ length text → ends ≡ is_line_end (get_or text (at - 1) 0) → ends ≡ is_nothing (last_line (take at text))
begins_at text at true some le is = sym (ap is_nothing (line_anew_at text at some le (sym is)))
begins_at text at false some le is = sym (ap is_nothing (line_back text at some le (sym is)) ∙ nothing_before (last_line (take (at - 1) text)) (get_or text (at - 1) 0))

-- a line end stands before the place, or no character is left
pub back_ends : (text : List ℕ) (at left : ℕ) (ends : Bool) → 0 < at → at ≤ length text → ends ≡ is_line_end (get_or text (at - 1) 0) → not ends ≡ false → last_characters left (last_line (take at text)) ≡ []
back_ends text at left true some le is none = ap (last_characters left) (line_anew_at text at some le (sym is))
back_ends text at left false some le is none = absurd (never none)
  where
    never : true ≡ false → ⊥
    never e = cc
