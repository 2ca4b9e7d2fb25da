-- A sweep over a text, byte after byte.
use Rattle.std.proofs.Common.{◌≡◌, ℕ, zero, suc, ◌+◌, ◌≤◌, ◌<◌, Bool, true, false, not, ◌||◌, List, [], ◌∷◌, ◌++◌, length, get_or, take, refl, sym, ap, ◌∙◌, subst, arith}
use Rattle.std.specs.Prelude.{cond, count_by, if◌then◌else◌}
use Rattle.std.specs.List.{list_any}
use Rattle.std.proofs.Math.Seq.{take-suc}
use Rattle.std.proofs.lemmas.List.Sums.{count_by-le-length, sum_by-append}
use Rattle.std.proofs.lemmas.List.{length-take-le}
use Rattle.jn_base.specs.Place.{is_line_end, ends_line, is_continuation, line_ends, last_line, characters}
use Rattle.jn_diag.specs.declared.sweep.Position.{Position}
use Rattle.jn_diag.specs.Sweep.{IsPosition, byte_before, stepped}

-- the byte at the end of a text, or the one before the text
abbrev pub last_of : ℕ → List ℕ → ℕ
last_of before [] = before
last_of before (byte ∷ rest) = last_of byte rest

one_more_end : (b : Bool) (n k : ℕ) → (if b then 1 + (n + k) else (n + k)) ≡ (if b then 1 + n else n) + k
one_more_end true n k = omega arith
one_more_end false n k = refl

pub ends_more : (before : ℕ) (text : List ℕ) (byte : ℕ) → line_ends before (text ++ byte ∷ []) ≡ line_ends before text + cond (ends_line (last_of before text) byte) 1 0
ends_more before [] byte = by_cases (ends_line before byte)
  where
    by_cases : (b : Bool) → (if b then 1 + 0 else 0) ≡ 0 + cond b 1 0
    by_cases true = refl
    by_cases false = refl
ends_more before (first ∷ rest) byte =
    ap (λ n. if ends_line before first then 1 + n else n) (ends_more first rest byte)
    ∙ one_more_end (ends_line before first) (line_ends first rest) (cond (ends_line (last_of first rest) byte) 1 0)

or_true : (b : Bool) → (b || true) ≡ true
or_true true = refl
or_true false = refl

any_more : (text : List ℕ) (byte : ℕ) → is_line_end byte ≡ true → list_any is_line_end (text ++ byte ∷ []) ≡ true
any_more [] byte is = rw is refl
any_more (first ∷ rest) byte is = ap (λ b. is_line_end first || b) (any_more rest byte is) ∙ or_true (is_line_end first)

-- a line end at the end of a text leaves nothing after it
pub line_anew : (text : List ℕ) (byte : ℕ) → is_line_end byte ≡ true → last_line (text ++ byte ∷ []) ≡ []
line_anew [] byte is = rw is refl
line_anew (first ∷ rest) byte is = rw (any_more (first ∷ rest) byte is) (line_anew rest byte is)

any_same : (text : List ℕ) (byte : ℕ) → is_line_end byte ≡ false → list_any is_line_end (text ++ byte ∷ []) ≡ list_any is_line_end text
any_same [] byte is = rw is refl
any_same (first ∷ rest) byte is = ap (λ b. is_line_end first || b) (any_same rest byte is)

-- any other byte stands after the last line
pub line_longer : (text : List ℕ) (byte : ℕ) → is_line_end byte ≡ false → last_line (text ++ byte ∷ []) ≡ last_line text ++ byte ∷ []
line_longer [] byte is = rw is refl
line_longer (first ∷ rest) byte is = by_cases (list_any is_line_end (first ∷ rest)) refl (line_longer rest byte is)
  where
    by_cases : (b : Bool) → list_any is_line_end (first ∷ rest) ≡ b → last_line (rest ++ byte ∷ []) ≡ last_line rest ++ byte ∷ [] → last_line ((first ∷ rest) ++ byte ∷ []) ≡ last_line (first ∷ rest) ++ byte ∷ []
    by_cases true e longer = rw (any_same (first ∷ rest) byte is ∙ e) (rw e longer)
    by_cases false e longer = rw (any_same (first ∷ rest) byte is ∙ e) (rw e refl)

one_more : (text : List ℕ) (byte : ℕ) → characters (text ++ byte ∷ []) ≡ characters text + cond (is_continuation byte) 0 1
one_more text byte = sum_by-append (λ b. cond (not (is_continuation b)) 1 0) text (byte ∷ []) ∙ ap (λ n. characters text + n) (by_cases (is_continuation byte))
  where
    by_cases : (b : Bool) → 0 + cond {A = ℕ} (not b) 1 0 ≡ cond b 0 1
    by_cases true = refl
    by_cases false = refl

column_more : (text : List ℕ) (byte : ℕ) → 1 + characters (last_line (text ++ byte ∷ [])) ≡ cond (is_line_end byte) 1 (1 + characters (last_line text) + cond (is_continuation byte) 0 1)
column_more text byte = by_cases (is_line_end byte) refl
  where
    by_cases : (b : Bool) → is_line_end byte ≡ b → 1 + characters (last_line (text ++ byte ∷ [])) ≡ cond b 1 (1 + characters (last_line text) + cond (is_continuation byte) 0 1)
    by_cases true e = ap (λ xs. 1 + characters xs) (line_anew text byte e)
    by_cases false e = ap (λ xs. 1 + characters xs) (line_longer text byte e) ∙ ap (λ n. 1 + n) (one_more (last_line text) byte) ∙ (omega arith)

last_more : (before : ℕ) (text : List ℕ) (byte : ℕ) → last_of before (text ++ byte ∷ []) ≡ byte
last_more before [] byte = refl
last_more before (first ∷ rest) byte = last_more first rest byte

last_taken : (text : List ℕ) (at : ℕ) → at ≤ length text → last_of 0 (take at text) ≡ byte_before text at
last_taken text zero le = by_cases text
  where
    by_cases : (text : List ℕ) → last_of 0 (take 0 text) ≡ 0
    by_cases [] = refl
    by_cases (first ∷ rest) = refl
last_taken text (suc at) le = ap (last_of 0) (take-suc text at 0 (omega (arith, le))) ∙ last_more 0 (take at text) (get_or text at 0)

-- one byte more
pub step_is : (text : List ℕ) (position : Position) (previous byte : ℕ) → IsPosition text position → position.before < length text → previous ≡ byte_before text position.before → byte ≡ get_or text position.before 0 → IsPosition text (stepped position previous byte)
step_is text position previous byte is lt before there = record {
  within = omega (arith, lt);
  line = let here = is.line in omega (arith, here, ends);
  column = ap (λ n. cond (is_line_end byte) 1 (n + cond (is_continuation byte) 0 1)) is.column ∙ sym (column_more (take position.before text) byte) ∙ sym (ap (λ xs. 1 + characters (last_line xs)) more);
}
  where
    plain_suc : (n : ℕ) → n + 1 ≡ suc n
    plain_suc n = omega arith

    more : take (position.before + 1) text ≡ take position.before text ++ byte ∷ []
    more = ap (λ n. take n text) (plain_suc position.before) ∙ take-suc text position.before 0 lt ∙ ap (λ b. take position.before text ++ b ∷ []) (sym there)

    last_is : last_of 0 (take position.before text) ≡ previous
    last_is = last_taken text position.before (omega (arith, lt)) ∙ sym before

    ends : line_ends 0 (take (position.before + 1) text) ≡ line_ends 0 (take position.before text) + cond (ends_line previous byte) 1 0
    ends = ap (line_ends 0) more ∙ ends_more 0 (take position.before text) byte ∙ ap (λ b. line_ends 0 (take position.before text) + cond (ends_line b byte) 1 0) last_is

-- no more lines and characters than bytes
ends_few : (before : ℕ) (text : List ℕ) → line_ends before text ≤ length text
ends_few before [] = omega arith
ends_few before (first ∷ rest) = by_cases (ends_line before first) (line_ends first rest) (length rest) (ends_few first rest)
  where
    by_cases : (b : Bool) (n k : ℕ) → n ≤ k → (if b then 1 + n else n) ≤ suc k
    by_cases true n k le = omega (arith, le)
    by_cases false n k le = omega (arith, le)

line_short : (text : List ℕ) → length (last_line text) ≤ length text
line_short [] = omega arith
line_short (first ∷ rest) = by_cases (list_any is_line_end (first ∷ rest)) (line_short rest)
  where
    by_cases : (b : Bool) → length (last_line rest) ≤ length rest → length (if b then last_line rest else first ∷ rest) ≤ suc (length rest)
    by_cases true le = omega (arith, le)
    by_cases false le = omega arith

pub line_few : (text : List ℕ) (position : Position) → IsPosition text position → position.line ≤ 1 + position.before
line_few text position is =
    let ends = ends_few 0 (take position.before text) in
    let long = length-take-le position.before text is.within in
    let line = is.line in
    omega (arith, ends, long, line)

pub column_few : (text : List ℕ) (position : Position) → IsPosition text position → position.column ≤ 1 + position.before
column_few text position is =
    let few = count_by-le-length (λ byte. not (is_continuation byte)) (last_line (take position.before text)) in
    let short = line_short (take position.before text) in
    let long = length-take-le position.before text is.within in
    let column = is.column in
    omega (arith, few, short, long, column)
