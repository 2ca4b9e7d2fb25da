-- Numbers in a field's value.
use Rattle.std.proofs.Common.{◌≡◌, rules, ◌⊎◌, inl, inr, lit≤, ℕ, suc, zero, ◌+◌, ◌-◌, ◌*◌, ◌^◌, ◌<◌, ◌≤◌, ◌&&◌, Bool, true, false, List, [], ◌∷◌, ◌++◌, length, take, drop, get_or, None, refl, sym, ap, ◌∙◌, arith, append_assoc, pow-suc, subst}
use Rattle.std.proofs.Math.Nat.{pow-le-pow_right}
use Rattle.std.specs.Prelude.{cond, nat_le, ◌==◌}
use Rattle.std.specs.List.{list_all, prefix_len}
use Rattle.std.specs.Char.{is_ascii_digit, digit_value}
use Rattle.std.specs.Int.{IsInRange}
use Rattle.std.specs.Str.Parse.{digits_value, digits_value_after}
use Rattle.std.proofs.lemmas.Bool.{leb-true, le-leb, eqb-true, and_parts, and_from, or_cases, both_ways, false_from_ne_true}
use Rattle.std.proofs.lemmas.List.{drop_more, drop_all, take-append-drop, take_at, drop_at, take_rest}
use Rattle.std.proofs.lemmas.Str.{digit_value_digit}
use Rattle.std.proofs.lemmas.Str.Parse.{IsNumeralModel, numerals_by_value}
use Rattle.jn_lsp_frames.specs.Header.{is_blank, IsNumber}
use Rattle.jn_lsp_frames.specs.Lines.{SaysNumber}

-- ---- how many stand at the front

-- how many there are from this place on
abbrev pub Spans : (ℕ → Bool) → List ℕ → ℕ → Type 0
Spans is bytes at = at + prefix_len is (drop at bytes) ≡ prefix_len is bytes

pub span_here : (is : ℕ → Bool) (bytes : List ℕ) (at d : ℕ) → at < length bytes → Spans is bytes at → is (get_or bytes at d) ≡ false → at ≡ prefix_len is bytes
span_here is bytes at d lt so e =
    let z : prefix_len is (drop at bytes) ≡ 0 = ap (prefix_len is) (drop_more bytes at d lt) ∙ ap (λ b. cond b (1 + prefix_len is (drop (at + 1) bytes)) 0) e in
    omega (arith, so, z)

pub span_later : (is : ℕ → Bool) (bytes : List ℕ) (at d : ℕ) → at < length bytes → Spans is bytes at → is (get_or bytes at d) ≡ true → Spans is bytes (at + 1)
span_later is bytes at d lt so e =
    let z : prefix_len is (drop at bytes) ≡ 1 + prefix_len is (drop (at + 1) bytes) = ap (prefix_len is) (drop_more bytes at d lt) ∙ ap (λ b. cond b (1 + prefix_len is (drop (at + 1) bytes)) 0) e in
    omega (arith, so, z)

pub span_all : (is : ℕ → Bool) (bytes : List ℕ) → Spans is bytes (length bytes) → length bytes ≡ prefix_len is bytes
span_all is bytes so =
    let z : prefix_len is (drop (length bytes) bytes) ≡ 0 = ap (prefix_len is) (drop_all (length bytes) bytes (omega arith)) in
    omega (arith, so, z)

pub all_in_span : (is : ℕ → Bool) (bytes : List ℕ) → list_all is (take (prefix_len is bytes) bytes) ≡ true
all_in_span is [] = refl
all_in_span is (byte ∷ bytes) = by (is byte) refl (all_in_span is bytes)
  where
    by : (b : Bool) → is byte ≡ b → list_all is (take (prefix_len is bytes) bytes) ≡ true → list_all is (take (cond b (1 + prefix_len is bytes) 0) (byte ∷ bytes)) ≡ true
    by true e so =
        let n = prefix_len is bytes in
        let one : 1 + n ≡ suc n = omega arith in
        ap (λ k. list_all is (take k (byte ∷ bytes))) one ∙ ap (λ b. b && list_all is (take n bytes)) e ∙ so
    by false e so = refl

-- all of a front pass, and what stands after it doesn't
span_is : (is : ℕ → Bool) (front behind : List ℕ) → list_all is front ≡ true → prefix_len is behind ≡ 0 → prefix_len is (front ++ behind) ≡ length front
span_is is [] behind e z = z
span_is is (byte ∷ front) behind e z =
    let parts = and_parts (is byte) (list_all is front) e in
    let more = span_is is front behind parts.1 z in
    ap (λ b. cond b (1 + prefix_len is (front ++ behind)) 0) parts.0 ∙ omega (arith, more)

-- ---- digits

pub digit_range : (byte : ℕ) → is_ascii_digit byte ≡ true → IsInRange 48 57 byte
digit_range byte e = let parts = and_parts (nat_le 48 byte) (nat_le byte 57) e in (leb-true 48 byte parts.0, leb-true byte 57 parts.1)

pub digit_at : (digits : List ℕ) (at d : ℕ) → at < length digits → list_all is_ascii_digit digits ≡ true → (48 ≤ get_or digits at d) × (get_or digits at d ≤ 57)
digit_at [] at d lt e = absurd (omega (arith, lt))
digit_at (digit ∷ digits) zero d lt e = digit_range digit (and_parts (is_ascii_digit digit) (list_all is_ascii_digit digits) e).0
digit_at (digit ∷ digits) (suc at) d lt e = digit_at digits at d (omega (arith, lt)) (and_parts (is_ascii_digit digit) (list_all is_ascii_digit digits) e).1

-- so many digits write a number below this power
pub small_step : (number digit at : ℕ) → number < 10 ^ at → digit ≤ 57 → number * 10 + (digit - 48) < 10 ^ (at + 1)
small_step number digit at h le = let one : at + 1 ≡ suc at = omega arith in
    let e : 10 ^ (at + 1) ≡ 10 ^ at * 10 = ap (λ n. 10 ^ n) one ∙ pow-suc 10 at in omega (arith, h, le, e)

few : (at : ℕ) → at ≤ 8 → 10 ^ at ≤ 10 ^ 8
few at le = pow-le-pow_right (lit≤ tt) le

pub number_fits : (number digit at count : ℕ) → number < 10 ^ at → digit ≤ 57 → at < count → count ≤ 9 → number * 10 + (digit - 48) < 4294967296
number_fits number digit at count h le lt most = omega (arith, h, le, few at (omega (arith, lt, most)))

-- the digits from this place on write the rest of the number
abbrev pub Writes : List ℕ → ℕ → ℕ → Type 0
Writes digits number at = digits_value_after 10 number (drop at digits) ≡ digits_value 10 digits

pub writes_more : (digits : List ℕ) (number at d : ℕ) → at < length digits → 48 ≤ get_or digits at d → get_or digits at d ≤ 57 → Writes digits number at → Writes digits (number * 10 + (get_or digits at d - 48)) (at + 1)
writes_more digits number at d lt low high so =
    let value : digit_value (get_or digits at d) ≡ get_or digits at d - 48 = omega (arith, digit_value_digit (get_or digits at d) (low, high)) in
    ap (λ v. digits_value_after 10 (number * 10 + v) (drop (at + 1) digits)) (sym value) ∙ sym (ap (digits_value_after 10 number) (drop_more digits at d lt)) ∙ so

pub writes_all : (digits : List ℕ) (number : ℕ) → Writes digits number (length digits) → number ≡ digits_value 10 digits
writes_all digits number so = sym (ap (digits_value_after 10 number) (drop_all (length digits) digits (omega arith))) ∙ so

-- ---- a value

pub own : IsNumeralModel (λ digits. list_all is_ascii_digit digits ≡ true) (digits_value 10)
own = numerals_by_value (λ digits. list_all is_ascii_digit digits ≡ true) (search rules)

blank_digit : (byte : ℕ) → is_blank byte ≡ true → is_ascii_digit byte ≡ true → ⊥
blank_digit byte blank digit = by (or_cases (byte == 32) (byte == 9) blank)
  where
    by : (byte == 32 ≡ true) ⊎ (byte == 9 ≡ true) → ⊥
    by (inl e) = omega (arith, eqb-true byte 32 e, (digit_range byte digit).0)
    by (inr e) = omega (arith, eqb-true byte 9 e, (digit_range byte digit).0)

-- a number begins with no blank
no_blank : (digits behind : List ℕ) → 0 < length digits → list_all is_ascii_digit digits ≡ true → prefix_len is_blank (digits ++ behind) ≡ 0
no_blank [] behind some e = absurd (omega (arith, some))
no_blank (digit ∷ digits) behind some e = ap (λ b. cond b (1 + prefix_len is_blank (digits ++ behind)) 0) (false_from_ne_true (is_blank digit) (λ blank. blank_digit digit blank (and_parts (is_ascii_digit digit) (list_all is_ascii_digit digits) e).0))

-- and blanks with no digit
no_digit : (behind : List ℕ) → list_all is_blank behind ≡ true → prefix_len is_ascii_digit behind ≡ 0
no_digit [] e = refl
no_digit (byte ∷ behind) e = ap (λ b. cond b (1 + prefix_len is_ascii_digit behind) 0) (false_from_ne_true (is_ascii_digit byte) (blank_digit byte (and_parts (is_blank byte) (list_all is_blank behind) e).0))

-- where its parts are
abbrev pub front_of : List ℕ → List ℕ
front_of value = drop (prefix_len is_blank value) value

abbrev pub digits_of : List ℕ → List ℕ
digits_of value = take (prefix_len is_ascii_digit (front_of value)) (front_of value)

abbrev pub behind_of : List ℕ → List ℕ
behind_of value = drop (prefix_len is_ascii_digit (front_of value)) (front_of value)

module _ (value : List ℕ) (number : ℕ) (is : IsNumber value number) where
  all_digits : list_all is_ascii_digit is.digits ≡ true
  all_digits = own.from is.digits is.numeral.1

  parts : value ≡ is.before ++ (is.digits ++ is.behind)
  parts = is.parts ∙ append_assoc is.before is.digits is.behind

  blanks : prefix_len is_blank value ≡ length is.before
  blanks = ap (prefix_len is_blank) parts ∙ span_is is_blank is.before (is.digits ++ is.behind) is.blanks (no_blank is.digits is.behind is.numeral.0 all_digits)

  front_is : front_of value ≡ is.digits ++ is.behind
  front_is = ap (λ v. drop (prefix_len is_blank value) v) parts ∙ drop_at is.before (is.digits ++ is.behind) (prefix_len is_blank value) (sym blanks)

  count : prefix_len is_ascii_digit (front_of value) ≡ length is.digits
  count = ap (prefix_len is_ascii_digit) front_is ∙ span_is is_ascii_digit is.digits is.behind all_digits (no_digit is.behind is.blanks_behind)

  digits_are : digits_of value ≡ is.digits
  digits_are = ap (λ v. take (prefix_len is_ascii_digit (front_of value)) v) front_is ∙ take_at is.digits is.behind (prefix_len is_ascii_digit (front_of value)) (sym count)

  behind_is : behind_of value ≡ is.behind
  behind_is = ap (λ v. drop (prefix_len is_ascii_digit (front_of value)) v) front_is ∙ drop_at is.digits is.behind (prefix_len is_ascii_digit (front_of value)) (sym count)

pub one_number : (value : List ℕ) (m n : ℕ) → IsNumber value m → IsNumber value n → m ≡ n
one_number value m n p q = p.is ∙ ap (digits_value 10) (sym (digits_are value m p) ∙ digits_are value n q) ∙ sym q.is

-- the test of the code
abbrev pub passes : List ℕ → List ℕ → Bool
passes digits behind = nat_le 1 (length digits) && nat_le (length digits) 9 && list_all is_blank behind

pub passes_few : (digits behind : List ℕ) → passes digits behind ≡ true → (1 ≤ length digits) × (length digits ≤ 9) × (list_all is_blank behind ≡ true)
passes_few digits behind e =
    let outer = and_parts (nat_le 1 (length digits) && nat_le (length digits) 9) (list_all is_blank behind) e in
    let inner = and_parts (nat_le 1 (length digits)) (nat_le (length digits) 9) outer.0 in
    (leb-true 1 (length digits) inner.0, leb-true (length digits) 9 inner.1, outer.1)

passes_so : (digits behind : List ℕ) → 1 ≤ length digits → length digits ≤ 9 → list_all is_blank behind ≡ true → passes digits behind ≡ true
passes_so digits behind low high blank = and_from (nat_le 1 (length digits) && nat_le (length digits) 9) (list_all is_blank behind) (and_from (nat_le 1 (length digits)) (nat_le (length digits) 9) (le-leb 1 (length digits) low) (le-leb (length digits) 9 high)) blank

pub is_number : (value : List ℕ) (number : ℕ) → passes (digits_of value) (behind_of value) ≡ true → number ≡ digits_value 10 (digits_of value) → IsNumber value number
is_number value number e is =
    let few = passes_few (digits_of value) (behind_of value) e in
    let blanks = prefix_len is_blank value in record {
      before = take blanks value;
      digits = digits_of value;
      behind = behind_of value;
      parts = sym (append_assoc (take blanks value) (digits_of value) (behind_of value) ∙ ap (λ l. take blanks value ++ l) (take-append-drop (prefix_len is_ascii_digit (front_of value)) (front_of value)) ∙ take-append-drop blanks value);
      blanks = all_in_span is_blank value;
      numeral = (few.0, own.to (digits_of value) (all_in_span is_ascii_digit (front_of value)));
      few = few.1;
      blanks_behind = few.2;
      is = is;
    }

pub no_number : (value : List ℕ) → passes (digits_of value) (behind_of value) ≡ false → SaysNumber value None
no_number value e number is = both_ways (passes (digits_of value) (behind_of value)) e
    (passes_so (digits_of value) (behind_of value) (subst (λ l. 1 ≤ length l) (sym (digits_are value number is)) is.numeral.0) (subst (λ l. length l ≤ 9) (sym (digits_are value number is)) is.few) (subst (λ l. list_all is_blank l ≡ true) (sym (behind_is value number is)) is.blanks_behind))

-- the parts as the code cuts them
pub cut : (value digits behind : List ℕ) (blanks count : ℕ) → blanks ≡ prefix_len is_blank value → count ≡ prefix_len is_ascii_digit (take (length value - blanks) (drop blanks value)) → digits ≡ take count (take (length value - blanks) (drop blanks value)) → behind ≡ drop count (take (length value - blanks) (drop blanks value)) → (digits ≡ digits_of value) × (behind ≡ behind_of value)
cut value digits behind blanks count b k d r =
    let front : take (length value - blanks) (drop blanks value) ≡ front_of value = take_rest value blanks ∙ ap (λ n. drop n value) b in
    let same : count ≡ prefix_len is_ascii_digit (front_of value) = k ∙ ap (prefix_len is_ascii_digit) front in
    (d ∙ ap (take count) front ∙ ap (λ n. take n (front_of value)) same, r ∙ ap (drop count) front ∙ ap (λ n. drop n (front_of value)) same)

pub cut_number : (value digits behind : List ℕ) (number : ℕ) → (digits ≡ digits_of value) × (behind ≡ behind_of value) → passes digits behind ≡ true → number ≡ digits_value 10 digits → IsNumber value number
cut_number value digits behind number e so is = is_number value number (sym (ap (λ d. passes d behind) e.0 ∙ ap (passes (digits_of value)) e.1) ∙ so) (is ∙ ap (digits_value 10) e.0)

pub cut_none : (value digits behind : List ℕ) → (digits ≡ digits_of value) × (behind ≡ behind_of value) → passes digits behind ≡ false → SaysNumber value None
cut_none value digits behind e so = no_number value (sym (ap (λ d. passes d behind) e.0 ∙ ap (passes (digits_of value)) e.1) ∙ so)

pub cut_digits : (value digits behind : List ℕ) → (digits ≡ digits_of value) × (behind ≡ behind_of value) → list_all is_ascii_digit digits ≡ true
cut_digits value digits behind e = ap (list_all is_ascii_digit) e.0 ∙ all_in_span is_ascii_digit (front_of value)
