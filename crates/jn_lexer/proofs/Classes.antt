-- Which classes single characters are of.
use Rattle.std.proofs.Common.{◌≡◌, ℕ, ◌<◌, ◌≤◌, Bool, true, false, not, ◌&&◌, ◌||◌, ◌⊎◌, inl, inr, ⊎_elim, refl, sym, ap, ◌∙◌, subst, arith, lit<}
use Rattle.std.specs.Prelude.{nat_eq, nat_le, nat_lt}
use Rattle.std.specs.Char.{is_ascii_alphabetic, is_ascii_alphanumeric, is_ascii_digit}
use Rattle.std.proofs.lemmas.Bool.{eqb-true, eq-eqb, and_parts, or_cases, ltb-true, leb-true, false≢true}
use Rattle.unicode_ident.specs.Ident.{is_xid_continue}
use Rattle.unicode_ident.proofs.IdentLemmas.{is_xid_start-ascii, is_xid_continue-ascii, is_xid_start-is_xid_continue}
use Rattle.jn_lexer.specs.Characters.{is_start, is_part, is_digit, is_digit_or_low, is_white, is_line_end}

pub white_47 : is_white 47 ≡ false
unfolding is_white is_line_end
white_47 = refl

-- ASCII characters
abbrev pub is_lower : ℕ → Bool
is_lower c = nat_le 97 c && nat_le c 122

abbrev pub ascii_start : ℕ → Bool
ascii_start c = is_ascii_alphabetic c || nat_eq c 95 || nat_eq c 36

abbrev pub ascii_part : ℕ → Bool
ascii_part c = (is_ascii_alphanumeric c || nat_eq c 95) || nat_eq c 36

abbrev pub ascii_digit : ℕ → Bool
ascii_digit c = nat_le 48 c && nat_le c 57

abbrev pub ascii_white : ℕ → Bool
ascii_white c = (nat_eq c 32 || nat_eq c 9 || nat_eq c 12) || (nat_eq c 10 || nat_eq c 13)

abbrev pub is_mark : ℕ → Bool
is_mark c = nat_lt c 128 && (not (ascii_start c) && (not (ascii_digit c) && not (nat_eq c 34)))

pub start_ascii : (c : ℕ) → c < 128 → is_start c ≡ ascii_start c
unfolding is_start
start_ascii c l = ap (λ b. b || nat_eq c 95 || nat_eq c 36) (is_xid_start-ascii c l)

pub part_ascii : (c : ℕ) → c < 128 → is_part c ≡ ascii_part c
unfolding is_part
part_ascii c l = ap (λ b. b || nat_eq c 36) (is_xid_continue-ascii c l)

-- the same, with the most frequent class first
part_letter_first : (c : ℕ) → c < 128 → is_part c ≡ (is_ascii_alphabetic c || is_ascii_digit c || nat_eq c 95 || nat_eq c 36)
part_letter_first c l = part_ascii c l ∙ ap (λ b. b || nat_eq c 95 || nat_eq c 36) (turned (is_ascii_digit c) (nat_le 65 c && nat_le c 90) (nat_le 97 c && nat_le c 122))
  where
    turned : (d u l : Bool) → (d || u || l) ≡ (u || l || d)
    turned true true l = refl
    turned true false true = refl
    turned true false false = refl
    turned false true l = refl
    turned false false true = refl
    turned false false false = refl

pub part_otherwise : (c : ℕ) → c < 128 → is_ascii_alphabetic c ≡ false → is_part c ≡ (is_ascii_digit c || nat_eq c 95 || nat_eq c 36)
part_otherwise c l e = part_letter_first c l ∙ ap (λ b. b || is_ascii_digit c || nat_eq c 95 || nat_eq c 36) e

digit_ascii : (c : ℕ) → is_digit c ≡ ascii_digit c
unfolding is_digit
digit_ascii c = refl

white_ascii : (c : ℕ) → is_white c ≡ ascii_white c
unfolding is_white is_line_end
white_ascii c = refl

pub digit_48 : is_digit 48 ≡ true
digit_48 = digit_ascii 48

or_left : (a b : Bool) → a ≡ true → (a || b) ≡ true
or_left a b e = ap (λ x. x || b) e

or_right : (a b : Bool) → b ≡ true → (a || b) ≡ true
or_right true b e = refl
or_right false b e = e

pub not_both : (b : Bool) → b ≡ true → b ≡ false → ⊥
not_both b t f = false≢true (sym f ∙ t)

pub not_true : (b : Bool) → (b ≡ true → ⊥) → b ≡ false
not_true true f = absurd (f refl)
not_true false f = refl

pub not_flips : (b : Bool) → not b ≡ true → b ≡ false
not_flips true e = absurd (false≢true e)
not_flips false e = refl

-- the bounds of a test
in_range : (l h c : ℕ) → (nat_le l c && nat_le c h) ≡ true → (l ≤ c) × (c ≤ h)
in_range l h c e = let p = and_parts (nat_le l c) (nat_le c h) e in (leb-true l c p.0, leb-true c h p.1)

start_cases : (c : ℕ) → ascii_start c ≡ true → (((65 ≤ c) × (c ≤ 90)) ⊎ ((97 ≤ c) × (c ≤ 122))) ⊎ ((c ≡ 95) ⊎ (c ≡ 36))
start_cases c e =
    ⊎_elim (λ a. ⊎_elim (λ b. inl (⊎_elim (λ u. inl (in_range 65 90 c u)) (λ u. inr (in_range 97 122 c u)) (or_cases _ _ b))) (λ b. inr (inl (eqb-true c 95 b))) (or_cases _ _ a)) (λ a. inr (inr (eqb-true c 36 a))) (or_cases _ _ e)

pub letter_part : (c : ℕ) → is_ascii_alphabetic c ≡ true → is_part c ≡ true
letter_part c e =
    let small : c < 128 = ⊎_elim (λ u. let b = in_range 65 90 c u in omega arith) (λ l. let b = in_range 97 122 c l in omega arith) (or_cases _ _ e) in
    part_letter_first c small ∙ ap (λ b. b || is_ascii_digit c || nat_eq c 95 || nat_eq c 36) e

pub digit_bounds : (c : ℕ) → is_digit c ≡ true → (48 ≤ c) × (c ≤ 57)
digit_bounds c e = in_range 48 57 c (sym (digit_ascii c) ∙ e)

pub lower_start : (c : ℕ) → is_lower c ≡ true → is_start c ≡ true
lower_start c e =
    let b = in_range 97 122 c e in
    start_ascii c (omega arith) ∙ or_left (is_ascii_alphabetic c || nat_eq c 95) (nat_eq c 36) (or_left (is_ascii_alphabetic c) (nat_eq c 95) (or_right (nat_le 65 c && nat_le c 90) (nat_le 97 c && nat_le c 122) e))

pub lower_part : (c : ℕ) → is_lower c ≡ true → is_part c ≡ true
lower_part c e =
    let b = in_range 97 122 c e in
    part_ascii c (omega arith) ∙ or_left (is_ascii_alphanumeric c || nat_eq c 95) (nat_eq c 36) (or_left (is_ascii_alphanumeric c) (nat_eq c 95) (or_right ((nat_le 48 c && nat_le c 57) || (nat_le 65 c && nat_le c 90)) (nat_le 97 c && nat_le c 122) e))

pub digit_part : (c : ℕ) → is_digit c ≡ true → is_part c ≡ true
digit_part c e =
    let b = digit_bounds c e in
    part_ascii c (omega arith) ∙ or_left (is_ascii_alphanumeric c || nat_eq c 95) (nat_eq c 36) (or_left (is_ascii_alphanumeric c) (nat_eq c 95) (or_left ((nat_le 48 c && nat_le c 57) || (nat_le 65 c && nat_le c 90)) (nat_le 97 c && nat_le c 122) (or_left (nat_le 48 c && nat_le c 57) (nat_le 65 c && nat_le c 90) (sym (digit_ascii c) ∙ e))))

pub low_part : (c : ℕ) → is_digit_or_low c ≡ true → is_part c ≡ true
unfolding is_digit_or_low
low_part c e = ⊎_elim (λ d. digit_part c d) (λ d. subst (λ x. is_part x ≡ true) (sym (eqb-true c 95 d)) (part_ascii 95 (lit< tt))) (or_cases _ _ e)

pub start_part : (c : ℕ) → is_start c ≡ true → is_part c ≡ true
unfolding is_start is_part
start_part c e =
    ⊎_elim (λ a. ⊎_elim (λ b. or_left (is_xid_continue c) (nat_eq c 36) (is_xid_start-is_xid_continue c b)) (λ b. or_left (is_xid_continue c) (nat_eq c 36) (subst (λ x. is_xid_continue x ≡ true) (sym (eqb-true c 95 b)) (is_xid_continue-ascii 95 (lit< tt)))) (or_cases _ _ a)) (λ a. or_right (is_xid_continue c) (nat_eq c 36) a) (or_cases _ _ e)

-- no character is of two classes
pub digit_start : (c : ℕ) → is_digit c ≡ true → is_start c ≡ true → ⊥
digit_start c d s =
    let b = digit_bounds c d in
    ⊎_elim (λ a. ⊎_elim (λ r. let x = r.0 in omega arith) (λ r. let x = r.0 in omega arith) a) (λ a. ⊎_elim (λ r. omega arith) (λ r. omega arith) a) (start_cases c (sym (start_ascii c (omega arith)) ∙ s))

pub quote_start : (c : ℕ) → c ≡ 34 → is_start c ≡ true → ⊥
quote_start c q s = false≢true (sym (start_ascii 34 (lit< tt)) ∙ subst (λ x. is_start x ≡ true) q s)

pub quote_digit : (c : ℕ) → c ≡ 34 → is_digit c ≡ true → ⊥
quote_digit c q d = let b = digit_bounds c d in omega arith

module _ (c : ℕ) (m : is_mark c ≡ true) where
  parts : (nat_lt c 128 ≡ true) × ((not (ascii_start c) && (not (ascii_digit c) && not (nat_eq c 34))) ≡ true)
  parts = and_parts _ _ m

  others : (not (ascii_start c) ≡ true) × ((not (ascii_digit c) && not (nat_eq c 34)) ≡ true)
  others = and_parts _ _ parts.1

  last : (not (ascii_digit c) ≡ true) × (not (nat_eq c 34) ≡ true)
  last = and_parts _ _ others.1

  pub mark_start : is_start c ≡ true → ⊥
  mark_start s = not_both _ (sym (start_ascii c (ltb-true c 128 parts.0)) ∙ s) (not_flips _ others.0)

  pub mark_digit : is_digit c ≡ true → ⊥
  mark_digit d = not_both _ (sym (digit_ascii c) ∙ d) (not_flips _ last.0)

  pub mark_quote : c ≡ 34 → ⊥
  mark_quote q = not_both _ (eq-eqb c 34 q) (not_flips _ last.1)

white_cases : (P : ℕ → Type 0) (c : ℕ) → is_white c ≡ true → P 32 → P 9 → P 12 → P 10 → P 13 → P c
white_cases P c h p q r s t =
    let at = λ (n : ℕ) (p : P n) (e : nat_eq c n ≡ true). subst P (sym (eqb-true c n e)) p in
    ⊎_elim (λ a. ⊎_elim (λ b. ⊎_elim (λ d. at 32 p d) (λ d. at 9 q d) (or_cases _ _ b)) (λ b. at 12 r b) (or_cases _ _ a)) (λ a. ⊎_elim (λ b. at 10 s b) (λ b. at 13 t b) (or_cases _ _ a)) (or_cases _ _ (sym (white_ascii c) ∙ h))

pub white_start : (c : ℕ) → is_white c ≡ true → is_start c ≡ true → ⊥
white_start c h = white_cases (λ x. is_start x ≡ true → ⊥) c h (λ s. false≢true (sym (start_ascii 32 (lit< tt)) ∙ s)) (λ s. false≢true (sym (start_ascii 9 (lit< tt)) ∙ s)) (λ s. false≢true (sym (start_ascii 12 (lit< tt)) ∙ s)) (λ s. false≢true (sym (start_ascii 10 (lit< tt)) ∙ s)) (λ s. false≢true (sym (start_ascii 13 (lit< tt)) ∙ s))

pub white_digit : (c : ℕ) → is_white c ≡ true → is_digit c ≡ true → ⊥
white_digit c h = white_cases (λ x. is_digit x ≡ true → ⊥) c h (λ s. false≢true (sym (digit_ascii 32) ∙ s)) (λ s. false≢true (sym (digit_ascii 9) ∙ s)) (λ s. false≢true (sym (digit_ascii 12) ∙ s)) (λ s. false≢true (sym (digit_ascii 10) ∙ s)) (λ s. false≢true (sym (digit_ascii 13) ∙ s))

pub white_is : (c : ℕ) → ascii_white c ≡ false → is_white c ≡ false
white_is c h = white_ascii c ∙ h

pub slash_start : (c : ℕ) → c ≡ 47 → is_start c ≡ true → ⊥
slash_start c q s = false≢true (sym (start_ascii 47 (lit< tt)) ∙ subst (λ x. is_start x ≡ true) q s)

pub dot_start : (c : ℕ) → c ≡ 46 → is_start c ≡ true → ⊥
dot_start c q s = false≢true (sym (start_ascii 46 (lit< tt)) ∙ subst (λ x. is_start x ≡ true) q s)

pub white_46 : is_white 46 ≡ false
white_46 = white_ascii 46

pub white_34 : is_white 34 ≡ false
white_34 = white_ascii 34
