-- What packed words hold for each slot.
use Rattle.std.proofs.Common.{◌≡◌, ◌≢◌, ℕ, zero, suc, ◌+◌, ◌*◌, ◌/◌, ◌%◌, ◌^◌, ◌<◌, ◌≤◌, ◌⊎◌, inl, inr, List, length, get_or, set, replicate, refl, sym, ap, ◌∙◌, lit<, arith, length-set, get_or-set_same, get_or-set_other}
use Rattle.std.proofs.lemmas.Bool.{cases_order}
use Rattle.std.proofs.lemmas.List.{ext_get_or, get_or_default, get_or-replicate, get_or_past, length-replicate}
use Rattle.std.proofs.Math.Nat.{zero-div}
use Rattle.jn_quals.specs.Qualifier.{Qualifier, of_bits}
use Rattle.jn_quals.specs.Order.{no_qual, join}
use Rattle.jn_quals.specs.Word.{unpack, pack}
use Rattle.jn_quals.proofs.Words.{pack_same, pack_other, pack_small}
use Rattle.jn_quals.proofs.WordLists.{zeros, length_zeros, zero_at, set_below}
use Rattle.jn_sigs.specs.Packed.{at_slot, qualifiers_from, unpacked, ArePacked, raised}

pub length-qualifiers_from : (words : List ℕ) (i n : ℕ) → length (qualifiers_from words i n) ≡ n
length-qualifiers_from words i zero = refl
length-qualifiers_from words i (suc n) = ap suc (length-qualifiers_from words (i + 1) n)

qualifiers_from-at : (words : List ℕ) (i n k : ℕ) → k < n → get_or (qualifiers_from words i n) k no_qual ≡ at_slot words (i + k)
qualifiers_from-at words i zero k lt = absurd (omega (arith, lt))
qualifiers_from-at words i (suc n) zero lt = let e : i ≡ i + 0 = omega arith in ap (at_slot words) e
qualifiers_from-at words i (suc n) (suc k) lt =
    let e : (i + 1) + k ≡ i + suc k = omega arith in
    qualifiers_from-at words (i + 1) n k (omega (arith, lt)) ∙ ap (at_slot words) e

pub unpacked-at : (words : List ℕ) (slots k : ℕ) → k < slots → get_or (unpacked words slots) k no_qual ≡ at_slot words k
unpacked-at words slots k lt =
    let e : 0 + k ≡ k = omega arith in
    qualifiers_from-at words 0 slots k lt ∙ ap (at_slot words) e

pub length-unpacked : (words : List ℕ) (slots : ℕ) → length (unpacked words slots) ≡ slots
length-unpacked words slots = length-qualifiers_from words 0 slots

-- the word of a slot that is there
pub word_below : (words : List ℕ) (slots i : ℕ) → ArePacked words slots → i < slots → i / 21 < length words
word_below words slots i packed lt = omega (arith, packed.enough, lt)

-- the qualifier of a slot that is there, by its word
pub read : (words : List ℕ) (slots i w : ℕ) (q : Qualifier) (view : List Qualifier) → ArePacked words slots → unpacked words slots ≡ view → i < slots → w ≡ get_or words (i / 21) w → q ≡ unpack w (i % 21) → q ≡ get_or view i no_qual
read words slots i w q view packed e lt at is =
    let word : w ≡ get_or words (i / 21) 0 = at ∙ get_or_default words (i / 21) w 0 (word_below words slots i packed lt) in
    is ∙ ap (λ n. unpack n (i % 21)) word ∙ sym (unpacked-at words slots i lt) ∙ ap (λ v. get_or v i no_qual) e

pub read_past : (words : List ℕ) (slots i : ℕ) (view : List Qualifier) → unpacked words slots ≡ view → slots ≤ i → no_qual ≡ get_or view i no_qual
read_past words slots i view e le =
    let short : length view ≤ i = omega (arith, le, length-unpacked words slots, ap length e) in
    sym (get_or_past view i no_qual short)

zero_slot : (n i : ℕ) → at_slot (zeros n) i ≡ no_qual
zero_slot n i =
    ap (λ w. of_bits (w / 2 ^ (3 * (i % 21)) % 8)) (zero_at n (i / 21))
    ∙ ap (λ b. of_bits (b % 8)) (zero-div (2 ^ (3 * (i % 21))))

pub zeros_packed : (slots : ℕ) → ArePacked (replicate ((slots + 20) / 21) 0) slots
zeros_packed slots = record {
  enough = length_zeros ((slots + 20) / 21);
  empty = λ i le. zero_slot ((slots + 20) / 21) i;
  top = λ i. let e = zero_at ((slots + 20) / 21) i in rw e (lit< tt);
}

pub zeros_unpacked : (n slots : ℕ) → unpacked (replicate n 0) slots ≡ replicate slots no_qual
zeros_unpacked n slots =
    let long = length-unpacked (replicate n 0) slots in
    ext_get_or no_qual _ _ (long ∙ sym (length-replicate slots no_qual)) (λ i lt.
    let below : i < slots = omega (arith, lt, long) in
    unpacked-at (replicate n 0) slots i below ∙ zero_slot n i ∙ sym (get_or-replicate slots i no_qual no_qual below))

module _ (words : List ℕ) (slots s : ℕ) (q : Qualifier) (packed : ArePacked words slots) (lt : s < slots) where
  abbrev word : ℕ
  word = pack (get_or words (s / 21) 0) (s % 21) q

  abbrev raised_words : List ℕ
  raised_words = set words (s / 21) word

  here : get_or raised_words (s / 21) 0 ≡ word
  here = get_or-set_same words (s / 21) word 0 (word_below words slots s packed lt)

  raised_here : at_slot raised_words s ≡ join (at_slot words s) q
  raised_here = ap (λ w. unpack w (s % 21)) here ∙ pack_same (get_or words (s / 21) 0) (s % 21) q

  raised_other : (i : ℕ) → i ≢ s → at_slot raised_words i ≡ at_slot words i
  raised_other i ne = sides (cases_order (i / 21) (s / 21))
    where
      elsewhere : i / 21 ≢ s / 21 → at_slot raised_words i ≡ at_slot words i
      elsewhere apart = ap (λ w. unpack w (i % 21)) (get_or-set_other words (s / 21) (i / 21) word 0 apart)

      sides : (i / 21 ≡ s / 21) ⊎ ((i / 21 < s / 21) ⊎ (s / 21 < i / 21)) → at_slot raised_words i ≡ at_slot words i
      sides (inl e) =
          let apart : s % 21 ≢ i % 21 = λ h. ne (omega (arith, e, h)) in
          ap (λ w. unpack (get_or raised_words w 0) (i % 21)) e
          ∙ ap (λ w. unpack w (i % 21)) here
          ∙ pack_other (get_or words (s / 21) 0) (s % 21) (i % 21) q apart
          ∙ ap (λ w. unpack (get_or words w 0) (i % 21)) (sym e)
      sides (inr (inl before)) = elsewhere (λ h. omega (arith, before, h))
      sides (inr (inr behind)) = elsewhere (λ h. omega (arith, behind, h))

  pub raised_packed : ArePacked raised_words slots
  raised_packed = record {
    enough = length-set words (s / 21) word ∙ packed.enough;
    empty = λ i le. raised_other i (λ h. omega (arith, h, le, lt)) ∙ packed.empty i le;
    top = set_below words (s / 21) word (2 ^ 63) (word_below words slots s packed lt) (pack_small (get_or words (s / 21) 0) (s % 21) 63 q (packed.top (s / 21)) (omega arith)) packed.top;
  }

  pub raised_unpacked : unpacked raised_words slots ≡ raised (unpacked words slots) s q
  raised_unpacked =
      let quals = unpacked words slots in
      let long = length-unpacked raised_words slots in
      let old = length-unpacked words slots in
      let mine = join (get_or quals s no_qual) q in
      ext_get_or no_qual _ _ (long ∙ sym old ∙ sym (length-set quals s mine)) (λ i below.
      let inside : i < slots = omega (arith, below, long) in
      unpacked-at raised_words slots i inside ∙ at_each i inside (cases_order i s))
    where
      at_each : (i : ℕ) → i < slots → (i ≡ s) ⊎ ((i < s) ⊎ (s < i)) → at_slot raised_words i ≡ get_or (raised (unpacked words slots) s q) i no_qual
      at_each i inside (inl e) =
          let quals = unpacked words slots in
          let long : s < length quals = omega (arith, lt, length-unpacked words slots) in
          let mine = join (get_or quals s no_qual) q in
          ap (at_slot raised_words) e ∙ raised_here ∙ ap (λ p. join p q) (sym (unpacked-at words slots s lt))
          ∙ sym (get_or-set_same quals s mine no_qual long) ∙ ap (λ k. get_or (raised quals s q) k no_qual) (sym e)
      at_each i inside (inr side) =
          let quals = unpacked words slots in
          let mine = join (get_or quals s no_qual) q in
          let apart : i ≢ s = apart_from side in
          raised_other i apart ∙ sym (unpacked-at words slots i inside) ∙ sym (get_or-set_other quals s i mine no_qual apart)
        where
          apart_from : (i < s) ⊎ (s < i) → i ≢ s
          apart_from (inl before) h = omega (arith, before, h)
          apart_from (inr behind) h = omega (arith, behind, h)
