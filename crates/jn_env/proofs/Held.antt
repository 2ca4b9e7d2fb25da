-- What words hold at each place.
use Rattle.std.proofs.Common.{◌≡◌, ℕ, zero, suc, ◌+◌, ◌*◌, ◌/◌, ◌%◌, ◌<◌, ◌≤◌, ◌⊎◌, inl, inr, Bool, true, false, not, ◌||◌, bit_or, List, [], ◌∷◌, length, get_or, replicate, refl, sym, ap, ◌∙◌, subst, lit<, arith}
use Rattle.std.proofs.lemmas.Bool.{cases_order}
use Rattle.std.proofs.lemmas.Grind.{same_number_lists}
use Rattle.std.proofs.lemmas.List.{ext_get_or, get_or-replicate, get_or_past, length-replicate}
use Rattle.std.proofs.lemmas.Nat.{or_lt}
use Rattle.jn_quals.specs.Qualifier.{Qualifier}
use Rattle.jn_quals.specs.Word.{unpack}
use Rattle.jn_quals.proofs.Order.{same_qual}
use Rattle.jn_quals.proofs.WordLists.{zeros, length_zeros, zero_at}
use Rattle.jn_env.specs.Packed.{bit, bit_at, bits_from, bits_of, HoldBits, qual_in, either_bits, either_words, rises}
use Rattle.jn_env.proofs.Pairs.{zip_both, zip_both_at, length-zip_both}
use Rattle.jn_env.proofs.Rises.{words_zip, still, moved}
use Rattle.jn_env.proofs.WordBits.{or_bit, zero_bit, same_word, low_first, low_second, low_third}

length-bits_from : (words : List ℕ) (i n : ℕ) → length (bits_from words i n) ≡ n
length-bits_from words i zero = refl
length-bits_from words i (suc n) = ap suc (length-bits_from words (i + 1) n)

pub length-bits_of : (words : List ℕ) (count : ℕ) → length (bits_of words count) ≡ count
length-bits_of words count = length-bits_from words 0 count

bits_from-at : (words : List ℕ) (i n k : ℕ) → k < n → get_or (bits_from words i n) k false ≡ bit_at words (i + k)
bits_from-at words i zero k lt = absurd (omega (arith, lt))
bits_from-at words i (suc n) zero lt = let e : i ≡ i + 0 = omega arith in ap (bit_at words) e
bits_from-at words i (suc n) (suc k) lt =
    let e : (i + 1) + k ≡ i + suc k = omega arith in
    bits_from-at words (i + 1) n k (omega (arith, lt)) ∙ ap (bit_at words) e

pub bits_of-at : (words : List ℕ) (count k : ℕ) → k < count → get_or (bits_of words count) k false ≡ bit_at words k
bits_of-at words count k lt =
    let e : 0 + k ≡ k = omega arith in
    bits_from-at words 0 count k lt ∙ ap (bit_at words) e

-- lists of bits are given place by place
pub bits_are : (words : List ℕ) (count : ℕ) (ys : List Bool) → length ys ≡ count → ((i : ℕ) → i < count → bit_at words i ≡ get_or ys i false) → bits_of words count ≡ ys
bits_are words count ys l each =
    let long = length-bits_of words count in
    ext_get_or false _ _ (long ∙ sym l) (λ i lt. let below : i < count = omega (arith, lt, long) in bits_of-at words count i below ∙ each i below)

pub word_there : (words : List ℕ) (count i : ℕ) → HoldBits words count → i < count → i / 63 < length words
word_there words count i held lt = omega (arith, held.enough, lt)

pub qual_word_there : (words : List ℕ) (count r : ℕ) → HoldBits words count → 3 * r + 2 < count → r / 21 < length words
qual_word_there words count r held lt = omega (arith, held.enough, lt)

-- the bit at a place, by its word
pub read : (words : List ℕ) (count i w : ℕ) (b : Bool) (view : List Bool) → bits_of words count ≡ view → i < count → w ≡ get_or words (i / 63) 0 → b ≡ bit w (i % 63) → b ≡ get_or view i false
read words count i w b view e lt word is =
    is ∙ ap (λ n. bit n (i % 63)) word ∙ sym (bits_of-at words count i lt) ∙ ap (λ v. get_or v i false) e

pub read_past : (words : List ℕ) (count i : ℕ) (view : List Bool) → bits_of words count ≡ view → count ≤ i → false ≡ get_or view i false
read_past words count i view e le =
    let short : length view ≤ i = omega (arith, le, length-bits_of words count, ap length e) in
    sym (get_or_past view i false short)

-- the qualifier at an index, by its word
pub qual_word : (words : List ℕ) (r : ℕ) → unpack (get_or words (r / 21) 0) (r % 21) ≡ record { null = bit_at words (3 * r); committed = bit_at words (3 * r + 1); free = bit_at words (3 * r + 2) }
qual_word words r =
    let w = get_or words (r / 21) 0 in
    let m = 3 * (r % 21) in
    same_qual _ _
    (low_first w m ∙ place (3 * r) m (omega arith) (omega arith))
    (low_second w m ∙ place (3 * r + 1) (m + 1) (omega arith) (omega arith))
    (low_third w m ∙ place (3 * r + 2) (m + 2) (omega arith) (omega arith))
  where
    place : (i j : ℕ) → r / 21 ≡ i / 63 → j ≡ i % 63 → bit (get_or words (r / 21) 0) j ≡ bit_at words i
    place i j word at = ap (λ k. bit (get_or words k 0) j) word ∙ ap (bit (get_or words (i / 63) 0)) at

pub read_qual : (words : List ℕ) (count r w : ℕ) (q : Qualifier) (view : List Bool) → bits_of words count ≡ view → 3 * r + 2 < count → w ≡ get_or words (r / 21) 0 → q ≡ unpack w (r % 21) → q ≡ qual_in view r
read_qual words count r w q view e lt word is =
    let bits = bits_of words count in
    is ∙ ap (λ n. unpack n (r % 21)) word ∙ qual_word words r
    ∙ same_qual _ (qual_in bits r) (sym (bits_of-at words count (3 * r) (omega (arith, lt)))) (sym (bits_of-at words count (3 * r + 1) (omega (arith, lt)))) (sym (bits_of-at words count (3 * r + 2) lt))
    ∙ ap (λ v. qual_in v r) e

-- words of zeros
zero_place : (n i : ℕ) → bit_at (zeros n) i ≡ false
zero_place n i = ap (λ w. bit w (i % 63)) (zero_at n (i / 63)) ∙ zero_bit (i % 63)

pub zeros_held : (count : ℕ) → HoldBits (replicate (count / 63 + 1) 0) count
zeros_held count = record {
  enough = length_zeros (count / 63 + 1);
  empty = λ i le. zero_place (count / 63 + 1) i;
  top = λ i. let e = zero_at (count / 63 + 1) i in rw e (lit< tt);
}

pub zeros_are : (n count : ℕ) → bits_of (replicate n 0) count ≡ replicate count false
zeros_are n count = bits_are (replicate n 0) count (replicate count false) (length-replicate count false) (λ i lt. zero_place n i ∙ sym (get_or-replicate count i false false lt))

-- joins of words are joins of bits
pub bits_zip : (xs ys : List Bool) → zip_both (λ a b. a || b) xs ys ≡ either_bits xs ys
bits_zip [] ys = refl
bits_zip (x ∷ xs) [] = refl
bits_zip (x ∷ xs) (y ∷ ys) = ap (λ zs. (x || y) ∷ zs) (bits_zip xs ys)

module _ (xs ys : List ℕ) (count : ℕ) (left : HoldBits xs count) (right : HoldBits ys count) where
  long : length xs ≡ length ys
  long = left.enough ∙ sym right.enough

  word_at : (k : ℕ) → get_or (either_words xs ys) k 0 ≡ bit_or (get_or xs k 0) (get_or ys k 0)
  word_at k = ap (λ zs. get_or zs k 0) (sym (words_zip xs ys)) ∙ zip_both_at bit_or xs ys k 0 long refl

  both_at : (i : ℕ) → bit_at (either_words xs ys) i ≡ (bit_at xs i || bit_at ys i)
  both_at i = ap (λ w. bit w (i % 63)) (word_at (i / 63)) ∙ or_bit (get_or xs (i / 63) 0) (get_or ys (i / 63) 0) (i % 63)

  pub joined_held : HoldBits (either_words xs ys) count
  joined_held = record {
    enough = ap length (sym (words_zip xs ys)) ∙ length-zip_both bit_or xs ys long ∙ left.enough;
    empty = λ i le. both_at i ∙ ap (λ z. z || bit_at ys i) (left.empty i le) ∙ right.empty i le;
    top = λ i. let e = word_at i in rw e (or_lt 63 (get_or xs i 0) (get_or ys i 0) (left.top i) (right.top i));
  }

  pub joined_are : bits_of (either_words xs ys) count ≡ either_bits (bits_of xs count) (bits_of ys count)
  joined_are =
      let as' = bits_of xs count in
      let bs = bits_of ys count in
      let lengths : length as' ≡ length bs = length-bits_of xs count ∙ sym (length-bits_of ys count) in
      bits_are (either_words xs ys) count (either_bits as' bs) (ap length (sym (bits_zip as' bs)) ∙ length-zip_both (λ a b. a || b) as' bs lengths ∙ length-bits_of xs count) (λ i lt.
      both_at i ∙ ap (λ z. z || bit_at ys i) (sym (bits_of-at xs count i lt)) ∙ ap (λ z. get_or as' i false || z) (sym (bits_of-at ys count i lt))
      ∙ sym (zip_both_at (λ a b. a || b) as' bs i false lengths refl) ∙ ap (λ zs. get_or zs i false) (bits_zip as' bs))

  -- words with the same bits are the same
  pub unique : bits_of xs count ≡ bits_of ys count → xs ≡ ys
  unique e =
      same_number_lists xs ys long (λ k lt.
      same_word 63 (get_or xs k 0) (get_or ys k 0) (left.top k) (right.top k) (λ j below.
      let word : (k * 63 + j) / 63 ≡ k = omega (arith, below) in
      let at : (k * 63 + j) % 63 ≡ j = omega (arith, below) in
      in_word xs k j word at ∙ same_at (k * 63 + j) (cases_order (k * 63 + j) count) ∙ sym (in_word ys k j word at)))
    where
      in_word : (list : List ℕ) (k j : ℕ) → (k * 63 + j) / 63 ≡ k → (k * 63 + j) % 63 ≡ j → bit (get_or list k 0) j ≡ bit_at list (k * 63 + j)
      in_word list k j word at = ap (λ w. bit (get_or list w 0) j) (sym word) ∙ ap (bit (get_or list ((k * 63 + j) / 63) 0)) (sym at)

      past : (i : ℕ) → count ≤ i → bit_at xs i ≡ bit_at ys i
      past i le = left.empty i le ∙ sym (right.empty i le)

      same_at : (i : ℕ) → (i ≡ count) ⊎ ((i < count) ⊎ (count < i)) → bit_at xs i ≡ bit_at ys i
      same_at i (inl is) = past i (omega (arith, is))
      same_at i (inr (inl lt)) = sym (bits_of-at xs count i lt) ∙ ap (λ v. get_or v i false) e ∙ bits_of-at ys count i lt
      same_at i (inr (inr lt)) = past i (omega (arith, lt))

-- two lists of one length
module _ (words others : List ℕ) (count more : ℕ) (view seen : List Bool) (left : HoldBits words count) (right : HoldBits others more) (e : bits_of words count ≡ view) (f : bits_of others more ≡ seen) (l : length view ≡ length seen) where
  counts : more ≡ count
  counts = omega (arith, l, length-bits_of words count, ap length e, length-bits_of others more, ap length f)

  alike : HoldBits others count
  alike = subst (HoldBits others) counts right

  seen_is : bits_of others count ≡ seen
  seen_is = ap (bits_of others) (sym counts) ∙ f

  pub as_long : length words ≡ length others
  as_long = left.enough ∙ sym alike.enough

  pub join_held : HoldBits (either_words words others) count
  join_held = joined_held words others count left alike

  pub join_are : bits_of (either_words words others) count ≡ either_bits view seen
  join_are = joined_are words others count left alike ∙ ap (λ v. either_bits v (bits_of others count)) e ∙ ap (either_bits view) seen_is

  pub join_stays : rises words others ≡ false → either_bits view seen ≡ view
  join_stays no_rise = sym join_are ∙ ap (λ zs. bits_of zs count) (still words others as_long no_rise) ∙ e

  pub join_changes : rises words others ≡ true → either_bits view seen ≡ view → ⊥
  join_changes rise same =
      let words_same : either_words words others ≡ words = unique (either_words words others) words count join_held left (join_are ∙ same ∙ sym e) in
      let clash : true ≡ false = sym rise ∙ moved words others as_long words_same in
      cc

pub not_back : (a b : Bool) → not a ≡ not b → a ≡ b
not_back true true e = refl
not_back true false e = cc
not_back false true e = cc
not_back false false e = refl
