-- Words without the bits that belong to no slot, and signatures of some of them.
use Rattle.std.specs.Prelude.{ℕ, ◌≡◌, ◌⊎◌, ◌-◌, ◌*◌, ◌%◌, ◌^◌, ◌<◌, true, min, List, length, map, slice_index}
use Rattle.std.specs.List.{range_with_len}
use Rattle.jn_base.specs.declared.number.WordNo.{WordNo}
use Rattle.jn_quals.specs.Qualifier.{Qualifier}
use Rattle.jn_sigs.specs.Packed.{unpacked}
use Rattle.jn_sigtable.specs.System.{lists_word}
use Rattle.jn_inference_law.specs.Inference.{words_for}

-- word w of so many slots
abbrev pub clean : ℕ → ℕ → ℕ → ℕ
clean slots w word = word % 2 ^ (3 * min 21 (slots - 21 * w))

abbrev pub cleaned : ℕ → List ℕ → List ℕ
cleaned slots words = map (λ w. clean slots w (slice_index words w)) (range_with_len 0 (words_for slots))

module _ (slots : ℕ) (words : List ℕ) where
  -- each word is zero or the clean one, and it is the clean one where it is listed and isn't left
  pub record AreSeen (listed left : List WordNo) (list : List ℕ) : Type 0 where
    pub count : length list ≡ words_for slots
    pub clean : (w : ℕ) → w < words_for slots → (slice_index list w ≡ 0) ⊎ (slice_index list w ≡ slice_index (cleaned slots words) w)
    pub same : (w : ℕ) → w < words_for slots → lists_word listed w ≡ true → (slice_index list w ≡ slice_index (cleaned slots words) w) ⊎ (lists_word left w ≡ true)

  -- the signature of words that are the clean ones where they are listed
  pub record IsSignatureOf (listed : List WordNo) (s : List Qualifier) : Type 0 where
    pub seen : List ℕ
    pub count : length seen ≡ words_for slots
    pub same : (w : ℕ) → w < words_for slots → lists_word listed w ≡ true → slice_index seen w ≡ slice_index (cleaned slots words) w
    pub is : s ≡ unpacked seen slots
