-- Words of which one is written.
use Rattle.std.proofs.Common.{◌≡◌, ◌≢◌, ℕ, ◌+◌, ◌*◌, ◌/◌, ◌%◌, ◌^◌, ◌<◌, ◌≤◌, ◌⊎◌, inl, inr, Bool, false, List, length, get_or, set, sym, ap, ◌∙◌, arith, length-set, get_or-set_same, get_or-set_other}
use Rattle.std.proofs.lemmas.Bool.{cases_order}
use Rattle.jn_quals.specs.Qualifier.{Qualifier}
use Rattle.jn_quals.specs.Word.{unpack}
use Rattle.jn_quals.proofs.WordLists.{set_below}
use Rattle.jn_env.specs.Packed.{bit, bit_at, bits_of, HoldBits, with_qual}
use Rattle.jn_env.proofs.WordBits.{low_first, low_second, low_third}
use Rattle.jn_env.proofs.Held.{length-bits_of, bits_of-at, bits_are}

module _ (words : List ℕ) (count at v : ℕ) (held : HoldBits words count) (there : at < length words) (small : v < 2 ^ 63) where
  abbrev pub written : List ℕ
  written = set words at v

  written_here : (i : ℕ) → i / 63 ≡ at → bit_at written i ≡ bit v (i % 63)
  written_here i e = ap (λ k. bit (get_or written k 0) (i % 63)) e ∙ ap (λ w. bit w (i % 63)) (get_or-set_same words at v 0 there)

  written_other : (i : ℕ) → i / 63 ≢ at → bit_at written i ≡ bit_at words i
  written_other i ne = ap (λ w. bit w (i % 63)) (get_or-set_other words at (i / 63) v 0 ne)

  -- by what the word has at each of its places
  each : (i : ℕ) (b : Bool) → (i / 63 ≡ at → bit v (i % 63) ≡ b) → (i / 63 ≢ at → bit_at words i ≡ b) → bit_at written i ≡ b
  each i b inside outside = sides (cases_order (i / 63) at)
    where
      elsewhere : i / 63 ≢ at → bit_at written i ≡ b
      elsewhere ne = written_other i ne ∙ outside ne

      sides : (i / 63 ≡ at) ⊎ ((i / 63 < at) ⊎ (at < i / 63)) → bit_at written i ≡ b
      sides (inl e) = written_here i e ∙ inside e
      sides (inr (inl before)) = elsewhere (λ h. omega (arith, before, h))
      sides (inr (inr behind)) = elsewhere (λ h. omega (arith, behind, h))

  pub written_held : ((i : ℕ) → count ≤ i → i / 63 ≡ at → bit v (i % 63) ≡ bit_at words i) → HoldBits written count
  written_held kept = record {
    enough = length-set words at v ∙ held.enough;
    empty = λ i le. each i false (λ e. kept i le e ∙ held.empty i le) (λ ne. held.empty i le);
    top = set_below words at v (2 ^ 63) there small held.top;
  }

  pub written_are : (ys : List Bool) → length ys ≡ count → ((i : ℕ) → i < count → i / 63 ≡ at → bit v (i % 63) ≡ get_or ys i false) → ((i : ℕ) → i < count → i / 63 ≢ at → get_or (bits_of words count) i false ≡ get_or ys i false) → bits_of written count ≡ ys
  written_are ys l inside outside =
      bits_are written count ys l (λ i lt. each i (get_or ys i false) (inside i lt) (λ ne. sym (bits_of-at words count i lt) ∙ outside i lt ne))

-- a single bit
module _ (words : List ℕ) (count s v : ℕ) (b : Bool) (held : HoldBits words count) (lt : s < count) (small : v < 2 ^ 63) (here : bit v (s % 63) ≡ b) (others : (j : ℕ) → (j ≡ s % 63 → ⊥) → bit v j ≡ bit (get_or words (s / 63) 0) j) where
  there : s / 63 < length words
  there = omega (arith, held.enough, lt)

  kept : (i : ℕ) → i ≢ s → i / 63 ≡ s / 63 → bit v (i % 63) ≡ bit_at words i
  kept i ne e = others (i % 63) (λ h. ne (omega (arith, e, h))) ∙ ap (λ k. bit (get_or words k 0) (i % 63)) (sym e)

  pub set_held : HoldBits (set words (s / 63) v) count
  set_held = written_held words count (s / 63) v held there small (λ i le e. kept i (λ h. omega (arith, h, le, lt)) e)

  pub set_are : bits_of (set words (s / 63) v) count ≡ set (bits_of words count) s b
  set_are =
      let old = bits_of words count in
      written_are words count (s / 63) v held there small (set old s b) (length-set old s b ∙ length-bits_of words count)
      (λ i below e. inside i below e (cases_order i s))
      (λ i below ne. sym (get_or-set_other old s i b false (λ h. ne (ap (λ k. k / 63) h))))
    where
      elsewhere : (i : ℕ) → i < count → i / 63 ≡ s / 63 → i ≢ s → bit v (i % 63) ≡ get_or (set (bits_of words count) s b) i false
      elsewhere i below e ne = kept i ne e ∙ sym (bits_of-at words count i below) ∙ sym (get_or-set_other (bits_of words count) s i b false ne)

      inside : (i : ℕ) → i < count → i / 63 ≡ s / 63 → (i ≡ s) ⊎ ((i < s) ⊎ (s < i)) → bit v (i % 63) ≡ get_or (set (bits_of words count) s b) i false
      inside i below e (inl is) =
          ap (λ k. bit v (k % 63)) is ∙ here ∙ sym (get_or-set_same (bits_of words count) s b false (omega (arith, lt, length-bits_of words count))) ∙ ap (λ k. get_or (set (bits_of words count) s b) k false) (sym is)
      inside i below e (inr (inl before)) = elsewhere i below e (λ h. omega (arith, before, h))
      inside i below e (inr (inr behind)) = elsewhere i below e (λ h. omega (arith, behind, h))

-- a list in which three bits are written
module _ (xs : List Bool) (r : ℕ) (q : Qualifier) (lt : 3 * r + 2 < length xs) where
  abbrev one : List Bool
  one = set xs (3 * r) q.null

  abbrev two : List Bool
  two = set one (3 * r + 1) q.committed

  length_one : length one ≡ length xs
  length_one = length-set xs (3 * r) q.null

  length_two : length two ≡ length xs
  length_two = length-set one (3 * r + 1) q.committed ∙ length_one

  pub length-with_qual : length (with_qual xs r q) ≡ length xs
  length-with_qual = length-set two (3 * r + 2) q.free ∙ length_two

  pub with_null : get_or (with_qual xs r q) (3 * r) false ≡ q.null
  with_null =
      get_or-set_other two (3 * r + 2) (3 * r) q.free false (λ h. omega (arith, h))
      ∙ get_or-set_other one (3 * r + 1) (3 * r) q.committed false (λ h. omega (arith, h))
      ∙ get_or-set_same xs (3 * r) q.null false (omega (arith, lt))

  pub with_committed : get_or (with_qual xs r q) (3 * r + 1) false ≡ q.committed
  with_committed =
      get_or-set_other two (3 * r + 2) (3 * r + 1) q.free false (λ h. omega (arith, h))
      ∙ get_or-set_same one (3 * r + 1) q.committed false (omega (arith, lt, length_one))

  pub with_free : get_or (with_qual xs r q) (3 * r + 2) false ≡ q.free
  with_free = get_or-set_same two (3 * r + 2) q.free false (omega (arith, lt, length_two))

  pub with_others : (i : ℕ) → (i < 3 * r) ⊎ (3 * r + 2 < i) → get_or (with_qual xs r q) i false ≡ get_or xs i false
  with_others i (inl before) =
      get_or-set_other two (3 * r + 2) i q.free false (λ h. omega (arith, h, before))
      ∙ get_or-set_other one (3 * r + 1) i q.committed false (λ h. omega (arith, h, before))
      ∙ get_or-set_other xs (3 * r) i q.null false (λ h. omega (arith, h, before))
  with_others i (inr behind) =
      get_or-set_other two (3 * r + 2) i q.free false (λ h. omega (arith, h, behind))
      ∙ get_or-set_other one (3 * r + 1) i q.committed false (λ h. omega (arith, h, behind))
      ∙ get_or-set_other xs (3 * r) i q.null false (λ h. omega (arith, h, behind))

data Place (r i : ℕ) : Type 0 where
  first : i ≡ 3 * r → Place r i
  second : i ≡ 3 * r + 1 → Place r i
  third : i ≡ 3 * r + 2 → Place r i
  apart : (i < 3 * r) ⊎ (3 * r + 2 < i) → Place r i

place_of : (r i : ℕ) → Place r i
place_of r i = low (cases_order i (3 * r))
  where
    high : 3 * r < i → (i ≡ 3 * r + 2) ⊎ ((i < 3 * r + 2) ⊎ (3 * r + 2 < i)) → Place r i
    high lt (inl e) = third e
    high lt (inr (inl before)) = second (omega (arith, lt, before))
    high lt (inr (inr behind)) = apart (inr behind)

    low : (i ≡ 3 * r) ⊎ ((i < 3 * r) ⊎ (3 * r < i)) → Place r i
    low (inl e) = first e
    low (inr (inl before)) = apart (inl before)
    low (inr (inr behind)) = high behind (cases_order i (3 * r + 2))

-- the three bits of a qualifier
module _ (words : List ℕ) (count r v : ℕ) (q : Qualifier) (held : HoldBits words count) (lt : 3 * r + 2 < count) (small : v < 2 ^ 63) (here : unpack v (r % 21) ≡ q) (before : (j : ℕ) → j < 3 * (r % 21) → bit v j ≡ bit (get_or words (r / 21) 0) j) (behind : (j : ℕ) → 3 * (r % 21) + 2 < j → bit v j ≡ bit (get_or words (r / 21) 0) j) where
  qual_there : r / 21 < length words
  qual_there = omega (arith, held.enough, lt)

  qual_kept : (i : ℕ) → (i < 3 * r) ⊎ (3 * r + 2 < i) → i / 63 ≡ r / 21 → bit v (i % 63) ≡ bit_at words i
  qual_kept i (inl below) e = before (i % 63) (omega (arith, e, below)) ∙ ap (λ k. bit (get_or words k 0) (i % 63)) (sym e)
  qual_kept i (inr above) e = behind (i % 63) (omega (arith, e, above)) ∙ ap (λ k. bit (get_or words k 0) (i % 63)) (sym e)

  pub qual_held : HoldBits (set words (r / 21) v) count
  qual_held = written_held words count (r / 21) v held qual_there small (λ i le e. qual_kept i (inr (omega (arith, le, lt))) e)

  pub qual_are : bits_of (set words (r / 21) v) count ≡ with_qual (bits_of words count) r q
  qual_are =
      let old = bits_of words count in
      let long : 3 * r + 2 < length old = omega (arith, lt, length-bits_of words count) in
      written_are words count (r / 21) v held qual_there small (with_qual old r q) (length-with_qual old r q long ∙ length-bits_of words count)
      (λ i below e. inside i below e long (place_of r i))
      (λ i below ne. sym (with_others old r q long i (away i ne (place_of r i))))
    where
      at : (i j : ℕ) → i % 63 ≡ j → bit v j ≡ get_or (with_qual (bits_of words count) r q) i false → bit v (i % 63) ≡ get_or (with_qual (bits_of words count) r q) i false
      at i j e is = ap (bit v) e ∙ is

      inside : (i : ℕ) → i < count → i / 63 ≡ r / 21 → 3 * r + 2 < length (bits_of words count) → Place r i → bit v (i % 63) ≡ get_or (with_qual (bits_of words count) r q) i false
      inside i below e long (first is) =
          let m = 3 * (r % 21) in
          at i m (omega (arith, is)) (sym (low_first v m) ∙ ap (λ p. p.null) here ∙ sym (with_null (bits_of words count) r q long) ∙ ap (λ k. get_or (with_qual (bits_of words count) r q) k false) (sym is))
      inside i below e long (second is) =
          let m = 3 * (r % 21) in
          at i (m + 1) (omega (arith, is)) (sym (low_second v m) ∙ ap (λ p. p.committed) here ∙ sym (with_committed (bits_of words count) r q long) ∙ ap (λ k. get_or (with_qual (bits_of words count) r q) k false) (sym is))
      inside i below e long (third is) =
          let m = 3 * (r % 21) in
          at i (m + 2) (omega (arith, is)) (sym (low_third v m) ∙ ap (λ p. p.free) here ∙ sym (with_free (bits_of words count) r q long) ∙ ap (λ k. get_or (with_qual (bits_of words count) r q) k false) (sym is))
      inside i below e long (apart side) = qual_kept i side e ∙ sym (bits_of-at words count i below) ∙ sym (with_others (bits_of words count) r q long i side)

      away : (i : ℕ) → i / 63 ≢ r / 21 → Place r i → (i < 3 * r) ⊎ (3 * r + 2 < i)
      away i ne (first is) = absurd (ne (omega (arith, is)))
      away i ne (second is) = absurd (ne (omega (arith, is)))
      away i ne (third is) = absurd (ne (omega (arith, is)))
      away i ne (apart side) = side
