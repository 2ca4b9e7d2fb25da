-- The words of a list of qualifiers are unique.
use Rattle.std.proofs.Common.{◌≡◌, ℕ, zero, suc, ◌+◌, ◌*◌, ◌/◌, ◌%◌, ◌^◌, ◌<◌, ◌≤◌, ◌⊎◌, inl, inr, List, get_or, sym, ap, ◌∙◌, lit<, arith}
use Rattle.std.proofs.lemmas.Bool.{cases_order}
use Rattle.std.proofs.lemmas.Grind.{same_number_lists}
use Rattle.std.proofs.lemmas.Nat.{shr-shr, shr_below, mod_below}
use Rattle.jn_quals.specs.Qualifier.{of_bits, to_bits}
use Rattle.jn_quals.specs.Order.{no_qual}
use Rattle.jn_quals.specs.Word.{unpack}
use Rattle.jn_quals.proofs.Bits.{to-of_bits}
use Rattle.jn_sigs.specs.Packed.{at_slot, unpacked, ArePacked}
use Rattle.jn_sigs.proofs.Slots.{unpacked-at}

-- the lowest bits of words with equal qualifiers
same_bits : (a b j : ℕ) → unpack a j ≡ unpack b j → a / 2 ^ (3 * j) % 8 ≡ b / 2 ^ (3 * j) % 8
same_bits a b j e =
    let bits : ℕ → ℕ = λ n. n / 2 ^ (3 * j) % 8 in
    sym (to-of_bits (bits a) (mod_below (a / 2 ^ (3 * j)) 8 (lit< tt)))
    ∙ ap to_bits e
    ∙ to-of_bits (bits b) (mod_below (b / 2 ^ (3 * j)) 8 (lit< tt))

next_bits : (a j : ℕ) → unpack (a / 2 ^ 3) j ≡ unpack a (j + 1)
next_bits a j =
    let e : 3 + 3 * j ≡ 3 * (j + 1) = omega arith in
    ap (λ n. of_bits (n % 8)) (shr-shr a 3 (3 * j) ∙ ap (λ k. a / 2 ^ k) e)

same_words : (n a b : ℕ) → a < 2 ^ (3 * n) → b < 2 ^ (3 * n) → ((j : ℕ) → j < n → unpack a j ≡ unpack b j) → a ≡ b
same_words zero a b lt below same = omega (arith, lt, below)
same_words (suc n) a b lt below same =
    let split : 3 * suc n ≡ 3 * n + 3 = omega arith in
    let first : a / 1 % 8 ≡ b / 1 % 8 = same_bits a b 0 (same 0 (omega arith)) in
    let small : a < 2 ^ (3 * n + 3) = rw (sym split) lt in
    let small_too : b < 2 ^ (3 * n + 3) = rw (sym split) below in
    let rest : a / 2 ^ 3 ≡ b / 2 ^ 3 = same_words n (a / 2 ^ 3) (b / 2 ^ 3) (shr_below a (3 * n) 3 small) (shr_below b (3 * n) 3 small_too) (λ j at. next_bits a j ∙ same (j + 1) (omega (arith, at)) ∙ sym (next_bits b j)) in
    let rest_is : a / 8 ≡ b / 8 = rest in
    omega (arith, first, rest_is)

pub unique : (words others : List ℕ) (slots : ℕ) → ArePacked words slots → ArePacked others slots → unpacked words slots ≡ unpacked others slots → words ≡ others
unique words others slots packed more e =
    same_number_lists words others (packed.enough ∙ sym more.enough) (λ k lt.
    same_words 21 (get_or words k 0) (get_or others k 0) (packed.top k) (more.top k) (λ j below.
    let at : (k * 21 + j) / 21 ≡ k = omega (arith, below) in
    let index : (k * 21 + j) % 21 ≡ j = omega (arith, below) in
    slot_in words k j at index ∙ slot_same (k * 21 + j) (cases_order (k * 21 + j) slots) ∙ sym (slot_in others k j at index)))
  where
    slot_in : (list : List ℕ) (k j : ℕ) → (k * 21 + j) / 21 ≡ k → (k * 21 + j) % 21 ≡ j → unpack (get_or list k 0) j ≡ at_slot list (k * 21 + j)
    slot_in list k j at index = ap (λ w. unpack (get_or list w 0) j) (sym at) ∙ ap (λ i. unpack (get_or list ((k * 21 + j) / 21) 0) i) (sym index)

    past : (i : ℕ) → slots ≤ i → at_slot words i ≡ at_slot others i
    past i le = packed.empty i le ∙ sym (more.empty i le)

    slot_same : (i : ℕ) → (i ≡ slots) ⊎ ((i < slots) ⊎ (slots < i)) → at_slot words i ≡ at_slot others i
    slot_same i (inl is) = past i (omega (arith, is))
    slot_same i (inr (inl lt)) = sym (unpacked-at words slots i lt) ∙ ap (λ v. get_or v i no_qual) e ∙ unpacked-at others slots i lt
    slot_same i (inr (inr lt)) = past i (omega (arith, lt))
