-- The laws of the two bodies.
use Rattle.std.proofs.Common.{◌≡◌, ℕ, zero, suc, ◌<◌, ◌≤◌, ◌^◌, ◌==◌, Bool, true, false, if◌then◌else◌, List, [], ◌∷◌, length, sym, refl, ap, ◌∙◌, subst, arith, bit_or, eq-eqb, ne_eqb, true≢false}
use mathlib.Core.Option.{some, some-injective, some-ne-none}
use lib.ListN.{get_elem?}
use Rattle.std.specs.Prelude.{slice_index}
use Rattle.std.specs.Int.{bit_at}
use Rattle.std.proofs.lemmas.Bool.{eqb-true}
use Rattle.std.proofs.lemmas.Nat.Bits.{bit_at-lt}
use Rattle.jn_base.specs.declared.number.WordNo.{WordNo}
use Rattle.jn_sigtable.specs.System.{System, IsLawful, NamesOnce, Within, Covers, AgreesFor, bits_for}
use Rattle.jn_sigtable.proofs.Bits.{within_refl, zero_within}
use Rattle.std.proofs.lemmas.Nat.{or_lt}
use Rattle.jn_solver_samples.specs.Pairs.{pair, out_of, zero_word}

-- a list of one output names a word once
pub one_named : (q : WordNo × ℕ) → NamesOnce (q ∷ [])
one_named q zero zero o p at there same = refl
one_named q zero (suc j) o p at there same = absurd (some-ne-none p (sym there))
one_named q (suc i) j o p at there same = absurd (some-ne-none o (sym at))

rise : (s t : Bool) → (s ≡ true → t ≡ true) → (w : ℕ) → Within (bits_for (if s then ((zero_word, 4) ∷ []) else []) w) (bits_for (if t then ((zero_word, 4) ∷ []) else []) w)
rise false t f w = zero_within (bits_for (if t then ((zero_word, 4) ∷ []) else []) w)
rise true t f w = subst (λ (k : Bool). Within (bits_for ((zero_word, 4) ∷ []) w) (bits_for (if k then ((zero_word, 4) ∷ []) else []) w)) (sym (f refl)) (within_refl (bits_for ((zero_word, 4) ∷ []) w))

monotone : (b : ℕ) (xs ys : List ℕ) → Covers 1 xs ys → (w : ℕ) → Within (bits_for (out_of b xs) w) (bits_for (out_of b ys) w)
monotone zero xs ys h w = within_refl (bits_for ((zero_word, 2) ∷ []) w)
monotone (suc b) xs ys h w = rise (bit_at (slice_index xs 0) 1 == 1) (bit_at (slice_index ys 0) 1 == 1)
    (λ e. let p : bit_at (slice_index xs 0) 1 ≡ 1 = eqb-true (bit_at (slice_index xs 0) 1) 1 e in let q = h 0 (omega arith) 1 in let r = bit_at-lt (slice_index ys 0) 1 in eq-eqb (bit_at (slice_index ys 0) 1) 1 (omega arith)) w

reads_only : (b : ℕ) (xs ys : List ℕ) → b < 2 → AgreesFor pair b xs ys → out_of b xs ≡ out_of b ys
reads_only zero xs ys inside h = refl
reads_only (suc b) xs ys inside h = ap (λ (n : ℕ). if bit_at n 1 == 1 then ((zero_word, 4) ∷ []) else []) (h 0 (omega arith) (eq-eqb (suc b) 1 (omega arith)))

named : (b : ℕ) (xs : List ℕ) (i : ℕ) (o : WordNo × ℕ) → get_elem? (out_of b xs) i ≡ some o → o.0.0 < 1
named zero xs zero o e = subst (λ (x : WordNo × ℕ). x.0.0 < 1) (some-injective (zero_word, 2) o e) (omega arith)
named zero xs (suc i) o e = absurd (some-ne-none o (sym e))
named (suc b) xs i o e = go (bit_at (slice_index xs 0) 1 == 1) i o e
  where
    go : (t : Bool) (i : ℕ) (o : WordNo × ℕ) → get_elem? (if t then ((zero_word, 4) ∷ []) else []) i ≡ some o → o.0.0 < 1
    go true zero o e = subst (λ (x : WordNo × ℕ). x.0.0 < 1) (some-injective (zero_word, 4) o e) (omega arith)
    go true (suc i) o e = absurd (some-ne-none o (sym e))
    go false i o e = absurd (some-ne-none o (sym e))

once : (b : ℕ) (xs : List ℕ) → NamesOnce (out_of b xs)
once zero xs = one_named (zero_word, 2)
once (suc b) xs = go (bit_at (slice_index xs 0) 1 == 1)
  where
    go : (t : Bool) → NamesOnce (if t then ((zero_word, 4) ∷ []) else [])
    go true = one_named (zero_word, 4)
    go false = λ i j o p at there same. absurd (some-ne-none o (sym at))

one_word : (n : ℕ) (w : ℕ) → n < 5 → bits_for ((zero_word, n) ∷ []) w < 2 ^ 64
one_word n w small = go (0 == w)
  where
    go : (t : Bool) → (if t then bit_or n 0 else 0) < 2 ^ 64
    go true = or_lt 64 n 0 (omega arith) (omega arith)
    go false = omega arith

bounded : (b : ℕ) (xs : List ℕ) (w : ℕ) → bits_for (out_of b xs) w < 2 ^ 64
bounded zero xs w = one_word 2 w (omega arith)
bounded (suc b) xs w = go (bit_at (slice_index xs 0) 1 == 1)
  where
    go : (t : Bool) → bits_for (if t then ((zero_word, 4) ∷ []) else []) w < 2 ^ 64
    go true = one_word 4 w (omega arith)
    go false = omega arith

pub pair_lawful : IsLawful pair
pair_lawful = record {
  monotone = λ b xs ys _ _ _ h w _. monotone b xs ys h w;
  reads_only = λ b xs ys inside _ _ h. reads_only b xs ys inside h;
  named = λ b xs _ _ i o e. named b xs i o e;
  once = λ b xs _ _. once b xs;
  bounded = λ b xs _ _ _ w. bounded b xs w;
}
