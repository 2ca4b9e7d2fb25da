-- The laws of a net.
use Rattle.std.proofs.Common.{◌≡◌, ℕ, zero, suc, ◌*◌, ◌%◌, ◌-◌, ◌<◌, ◌≤◌, ◌^◌, ◌==◌, Bool, true, false, if◌then◌else◌, List, [], ◌∷◌, length, sym, refl, ap, ◌∙◌, subst, arith, bit_or, eq-eqb, mod-lt}
use mathlib.Core.Option.{some, some-injective, some-ne-none}
use lib.ListN.{get_elem?}
use Rattle.std.specs.Prelude.{slice_index}
use Rattle.std.specs.Int.{bit_at}
use Rattle.std.proofs.lemmas.Nat.{or_lt}
use Rattle.jn_base.specs.declared.number.WordNo.{WordNo}
use Rattle.jn_sigtable.specs.System.{System, IsLawful, Within, Covers, AgreesFor, bits_for}
use Rattle.jn_sigtable.specs.Machine.{one_at}
use Rattle.jn_sigtable.proofs.Bits.{within_trans, within_refl, zero_within, or_within, within_or_l, within_or_r}
use Rattle.jn_solver_samples.specs.declared.net.Shape.{Shape}
use Rattle.jn_solver_samples.specs.declared.net.Shape.TheVariants.{Chain, Star, Ring}
use Rattle.jn_solver_samples.specs.Nets.{source, net_by, net_of}
use Rattle.jn_solver_samples.specs.PairLaws.{one_named}

-- one output with more bits
single_within : (o : WordNo) (a b : ℕ) → Within a b → (w : ℕ) → Within (bits_for ((o, a) ∷ []) w) (bits_for ((o, b) ∷ []) w)
single_within o a b h w = go (o.0 == w)
  where
    go : (t : Bool) → Within (if t then bit_or a 0 else 0) (if t then bit_or b 0 else 0)
    go true = or_within a 0 (bit_or b 0) (within_trans a b (bit_or b 0) h (within_or_l b 0)) (zero_within (bit_or b 0))
    go false = within_refl 0

single_small : (o : WordNo) (a : ℕ) → a < 2 ^ 64 → (w : ℕ) → bits_for ((o, a) ∷ []) w < 2 ^ 64
single_small o a small w = go (o.0 == w)
  where
    go : (t : Bool) → (if t then bit_or a 0 else 0) < 2 ^ 64
    go true = or_lt 64 a 0 small (omega arith)
    go false = omega arith

one_small : (x : ℕ) → one_at x < 2 ^ 64
one_small x = mod-lt (1 * 2 ^ x) (omega arith)

module _ (from : ℕ → ℕ) (n : ℕ) (inside : (b : ℕ) → b < n → from b < n) where
  net_named : (b : ℕ) (q : WordNo × ℕ) → q.0.0 < n → (i : ℕ) (o : WordNo × ℕ) → get_elem? (q ∷ []) i ≡ some o → o.0.0 < n
  net_named b q low zero o at = subst (λ (x : WordNo × ℕ). x.0.0 < n) (some-injective q o at) low
  net_named b q low (suc i) o at = absurd (some-ne-none o (sym at))

  abbrev own_output : ℕ → ℕ → List (WordNo × ℕ)
  own_output b x = (record { 0 = b }, bit_or x (one_at (b % 8))) ∷ []

  pub by_lawful : IsLawful (net_by from n)
  by_lawful = record {
    monotone = λ b xs ys low _ _ h w _.
        single_within (record { 0 = b }) (bit_or (slice_index xs (from b)) (one_at (b % 8))) (bit_or (slice_index ys (from b)) (one_at (b % 8)))
        (or_within (slice_index xs (from b)) (one_at (b % 8)) _ (within_trans (slice_index xs (from b)) (slice_index ys (from b)) _ (h (from b) (inside b low)) (within_or_l (slice_index ys (from b)) (one_at (b % 8)))) (within_or_r (slice_index ys (from b)) (one_at (b % 8)))) w;
    reads_only = λ b xs ys low _ _ h. ap (own_output b) (h (from b) (inside b low) (eq-eqb (from b) (from b) refl));
    named = λ b xs low _ i o at. net_named b (record { 0 = b }, bit_or (slice_index xs (from b)) (one_at (b % 8))) low i o at;
    once = λ b xs _ _. one_named (record { 0 = b }, bit_or (slice_index xs (from b)) (one_at (b % 8)));
    bounded = λ b xs low _ small w. single_small (record { 0 = b }) (bit_or (slice_index xs (from b)) (one_at (b % 8))) (or_lt 64 (slice_index xs (from b)) (one_at (b % 8)) (small (from b)) (one_small (b % 8))) w;
  }

source_inside : (shape : Shape) (n b : ℕ) → b < n → source shape n b < n
source_inside Chain n b low = omega arith
source_inside Star n b low = omega arith
source_inside Ring n b low = go (b == 0)
  where
    go : (t : Bool) → (if t then (n - 1) else (b - 1)) < n
    go true = omega arith
    go false = omega arith

pub net_lawful : (shape : Shape) (n : ℕ) → IsLawful (net_of shape n)
net_lawful shape n = by_lawful (source shape n) n (source_inside shape n)
