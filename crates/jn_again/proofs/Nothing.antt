-- Where no bit differs or may be lost, each body is blind and stands apart.
use Rattle.std.proofs.Common.{◌≡◌, inl, ℕ, ◌+◌, ◌<◌, Bool, List, length, sym, ap, ◌∙◌, subst, arith}
use mathlib.Core.Logic.{dite}
use native.Mathlib.Decide.{ℕ_discrete}
use Rattle.std.specs.Prelude.{slice_index}
use Rattle.std.specs.Int.{bit_at}
use Rattle.std.proofs.lemmas.List.{ext_get_or}
use Rattle.std.proofs.lemmas.Nat.Bits.{bit_at-zero, same_from_bits}
use Rattle.jn_sigtable.specs.System.{System}
use Rattle.jn_resume.specs.Keepable.{AreKeepable, IsBlind, StandsApart}
use Rattle.jn_again.specs.Losing.{LoseSent, told}

none_blind : (sys : System) (bits : ℕ → ℕ) → ((w : ℕ) → w < sys.words → bits w ≡ 0) → (b : ℕ) → IsBlind sys bits b
none_blind sys bits none b = λ xs ys long more same.
    ap (sys.output b)
    (ext_get_or 0 xs ys (long ∙ sym more) (λ w lt.
    let into : w < sys.words = subst (λ (n : ℕ). w < n) long lt in
    same_from_bits (slice_index xs w) (slice_index ys w) (λ i. same w into i (ap (λ (x : ℕ). bit_at x i) (none w into) ∙ bit_at-zero i))))

pub none_apart : (sys : System) (bits : List ℕ) → length bits ≡ sys.words → ((w : ℕ) → w < length bits → slice_index bits w ≡ 0) → (b : ℕ) → StandsApart sys (slice_index bits) b
none_apart sys bits long none b =
    let all : (w : ℕ) → w < sys.words → slice_index bits w ≡ 0 = λ w lt. none w (subst (λ (n : ℕ). w < n) (sym long) lt) in
    record {
      blind = none_blind sys (slice_index bits) all b;
      silent = λ xs more w lt i one.
          let zero : bit_at (slice_index bits w) i ≡ 0 = ap (λ (x : ℕ). bit_at x i) (all w lt) ∙ bit_at-zero i in
          absurd (omega (arith, zero, one));
    }

pub none_keepable : (old new : System) (before start last : List ℕ) (changed : List Bool) (lost : List ℕ) → LoseSent old new before start last changed old.bodies lost → ((w : ℕ) → w < length lost → slice_index lost w ≡ 0) → AreKeepable old new before start last (told changed) (slice_index lost)
none_keepable old new before start last changed lost h none = record {
  started = h.started;
  sent = h.sent;
  followed = λ b lt c. inl (none_blind old (slice_index lost) (λ w wlt. none w (subst (λ (n : ℕ). w < n) (sym h.count) wlt)) b);
}

-- one mask more
pub none_first : (masks : List ℕ) (w : ℕ) → w < 0 → slice_index masks w ≡ 0
none_first masks w lt = absurd (omega (arith, lt))

pub none_more : (masks : List ℕ) (n : ℕ) → slice_index masks n ≡ 0 → ((w : ℕ) → w < n → slice_index masks w ≡ 0) → (w : ℕ) → w < n + 1 → slice_index masks w ≡ 0
none_more masks n here h w lt = dite (ℕ_discrete w n)
    (λ at. ap (slice_index masks) at ∙ here)
    (λ ne. h w (omega (arith, lt, ne)))
