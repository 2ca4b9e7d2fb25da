-- One body that reads the one word, and outputs nothing.
use Rattle.std.proofs.Common.{◌≡◌, ℕ, ◌^◌, ◌<◌, true, [], sym, refl, arith}
use mathlib.Core.Option.{some-ne-none}
use Rattle.jn_sigtable.specs.System.{System, IsLawful}
use Rattle.jn_sigtable.proofs.Bits.{zero_within}

abbrev pub starved : System
starved = record { bodies = 1; words = 1; reads = λ b w. true; output = λ b words. [] }

pub starved_lawful : IsLawful starved
starved_lawful = record {
  monotone = λ b xs ys _ _ _ h w _. zero_within 0;
  reads_only = λ b xs ys inside _ _ h. refl;
  named = λ b xs _ _ i o e. absurd (some-ne-none o (sym e));
  once = λ b xs _ _ i j o p at there same. absurd (some-ne-none o (sym at));
  bounded = λ b xs _ _ _ w. omega arith;
}
