-- Texts of decimal digits.
use Rattle.std.proofs.Common.{◌≡◌, ◌∙◌, ℕ, ◌≤◌, true, List, [], ◌∷◌, length, Some, Result, Ok, rules, refl, ap, sym, arith}
use Rattle.std.specs.Char.{is_ascii_digit}
use Rattle.std.specs.List.{list_all}
use Rattle.std.specs.Prelude.{◌&&◌}
use Rattle.std.specs.Result.{result_ok}
use Rattle.std.specs.Str.{all_ascii_digits}
use Rattle.std.specs.Str.Parse.{ParsesUnsigned}
use Rattle.std.proofs.lemmas.Bool.Decides.{nat_tests}
use Rattle.std.proofs.lemmas.Str.Parse.{IsNumeralModel, numerals_by_fold, parse_gives, digits_value_short}
use Rattle.jn_cli.specs.Words.{value_after, number_of}

own : IsNumeralModel (λ ds. all_ascii_digits ds ≡ true) (value_after 0)
own = numerals_by_fold _ (search rules) value_after (search rules)

each_digit : (bs : List ℕ) → list_all is_ascii_digit bs ≡ all_ascii_digits bs
each_digit [] = refl
each_digit (b ∷ bs) = ap (λ rest. is_ascii_digit b && rest) (each_digit bs)

parsed : {E : Type 0} (bs : List ℕ) (r : Result ℕ E) → ParsesUnsigned 64 10 bs r → all_ascii_digits bs ≡ true → 1 ≤ length bs → length bs ≤ 10 → r ≡ Ok (value_after 0 bs)
parsed bs r h p some few = parse_gives own 64 bs r h p (omega arith) (omega (arith, digits_value_short own bs 10 p few))

counted : (bs : List ℕ) → list_all is_ascii_digit bs ≡ true → 1 ≤ length bs → length bs ≤ 10 → number_of bs ≡ Some (value_after 0 bs)
unfolding number_of
counted bs p some few = grind (arith, nat_tests)

pub read : {E : Type 0} (bs : List ℕ) (r : Result ℕ E) → ParsesUnsigned 64 10 bs r → list_all is_ascii_digit bs ≡ true → 1 ≤ length bs → length bs ≤ 10 → result_ok r ≡ number_of bs
read bs r h p some few = ap result_ok (parsed bs r h (sym (each_digit bs) ∙ p) some few) ∙ sym (counted bs p some few)
