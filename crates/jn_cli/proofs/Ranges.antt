-- The numbers of a command lie in the ranges of their options.
use Rattle.std.proofs.Common.{◌≡◌, ℕ, ◌≤◌, Bool, true, false, List, Option, Some, None, refl, sym, subst, arith}
use Rattle.std.specs.Prelude.{◌&&◌, ◌||◌, not, nat_le, unwrap_or}
use Rattle.std.specs.Option.{option_map_or}
use Rattle.std.proofs.lemmas.Bool.Decides.{nat_tests}
use Rattle.jn_cli.specs.declared.command.Command.{Command}
use Rattle.jn_cli.specs.declared.options.Options.{Options}
use Rattle.jn_cli.specs.Tables.{is_chosen}
use Rattle.jn_cli.specs.Words.{are_refused, command_of, fits, is_address, is_bad_mix, is_report, is_within, number_of, number_or}

no_flag : true ≡ false → ⊥
no_flag e = cc

none_bad : (a b c d f g more : Bool) → ((not a || not b || not c || not d || not f || not g) || more) ≡ false → (a ≡ true) × (b ≡ true) × (c ≡ true)
none_bad false b c d f g more e = absurd (no_flag e)
none_bad true false c d f g more e = absurd (no_flag e)
none_bad true true false d f g more e = absurd (no_flag e)
none_bad true true true d f g more e = (refl, refl, refl)

all_fit : (o : Options) → are_refused o ≡ false → (fits 1 16 o.workers ≡ true) × (fits 1 1000000000 o.steps ≡ true) × (fits 1 500 o.classes ≡ true)
all_fit o e = none_bad (fits 1 16 o.workers) (fits 1 1000000000 o.steps) (fits 1 500 o.classes) (option_map_or is_report o.report true) (is_chosen o.infer) (option_map_or is_address o.codes true) (is_bad_mix o) e

module _ (least most default : ℕ) where
  within : (n : ℕ) → (nat_le least n && nat_le n most) ≡ true → (least ≤ n) × (n ≤ most)
  within n e = (grind (arith, nat_tests), grind (arith, nat_tests))

  numbered : (number : Option ℕ) → is_within least most number ≡ true → (least ≤ unwrap_or number default) × (unwrap_or number default ≤ most)
  numbered None e = absurd (no_flag (sym e))
  numbered (Some n) e = within n e

  in_range : (text : Option (List ℕ)) → least ≤ default → default ≤ most → fits least most text ≡ true → (least ≤ number_or default text) × (number_or default text ≤ most)
  in_range None low high e = (low, high)
  in_range (Some t) low high e = numbered (number_of t) e

at_most : (least most default : ℕ) (text : Option (List ℕ)) → default ≤ most → fits least most text ≡ true → number_or default text ≤ most
at_most least most default None high e = high
at_most least most default (Some t) high e = (numbered least most default (number_of t) e).1

-- the command's workers are as many as there may be
pub workers_in_range : (o : Options) → are_refused o ≡ false → (1 ≤ number_or 4 o.workers) × (number_or 4 o.workers ≤ 16)
workers_in_range o taken = in_range 1 16 4 o.workers (omega arith) (omega arith) (all_fit o taken).0

module _ (o : Options) (c : Command) (taken : are_refused o ≡ false) (is : c ≡ command_of o) where
  pub workers_fit : (1 ≤ c.workers) × (c.workers ≤ 16)
  unfolding command_of
  workers_fit = subst (λ (x : Command). (1 ≤ x.workers) × (x.workers ≤ 16)) (sym is) (workers_in_range o taken)

  pub steps_fit : (1 ≤ c.steps) × (c.steps ≤ 1000000000)
  unfolding command_of
  steps_fit = subst (λ (x : Command). (1 ≤ x.steps) × (x.steps ≤ 1000000000)) (sym is) (in_range 1 1000000000 1000000 o.steps (omega arith) (omega arith) (all_fit o taken).1)

  pub classes_fit : c.classes ≤ 500
  unfolding command_of
  classes_fit = subst (λ (x : Command). x.classes ≤ 500) (sym is) (at_most 1 500 0 o.classes (omega arith) (all_fit o taken).2)
