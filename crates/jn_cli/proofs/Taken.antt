-- A command as clap sees it, and what a parse by it tells.
use Rattle.std.proofs.Common.{◌≡◌, ◌∙◌, inl, inr, ℕ, Bool, true, false, List, [], ◌∷◌, ap, ap₂, refl, sym}
use Rattle.std.specs.Prelude.{◌&&◌}
use Rattle.clap.specs.Words.{AddsArg, App, HasKind, HasMatchesOf, Kinds, Rule, app_of, fault_of, found_of, is_simple, is_simple_and_free, kind_of, matches_of, rows_of, rule_of, with_rule}
use Rattle.clap.specs.declared.builder.arg.Arg.{Arg}
use Rattle.clap.specs.declared.builder.command.Command.{Command}
use Rattle.clap.specs.declared.error.Error.{Error}
use Rattle.clap.specs.declared.parser.matches.ArgMatches.{ArgMatches}
use Rattle.clap.specs.declared.error.kind.ErrorKind.TheVariants as kind
use Rattle.jn_cli.specs.Tables.{no_fault, takes}

pub added : (old new : Command) (a : Arg) (app : App) (rule : Rule) → AddsArg old a new → a.global ≡ false → app_of old ≡ app → rule_of a ≡ rule → app_of new ≡ with_rule app rule
added old new a app rule h local e f = h.shape local ∙ ap₂ with_rule e f

some_kind : (kinds : Kinds) (e : Error) → (kind_of e ≡ kind.OutOfMemory → ⊥) → HasKind kinds e → no_fault kinds ≡ false
some_kind [] e other (inl memory) = absurd (other memory)
some_kind [] e other (inr among) = absurd among
some_kind (k ∷ ks) e other has = refl

left : (a b : Bool) → (a && b) ≡ true → a ≡ true
left true b e = refl
left false b e = e

module _ (app whole : App) (is : app ≡ whole) (free : is_simple_and_free whole ≡ true) (words : List (List ℕ)) where
  is_free : is_simple_and_free app ≡ true
  is_free = ap is_simple_and_free is ∙ free

  pub taken : (is_simple_and_free app ≡ true → fault_of app words ≡ []) → takes whole words ≡ true
  taken h = ap (λ a. no_fault (fault_of a words)) (sym is) ∙ ap no_fault (h is_free)

  pub refused : (e : Error) → (kind_of e ≡ kind.OutOfMemory → ⊥) → (is_simple_and_free app ≡ true → HasKind (fault_of app words) e) → takes whole words ≡ false
  refused e other h = ap (λ a. no_fault (fault_of a words)) (sym is) ∙ some_kind (fault_of app words) e other (h is_free)

  pub found : (m : ArgMatches) → HasMatchesOf app words m → rows_of (found_of m) ≡ matches_of whole words
  found m h = (h (left _ _ is_free)).0 ∙ ap (λ a. matches_of a words) is
