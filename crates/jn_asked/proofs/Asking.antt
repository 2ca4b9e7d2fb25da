-- What words ask for.
use Rattle.std.proofs.Common.{◌≡◌, ℕ, true, false, List, Option, Some, None, Err, sym, ap, ◌∙◌, subst}
use Rattle.std.specs.Prelude.{if◌then◌else◌}
use Rattle.jn_base.specs.declared.refusal.Fail.{Fail}
use Rattle.jn_base.specs.declared.refusal.Fail.TheVariants.{Refused}
use Rattle.jn_cli.specs.Refused.{IfRefused}
use Rattle.jn_cli.specs.declared.command.Command.{Command}
use Rattle.jn_cli.specs.Words.{command_of, is_usage, options_of}
use Rattle.jn_asked.specs.Asked.{asked_by, asked_of, asked_with, linked_with, shown_by}
use Rattle.jn_command.specs.Reporters.{first_named}
use Rattle.jn_reporters.specs.Forms.{Form}

-- what a refusal tells
pub by_refused : {E P : Type 0} (fail : Fail E) (cause : E) → fail ≡ Refused cause → IfRefused {T = Unit {0}} (Err fail) P → P
by_refused {P = P} fail cause is told = subst (λ f. IfRefused {T = Unit {0}} (Err f) P) is told

-- the words are refused by themselves
pub words_refused : (forms : List Form) (words : List (List ℕ)) → is_usage words ≡ true → asked_of forms words ≡ None
unfolding asked_of
words_refused forms words e = ap (λ b. if b then None else asked_by forms (command_of (options_of words))) e

module _ (forms : List Form) (words : List (List ℕ)) (command : Command) (taken : is_usage words ≡ false) (is : command ≡ command_of (options_of words)) where
  by_command : asked_of forms words ≡ asked_by forms command
  unfolding asked_of
  by_command = ap (λ b. if b then None else asked_by forms (command_of (options_of words))) taken ∙ ap (asked_by forms) (sym is)

  by_name : (form : Option Form) (name : List ℕ) → name ≡ command.report → first_named name forms ≡ form → asked_of forms words ≡ shown_by command form
  by_name form name same e = by_command ∙ ap (shown_by command) (ap (λ n. first_named n forms) (sym same) ∙ e)

  -- no reporter has the name
  pub name_refused : (name : List ℕ) → name ≡ command.report → first_named name forms ≡ None → asked_of forms words ≡ None
  name_refused name same e = by_name None name same e

  pub words_taken : (form : Form) (name : List ℕ) → name ≡ command.report → first_named name forms ≡ Some form → asked_of forms words ≡ Some (asked_with command (linked_with command.codes form))
  words_taken form name same e = by_name (Some form) name same e
