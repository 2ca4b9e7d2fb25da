-- What words ask for, by what is known of them.
use Rattle.std.proofs.Common.{◌≡◌, ◌∙◌, ℕ, ◌≤◌, Bool, true, false, ◌||◌, List, length, Option, Some, None, if◌then◌else◌, refl, sym, ap, arith}
use Rattle.std.specs.Prelude.{◌&&◌, ◌==◌, not}
use Rattle.std.proofs.lemmas.Bool.{ltb-false}
use Rattle.clap.specs.Words.{matches_of}
use Rattle.jn_cli.specs.declared.annotate.Options.{Options}
use Rattle.jn_cli.specs.declared.annotate.Wanted.{Wanted}
use Rattle.jn_cli.specs.declared.names.Options.{Options as NamesOptions}
use Rattle.jn_cli.specs.declared.recheck.AskedFor.{AskedFor}
use Rattle.jn_cli.specs.Tables.{is_chosen, takes}
use Rattle.jn_cli.specs.Annotate.{are_many, are_refused, options_of, takes_words, wanted_if, wanted_in, wanted_of}
use Rattle.jn_cli.specs.Names.{options_in}
use Rattle.jn_cli.specs.Recheck.{asked_in, asked_of, recheck_app}

module _ (words : List (List ℕ)) where
  -- a command that isn't refused
  pub asks : (o : Options) (w : Wanted) → takes_words words ≡ true → o ≡ options_of words → are_refused o ≡ false → w ≡ wanted_in o → wanted_of words ≡ Some w
  unfolding wanted_of
  asks o w taken is kept made =
      ap (λ b. wanted_if b (are_refused (options_of words)) (options_of words)) taken
      ∙ ap (λ p. wanted_if true (are_refused p) p) (sym is)
      ∙ ap (λ b. wanted_if true b o) kept ∙ ap Some (sym made)

  -- one that is refused
  pub asks_none : (o : Options) → takes_words words ≡ true → o ≡ options_of words → are_refused o ≡ true → wanted_of words ≡ None
  unfolding wanted_of
  asks_none o taken is refused =
      ap (λ b. wanted_if b (are_refused (options_of words)) (options_of words)) taken
      ∙ ap (λ p. wanted_if true (are_refused p) p) (sym is)
      ∙ ap (λ b. wanted_if true b o) refused

  -- words that aren't a command's
  pub asks_nothing : takes_words words ≡ false → wanted_of words ≡ None
  unfolding wanted_of
  asks_nothing untaken = ap (λ b. wanted_if b (are_refused (options_of words)) (options_of words)) untaken

  -- what the options ask for, where the words are taken
  pub asks_script : (o : NamesOptions) (asked : Option AskedFor) → takes recheck_app words ≡ true → o ≡ options_in (matches_of recheck_app words) → asked ≡ asked_in o → asked_of words ≡ asked
  unfolding asked_of
  asks_script o asked taken is of = ap (λ b. if b then asked_in (options_in (matches_of recheck_app words)) else None) taken ∙ ap asked_in (sym is) ∙ sym of

  -- words that aren't taken
  pub asks_no_script : takes recheck_app words ≡ false → asked_of words ≡ None
  unfolding asked_of
  asks_no_script untaken = ap (λ b. if b then asked_in (options_in (matches_of recheck_app words)) else None) untaken

last_false : (a b c d : Bool) → (a || b || c || d) ≡ false → d ≡ false
last_false a b c false e = refl
last_false true b c true e = e
last_false false true c true e = e
last_false false false true true e = e
last_false false false false true e = e

-- the files of a command that isn't refused are few
pub few_files : (o : Options) (w : Wanted) → are_refused o ≡ false → w ≡ wanted_in o → length w.files ≤ 64
unfolding wanted_in
few_files o w kept made =
    let few = ltb-false 64 (length o.files) (last_false (not (is_chosen o.infer)) (o.check && o.write) (length o.files == 0) (are_many o.files) kept) in
    let same : length w.files ≡ length o.files = ap (λ (v : Wanted). length v.files) made in
    omega (arith, few, same)
