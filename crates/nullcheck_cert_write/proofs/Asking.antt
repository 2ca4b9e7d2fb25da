-- What words ask of `write`, by what they ask of a command of that name.
use Rattle.std.proofs.Common.{◌≡◌, ◌∙◌, ℕ, true, false, List, Some, None, if◌then◌else◌, ap, sym}
use Rattle.std.specs.Prelude.{codes}
use Rattle.jn_base.specs.declared.infer.Infer.{Infer}
use Rattle.jn_cli.specs.Cert.{asked_of, command}
use Rattle.nullcheck_cert_write.specs.Words.{takes_source, unless_source, write_asked}

module _ (words : List (List ℕ)) where
  pub asks_none : asked_of (codes "write") words ≡ None → write_asked words ≡ None
  asks_none e = ap unless_source e

  module _ (infer : Infer) (cert : List ℕ) (files : List (List ℕ)) (asked : asked_of (codes "write") words ≡ Some (command infer cert files)) where
    pub asks : takes_source cert files ≡ false → write_asked words ≡ Some (command infer cert files)
    asks e = ap unless_source asked ∙ ap (λ b. if b then None else Some (command infer cert files)) e

    pub takes_place : takes_source cert files ≡ true → write_asked words ≡ None
    takes_place e = ap unless_source asked ∙ ap (λ b. if b then None else Some (command infer cert files)) e
