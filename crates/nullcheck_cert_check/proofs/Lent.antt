-- A command that was read, by its texts as they are lent, and words that are refused.
use Rattle.std.proofs.Common.{◌≡◌, ◌∙◌, ℕ, List, Option, Some, Err, subst, sym}
use Rattle.jn_base.specs.declared.infer.Infer.{Infer}
use Rattle.jn_base.specs.declared.refusal.Fail.{Fail}
use Rattle.jn_base.specs.declared.refusal.Fail.TheVariants.{Refused}
use Rattle.jn_cli.specs.Cert.{Command, command}
use Rattle.jn_cli.specs.Refused.{IfRefused}
use Rattle.jn_cli.specs.declared.cert.CertCommand.{CertCommand}
use Rattle.jn_cli.specs.declared.command.Usage.{Usage}

pub lent : (asked : Option Command) (infer : Infer) (name cert : List ℕ) (names files : List (List ℕ)) → asked ≡ Some (command infer name names) → cert ≡ name → files ≡ names → Some (command infer cert files) ≡ asked
lent asked infer name cert names files e a b = (λ i. Some (command infer (a i) (b i))) ∙ sym e

pub refused : (f : Fail Usage) (cause : Usage) (P : Type 0) → f ≡ Refused cause → IfRefused {T = CertCommand} (Err f) P → P
refused f cause P is h = subst (λ (x : Fail Usage). IfRefused {T = CertCommand} (Err x) P) is h
