-- What the words ask for, and what answers them.
use Rattle.std.proofs.Common.{◌≡◌, inl, inr, Option, Some, None, Err, refl, sym, subst}
use Rattle.jn_base.specs.declared.refusal.Fail.{Fail}
use Rattle.jn_base.specs.declared.refusal.Fail.TheVariants.{Refused}
use Rattle.jn_cli.specs.Refused.{IfRefused}
use Rattle.jn_cli.specs.declared.command.Usage.{Usage as NoWords}
use Rattle.jn_cli.specs.declared.server.Setup.{Setup}
use Rattle.jn_outside.specs.Files.{Holding}
use Rattle.nullcheck_lsp_top.specs.declared.status.Status.{Status}
use Rattle.nullcheck_lsp_top.specs.declared.status.Status.TheVariants.{OutOfMemory, Usage}
use Rattle.nullcheck_lsp_top.specs.Answer.{Answers, AnswersBy, AsksInTime, Channels}
use Rattle.nullcheck_lsp_top.specs.Looking.{Outside}
use Rattle.nullcheck_lsp_top.proofs.Looping.{in_time_none, short_at_start}

-- no memory was found for the words
pub short_by : (wish : Option Setup) (held : Option Holding) (at : Channels) (old : Outside) → AnswersBy wish held at at old old OutOfMemory
short_by None held at old = (refl, refl, inr refl)
short_by (Some made) held at old = (short_at_start made held at old, in_time_none made held at at old refl)

pub refused : (f : Fail NoWords) (cause : NoWords) (P : Type 0) → f ≡ Refused cause → IfRefused {T = Setup} (Err f) P → P
refused f cause P is h = subst (λ (x : Fail NoWords). IfRefused {T = Setup} (Err x) P) is h

-- they ask nothing of a server
pub other_by : (wish : Option Setup) (held : Option Holding) (at : Channels) (old : Outside) → wish ≡ None → AnswersBy wish held at at old old Usage
other_by wish held at old e = subst (λ w. AnswersBy w held at at old old Usage) (sym e) (refl, refl, inl refl)

-- they ask for a server
pub serving_by : (wish : Option Setup) (made : Setup) (held : Option Holding) (from to : Channels) (old new : Outside) (status : Status) → wish ≡ Some made → Answers made held from to old new status → AsksInTime made held from to old → AnswersBy wish held from to old new status
serving_by wish made held from to old new status e answers in_time = subst (λ w. AnswersBy w held from to old new status) (sym e) (answers, in_time)
