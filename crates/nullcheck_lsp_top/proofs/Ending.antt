-- A count of faults rises only where the status says so.
use Rattle.std.proofs.Common.{◌≡◌, ℕ, ◌<◌, List, Option, Some, None, refl, ap, arith}
use Rattle.jn_outside.specs.Files.{Holding}
use Rattle.jn_cli.specs.declared.server.Setup.{Setup}
use Rattle.nullcheck_lsp_top.specs.declared.status.Status.{Status}
use Rattle.nullcheck_lsp_top.specs.declared.status.Status.TheVariants.{Done, Ended, ReadFault, WriteFault, OutOfMemory, Usage}
use Rattle.nullcheck_lsp_top.specs.Answer.{Answers, AnswersBy, AnswersWords, Channels}
use Rattle.nullcheck_lsp_top.specs.Looking.{Outside}
use Rattle.jn_cli.specs.Server.{setup_of}

same_never : (a b : ℕ) → b ≡ a → a < b → ⊥
same_never a b e lt = omega (arith, e, lt)

module _ (setup : Setup) (held : Option Holding) (from to : Channels) (old new : Outside) where
  pub read_rose : (status : Status) → Answers setup held from to old new status → from.hears < to.hears → status ≡ ReadFault
  read_rose Done a lt = absurd (same_never from.hears to.hears a.1 lt)
  read_rose Ended a lt = absurd (same_never from.hears to.hears a.1 lt)
  read_rose ReadFault a lt = refl
  read_rose WriteFault a lt = absurd (same_never from.hears to.hears a.1 lt)
  read_rose OutOfMemory a lt = absurd (same_never from.hears to.hears a.1 lt)
  read_rose Usage a lt = absurd a

  pub write_rose : (status : Status) → Answers setup held from to old new status → from.writes < to.writes → status ≡ WriteFault
  write_rose Done a lt = absurd (same_never from.writes to.writes a.2 lt)
  write_rose Ended a lt = absurd (same_never from.writes to.writes a.2 lt)
  write_rose ReadFault a lt = absurd (same_never from.writes to.writes a.2 lt)
  write_rose WriteFault a lt = refl
  write_rose OutOfMemory a lt = absurd (same_never from.writes to.writes a.2 lt)
  write_rose Usage a lt = absurd a

module _ (held : Option Holding) (from to : Channels) (old new : Outside) where
  read_by : (wish : Option Setup) (status : Status) → AnswersBy wish held from to old new status → from.hears < to.hears → status ≡ ReadFault
  read_by None status a lt = absurd (same_never from.hears to.hears (ap (λ (c : Channels). c.hears) a.0) lt)
  read_by (Some made) status a lt = read_rose made held from to old new status a.0 lt

  write_by : (wish : Option Setup) (status : Status) → AnswersBy wish held from to old new status → from.writes < to.writes → status ≡ WriteFault
  write_by None status a lt = absurd (same_never from.writes to.writes (ap (λ (c : Channels). c.writes) a.0) lt)
  write_by (Some made) status a lt = write_rose made held from to old new status a.0 lt

  pub read_always : (words : List (List ℕ)) (status : Status) → AnswersWords held from to old new words status → from.hears < to.hears → status ≡ ReadFault
  read_always words status a lt = read_by (setup_of words) status a lt

  pub write_always : (words : List (List ℕ)) (status : Status) → AnswersWords held from to old new words status → from.writes < to.writes → status ≡ WriteFault
  write_always words status a lt = write_by (setup_of words) status a lt
