-- What the words ask for, and what answers them.
use Rattle.std.proofs.Common.{◌≡◌, ◌∙◌, ℕ, inl, inr, List, Option, Some, None, Err, ap, refl, subst, sym}
use Rattle.jn_base.specs.declared.refusal.Fail.{Fail}
use Rattle.jn_base.specs.declared.refusal.Fail.TheVariants.{Refused}
use Rattle.jn_outside.specs.Sink.{Appends, AppendsPrefix}
use Rattle.jn_cli.specs.Recheck.{asking}
use Rattle.jn_cli.specs.Refused.{IfRefused}
use Rattle.jn_cli.specs.declared.command.Usage.{Usage as NoWords}
use Rattle.jn_cli.specs.declared.recheck.AskedFor.{AskedFor}
use Rattle.jn_command.specs.declared.status.Status.{Status}
use Rattle.jn_command.specs.declared.status.Status.TheVariants.{OutOfMemory, Usage}
use Rattle.jn_command.specs.Answer.{Finished, Reading}
use Rattle.nullcheck_recheck_top.specs.Answer.{Answers, usage_line}

-- the script is lent as a text
pub lent : (asked : Option AskedFor) (made : AskedFor) (name : List ℕ) → asked ≡ Some made → name ≡ made.script → Some (asking made.infer name) ≡ asked
lent asked made name e a = ap (λ n. Some (asking made.infer n)) a ∙ sym e

pub refused : (f : Fail NoWords) (cause : NoWords) (P : Type 0) → f ≡ Refused cause → IfRefused {T = AskedFor} (Err f) P → P
refused f cause P is h = subst (λ (x : Fail NoWords). IfRefused {T = AskedFor} (Err x) P) is h

-- they ask for nothing
pub usage : (read : Reading) (asked : Option AskedFor) (old new : Option (List ℕ)) (bytes : List ℕ) (before now : ℕ) (result : Status) → asked ≡ None → bytes ≡ usage_line → Finished old new bytes Usage before now result → Answers read asked old new result
usage read asked old new bytes before now result e b (inl p) = subst (λ x. Answers read x old new result) (sym e) (inl (p.0, subst (Appends old new) b p.1))
usage read asked old new bytes before now result e b (inr p) = subst (λ x. Answers read x old new result) (sym e) (inr (inl (p.0, subst (AppendsPrefix old new) b p.1)))

-- no memory was found to read them
pub unread : (read : Reading) (asked : Option AskedFor) (old : Option (List ℕ)) → read.now ≡ read.before → Answers read asked old old OutOfMemory
unread read None old same = inr (inr (refl, refl))
unread read (Some made) old same = inl (refl, inl same)
