use Rattle.std.proofs.Common.{map, Some, ap, sym, ◌∙◌}
use Rattle.std.specs.Prelude.{string_bytes}
use Rattle.jn_asked.specs.Asked.{asked_with}
use Rattle.jn_reporters.specs.Forms.{Form}
use Rattle.jn_asked.proofs.Asking.{by_refused, words_refused, name_refused, words_taken}
use Rattle.jn_asked.proofs.asked.read_asked.Goals as goal

pub returns-in-Err-Refused-clause-usage : goal.returns-in-Err-Refused-clause-usage
returns-in-Err-Refused-clause-usage g c = words_refused _ (map string_bytes c.args.words.now) (by_refused c.in-Err-Refused.field-0 _ c.in-Err-Refused.field-0-is c.in-Err-Refused.ensures.usage)

pub returns-in-None-clause-usage : goal.returns-in-None-clause-usage
returns-in-None-clause-usage g c = name_refused _ (map string_bytes c.args.words.now) c.in-Ok.command c.in-Ok.ensures.taken c.in-Ok.ensures.ok c.as_str.result.now c.as_str.ensures c.in-None.ensures

pub returns-in-Ok-linked-clause-asked : goal.returns-in-Ok-linked-clause-asked
returns-in-Ok-linked-clause-asked g c =
    words_taken _ (map string_bytes c.args.words.now) c.in-Ok.command c.in-Ok.ensures.taken c.in-Ok.ensures.ok _ c.as_str.result.now c.as_str.ensures c.in-Some.ensures
    ∙ ap (λ (f : Form). Some (asked_with c.in-Ok.command f)) (sym c.in-Ok-linked.ensures)
