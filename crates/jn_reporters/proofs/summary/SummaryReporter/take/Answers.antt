use Rattle.std.proofs.Common.{◌≡◌, ◌<◌, ◌+◌, ◌++◌, ◌∷◌, [], ℕ, List, length, rules, sym, subst, ap, ◌∙◌}
use Rattle.std.specs.Prelude.{slice_index, slice_set}
use Rattle.jn_diag.specs.Order.{code_place}
use Rattle.jn_diag.specs.declared.shown.RowText.{RowText}
use Rattle.jn_reporters.specs.Counts.{IsCounted, lines_of}
use Rattle.jn_reporters.specs.Reports.{all_codes}
use Rattle.jn_reporters.specs.Sheet.{Lined}
use Rattle.jn_reporters.proofs.Counted.{code_more, row_more}
use Rattle.jn_reporters.proofs.summary.SummaryReporter.take.Goals as goal

pub invariant_of-self-in_err-take_anew : goal.invariant_of-self-in_err-take_anew
invariant_of-self-in_err-take_anew c =
    let pushed : c.push.new.self.items ≡ c.self.inside.codes.items ++ c.row.result.now.code ∷ [] = search rules in
    subst (λ (s : Lined). IsCounted s c.push.new.self.items c.self.inside.counts) (sym c.in_err-take_anew.ensures.err)
    (code_more c.self.inside.sheet c.self.inside.codes.items c.push.new.self.items c.self.inside.counts c.row.result.now.code pushed c.self.invariant)

pub invariant_of-self-2 : goal.invariant_of-self-2
unfolding all_codes
invariant_of-self-2 c =
    let before = c.self.inside.counts in
    let pushed : c.push.new.self.items ≡ c.self.inside.codes.items ++ c.row.result.now.code ∷ [] = search rules in
    let all = pushed ∙ ap (λ (t : RowText). c.self.inside.codes.items ++ t.code ∷ []) c.row.ensures in
    let within = subst (λ (t : RowText). code_place t.code < length before) c.row.ensures c.one_more-counts.ensures.within in
    let more = c.one_more-counts.ensures.more ∙ ap (λ (t : RowText). slice_set before (code_place t.code) (slice_index before (code_place t.code) + 1)) c.row.ensures in
    let lines = c.deref-2.ensures.value ∙ c.in_ok-lines.ensures ∙ ap (lines_of all_codes) more in
    subst (λ (xs : List ℕ). IsCounted c.take_anew.new.self c.push.new.self.items xs) (sym more)
    (row_more c.self.inside.sheet c.take_anew.new.self c.self.inside.codes.items c.push.new.self.items before c.args.row.now c.deref-2.result.now all within c.self.invariant lines c.in_ok-take_anew.ensures.ok)
