use Rattle.std.proofs.Common.{sym, subst, ◌∙◌}
use Rattle.jn_reasons_law.specs.Items.{Stands}
use Rattle.jn_reasons_law.specs.Chains.{HasChain}
use Rattle.jn_notes.specs.Walked.{Subject}
use Rattle.jn_notes.proofs.Standing.{row_stands}
use Rattle.jn_notes.proofs.explain.notes_behind.Goals as goal

pub notes_from-requires : goal.notes_from-requires
notes_from-requires c =
    let v = c.args.walk.now in
    let u = c.program.result.now in
    let x = c.in-Some.item in
    let st : Stands v.sig v.tables x = row_stands v.sig v.tables v.program c.args.row x (sym c.requires.item ∙ c.in-Some.is) in
    let here : Stands u.sig u.tables x = subst (λ (w : Subject). Stands w.sig w.tables x) (sym c.program.ensures) st in
    subst (λ (w : Subject). HasChain w.program w.sig w.tables x) c.program.ensures
    (c.what_stands_has_a_chain.ensures u.program u.sig u.tables c.facts.ensures.inferable c.facts.ensures.least c.facts.ensures.solved.long c.facts.ensures.solved.least x here)
