use Rattle.std.proofs.Common.{ap, ◌∙◌}
use Rattle.std.specs.Prelude.{slice_get}
use Rattle.std.proofs.lemmas.Result.{IfOk-weaker}
use Rattle.jn_voided.specs.Courses.{is_in, passed_in}
use Rattle.jn_voided.specs.Searched.{voided_before}
use Rattle.jn_voided.specs.Voided.{makes}
use Rattle.jn_voided.proofs.Pairing.{found_is}
use Rattle.jn_voided.proofs.search.turned_in.Goals as goal

pub returns : goal.returns
returns c =
    let P = c.args.analysis.now.program in
    let s = c.args.analysis.now.sig in
    let b = c.args.analysis.now.body in
    let t = c.args.table.now in
    let k = c.args.key in
    IfOk-weaker c.search.result _ _ (λ turned h read.
    found_is P s b t k (passed_in c.deref.result.now) (is_in c.deref-2.result.now)
    (λ p. ap (λ xs. passed_in xs p) c.deref.ensures.value ∙ c.in_ok-course.ensures.course p)
    (λ p. ap (λ xs. is_in xs p) c.deref-2.ensures.value ∙ c.in_ok-makers.ensures p ∙ ap (λ xs. makes k (slice_get xs p)) c.requires.points)
    read (voided_before turned read) (h read)) c.search.ensures
