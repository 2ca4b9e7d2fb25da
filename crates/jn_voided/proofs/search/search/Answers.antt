use Rattle.std.proofs.Common.{ap, ◌∙◌}
use Rattle.jn_voided.specs.Courses.{is_in, passed_in}
use Rattle.jn_voided.proofs.Pairing.{turned_found}
use Rattle.jn_voided.proofs.search.search.Goals as goal

pub returns : goal.returns
returns c = λ read.
    turned_found (passed_in c.args.course.now) (is_in c.args.makers.now) (is_in c.deref.result.now) c.in_ok-known.known c.in_ok-unknown.unknown c.in_ok-known.ensures (λ p. ap (λ xs. is_in xs p) c.deref.ensures.value ∙ c.in_ok-ends.ensures p) c.in_ok-unknown.ensures read
