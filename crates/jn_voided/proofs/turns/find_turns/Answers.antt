use Rattle.std.proofs.Common.{sym, subst, length}
use Rattle.jn_dataflow.specs.Solution.{Solves}
use Rattle.jn_voided.specs.Courses.{is_in, passed_in}
use Rattle.jn_voided.specs.Turning.{TellsTurns, turning}
use Rattle.jn_voided.proofs.Solved.{tells_by}
use Rattle.jn_voided.proofs.turns.find_turns.Goals as goal

pub returns : goal.returns
returns c =
    let made = c.new-analysis in
    let slots = c.in_ok-slots.slots in
    let course = c.args.course.now in
    let sources = c.args.sources.now in
    let of_course : Solves (turning (length course) (passed_in course) (is_in made.result.sources.now) made.result.wanted) slots = subst (λ xs. Solves (turning (length xs) (passed_in xs) (is_in made.result.sources.now) made.result.wanted) slots) made.ensures.course c.in_ok-slots.ensures in
    let of_sources : Solves (turning (length course) (passed_in course) (is_in sources) made.result.wanted) slots = subst (λ xs. Solves (turning (length course) (passed_in course) (is_in xs) made.result.wanted) slots) made.ensures.sources of_course in
    let solved : Solves (turning (length course) (passed_in course) (is_in sources) c.args.wanted) slots = subst (λ w. Solves (turning (length course) (passed_in course) (is_in sources) w) slots) made.ensures.wanted of_sources in
    subst (λ turns. TellsTurns (passed_in course) (is_in sources) c.args.wanted turns) (sym c.into_vec.ensures) (tells_by course sources c.args.wanted slots solved)
