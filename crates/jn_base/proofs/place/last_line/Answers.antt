use Rattle.std.proofs.Common.{◌≡◌, drop, false, sym, subst, arith}
use Rattle.std.specs.List.{list_any}
use Rattle.std.proofs.lemmas.List.{take_rest}
use Rattle.jn_base.specs.Place as spec
use Rattle.jn_base.proofs.Lines.{one_line, last_line_at}
use Rattle.jn_base.proofs.place.last_line.Goals as goal
use Rattle.jn_base.proofs.place.last_line.Goals.{then-loop-start-test+else-not-is_line_end, else-loop-start-test}

pub returns-clause-line : goal.returns-clause-line
returns-clause-line c =
    let text = c.args.text.now in
    let start = c.loop-start.start in
    rw take_rest (elim c.loop-start-test.branch [
      | then-loop-start-test+else-not-is_line_end w ↦ sym (last_line_at text start w.loop-start-test.true c.loop-start.invariant.within (sym w.if-not-is_line_end.ensures) c.loop-start.invariant.none)
      | else-loop-start-test w ↦
          let at : start ≡ 0 = omega arith in
          let none : list_any spec.is_line_end text ≡ false = subst (λ n. list_any spec.is_line_end (drop n text) ≡ false) at c.loop-start.invariant.none in
          subst (λ n. drop n text ≡ spec.last_line text) (sym at) (sym (one_line text none))
    ])
