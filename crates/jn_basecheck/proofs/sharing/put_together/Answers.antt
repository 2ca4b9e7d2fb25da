use Rattle.std.proofs.Common.{◌≡◌, ◌∙◌, ◌+◌, ◌++◌, length, ap, sym, subst, arith, Vec, Global}
use Rattle.jn_base.specs.declared.place.Row.{Row}
use Rattle.jn_basecheck.specs.Rows.{AreRowsOf}
use Rattle.jn_basecheck.proofs.Ranges.{no_rows_yet, behind_each_other}
use Rattle.jn_basecheck.proofs.sharing.put_together.Goals as goal

pub loop-body-init : goal.loop-body-init
loop-body-init c = subst (λ rows. AreRowsOf c.args.program.now 0 0 rows) (sym c.new-rows.ensures.items) (no_rows_yet c.args.program.now 0)

pub loop-body-preserved : goal.loop-body-preserved
loop-body-preserved c =
    let P = c.args.program.now in
    let body = c.loop-body.body in
    let rows = c.loop-body.rows.items in
    let more = c.index-found-body.result.items in
    let is : AreRowsOf P body (body + 1) more = subst (λ (v : Vec Row Global). AreRowsOf P body (body + 1) v.items) (sym c.index-found-body.is) (c.requires body c.index-found-body.result c.loop-body-test.true) in
    let all : c.extend_from_slice.new.self.items ≡ rows ++ more = c.in_ok-extend_from_slice.ensures.items ∙ ap (λ xs. rows ++ xs) c.as_slice.ensures.value in
    subst (λ xs. AreRowsOf P 0 (body + 1) xs) (sym all) (behind_each_other P 0 body (body + 1) rows more (omega arith) (omega arith) c.loop-body.invariant is)

pub returns : goal.returns
returns c =
    let ended : c.loop-body.body ≡ length c.args.found.now = omega (arith, c.loop-body.auto.body-end, c.loop-body-test.false) in
    subst (λ n. AreRowsOf c.args.program.now 0 n c.loop-body.rows.items) ended c.loop-body.invariant
