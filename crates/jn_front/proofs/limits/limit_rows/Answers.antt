use Rattle.std.proofs.Common.{◌+◌, ap, ◌∙◌, arith}
use Rattle.jn_front.specs.Counted.{counted_read}
use Rattle.jn_front.proofs.Kept.{read_fits}
use Rattle.jn_front.proofs.Loops.{counted_small, rows_step, limits_end}
use Rattle.jn_front.proofs.limits.limit_rows.Goals as goal

pub put_passing-requires : goal.put_passing-requires
put_passing-requires c =
    let small = counted_small c.read-item.result (read_fits c.read-item.result) in
    omega (arith, small, c.counted-size.ensures, c.reads.invariant.few, c.reads-test.true, c.requires.few)

pub overflow_add-before : goal.overflow_add-before
overflow_add-before c =
    let small = counted_small c.read-item.result (read_fits c.read-item.result) in
    omega (arith, small, c.counted-size.ensures, c.reads.invariant.few, c.reads-test.true, c.requires.few)

pub reads-preserved : goal.reads-preserved
reads-preserved c =
    let small = counted_small c.read-item.result (read_fits c.read-item.result) in
    record {
      number = ap (λ n. n + 1) c.reads.invariant.number;
      few = omega (arith, small, c.counted-size.ensures, c.reads.invariant.few);
      rows_are = rows_step c.args.reads.now c.reads.read-index c.reads.file c.reads.before c.counted-size.result c.read-item.result _ c.reads.rows.items c.put_large.new.rows.items c.put_passing.new.rows.items c.reads.invariant.rows_are c.reads.invariant.number c.reads-test.true (c.counted-size.ensures ∙ ap counted_read c.read-item.is) c.in_ok-put_large.ensures c.in_ok-put_passing.ensures;
    }

pub returns : goal.returns
returns c files are = limits_end c.args.reads.now files c.reads.read-index c.reads.before c.reads.rows.items c.requires.few c.reads-test.false are c.reads.invariant.rows_are
