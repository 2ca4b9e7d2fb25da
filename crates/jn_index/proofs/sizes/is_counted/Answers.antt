use Rattle.std.proofs.Common.{arith}
use Rattle.jn_index.proofs.sizes.is_counted.Goals as goal

pub returns : goal.returns
returns c = (
  λ e. record {
    classes = omega (arith, c.len.ensures, c.if-len-gt-MOST.false);
    fields = omega (arith, c.len-else-len-gt-MOST.ensures, c.if-len-gt-MOST-2.false);
    methods = omega (arith, c.len-else-len-gt-MOST-2.ensures, c.if-len-gt-MOST-3.false);
    parameters = c.counts_parameters.ensures.0 e;
  },
  λ all. c.counts_parameters.ensures.1 all.parameters,
)
