use Rattle.std.proofs.Common.{refl, inr, subst}
use Rattle.jn_outside.specs.Sink.{Appends}
use Rattle.jn_targets.specs.Replacing.{ReplacesFirst}
use Rattle.nullcheck_annotate_top.proofs.Ending.{whole_prefix}
use Rattle.nullcheck_annotate_top.proofs.finish.finish.Goals as goal

pub returns-in-Err-replace_all : goal.returns-in-Err-replace_all
returns-in-Err-replace_all g c =
    let old = g.K.Sink.written c.args.out.now in
    let new = g.K.Sink.written c.write_whole.new.sink in
    let before = g.T.Targets.replaced c.args.targets.now in
    let now = g.T.Targets.replaced c.replace_all.new.targets in
    record {
      ends = inr (record {
        ends = refl;
        some = record {
          written = whole_prefix old new c.args.output.now.bytes (subst (Appends old new) c.as_slice.ensures c.in-Ok.ensures.ok);
          replaced = subst (ReplacesFirst before now) c.as_slice-in-Ok.ensures c.in-Err-replace_all.ensures.err;
        };
        cause = inr c.in-Err-replace_all.ensures.cause.failed;
      });
    }
