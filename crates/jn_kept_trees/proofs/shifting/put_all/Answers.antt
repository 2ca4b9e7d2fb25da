use Rattle.std.proofs.Common.{◌<◌, get_or, refl, sym, ◌∙◌, subst}
use Rattle.std.proofs.lemmas.List.{length-set}
use Rattle.jn_base.specs.declared.number.NameNo.{NameNo}
use Rattle.jn_kept_trees.proofs.Placing.{put_more}
use Rattle.jn_kept_trees.proofs.shifting.put_all.Goals as goal

pub loop-at-preserved : goal.loop-at-preserved
loop-at-preserved c =
    let zero : NameNo = record { 0 = 0 } in
    let at = c.loop-at.at in
    let old = c.args.old.now in
    let new = c.args.new.now in
    let shift = c.loop-at.shift in
    let long = c.loop-at.invariant.0 in
    let room = subst (λ n. (get_or old at zero).0 < n) (sym long) (c.requires.room at zero c.loop-at-test.true) in (
      length-set shift (get_or old at zero).0 (get_or new at zero) ∙ long,
      put_more old new shift _ at zero zero c.requires.long c.requires.consistent c.loop-at-test.true room c.loop-at.invariant.1 refl,
    )
