use Rattle.std.proofs.Common.{◌≡◌, ◌++◌, length, ap, ◌∙◌}
use Rattle.std.proofs.lemmas.List.{length-replicate}
use Rattle.jn_env.specs.Chained.{unmarked}
use Rattle.jn_env.specs.Keys.{distinct}
use Rattle.jn_env.proofs.Firsts.{start}
use Rattle.jn_env.proofs.keys.distinct.Goals as goal

pub loop-i-init : goal.loop-i-init
loop-i-init c =
    let count : c.len-count.result ≡ length c.args.all.items = c.len-count.ensures ∙ ap length c.in_ok-list.ensures in
    record {
      long = ap length c.in_ok-seen.ensures ∙ length-replicate c.len-count.result _ ∙ count;
      taken = ap (λ ks. ks ++ distinct (unmarked c.args.all.items c.in_ok-seen.seen)) c.new-keys.ensures.items ∙ start c.args.all.items c.in_ok-seen.seen c.len-count.result count c.in_ok-seen.ensures;
    }
