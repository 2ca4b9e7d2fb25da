use Rattle.std.proofs.Common.{rules, ◌≡◌, ◌+◌, ◌++◌, length, map, sym, ap, ◌∙◌, subst, arith, append_assoc, append-nil}
use Rattle.std.proofs.lemmas.List.{nil_from_length}
use Rattle.jn_front.specs.Numbered.{numbered_tree}
use Rattle.jn_kept_trees.specs.Merges.{AreFit}
use Rattle.jn_kept_trees.specs.Staying.{raw_of, raw_tree, raw_trees}
use Rattle.jn_kept_trees.proofs.Joins.{Completes, few_more, merged_more, merged_whole}
use Rattle.jn_kept_trees.proofs.merging.merge_all.Goals as goal

pub join_next-requires-clause-fit : goal.join_next-requires-clause-fit
join_next-requires-clause-fit c = (subst AreFit c.in-Some.ensures.steps.0 c.loop-one.invariant.fit).0

pub loop-one-preserved : goal.loop-one-preserved
loop-one-preserved c =
    let loop = c.loop-one in
    let next = c.next.new.self.rest.items in
    let is = c.in-Some.ensures.steps.0 in
    let joined = c.in_ok-join_next.ensures.joined in
    let fit = subst AreFit is loop.invariant.fit in
    let trees = map numbered_tree loop.trees.items in
    let after = map numbered_tree c.join_next.new.trees.items in
    let more : length loop.one-iterator.rest.items ≡ length next + 1 = ap length is ∙ omega arith in
    record {
      next = tt;
      finite = tt;
      so_far = merged_more c.args.kept.items c.in-Some.one next loop.names c.join_next.new.names trees after loop.texts.items c.join_next.new.texts.items joined (subst (λ ks. Completes c.args.kept.items loop.names ks trees loop.texts.items) is loop.invariant.so_far);
      raw = ap (λ ts. ts ++ raw_trees next) c.in_ok-join_next.ensures.raw ∙ append_assoc (map raw_tree loop.trees.items) (raw_of c.in-Some.one) (raw_trees next) ∙ ap (λ ks. map raw_tree loop.trees.items ++ raw_trees ks) (sym is) ∙ loop.invariant.raw;
      fit = fit.1;
      short = few_more c.in-Some.one loop.names c.join_next.new.names (length next) trees after loop.texts.items c.join_next.new.texts.items fit.0 joined (let short = loop.invariant.short in omega (arith, short, more));
    }

pub returns-clause-joined : goal.returns-clause-joined
returns-clause-joined c =
    let loop = c.loop-one in
    let rest = loop.one-iterator.rest.items in
    let none : length rest ≡ 0 = search rules in
    merged_whole c.args.kept.items loop.names rest (map numbered_tree loop.trees.items) loop.texts.items (nil_from_length rest none) loop.invariant.so_far

pub returns-clause-raw : goal.returns-clause-raw
returns-clause-raw c =
    let loop = c.loop-one in
    let rest = loop.one-iterator.rest.items in
    let trees = map raw_tree loop.trees.items in
    let none : length rest ≡ 0 = search rules in
    sym (ap (λ ks. trees ++ raw_trees ks) (nil_from_length rest none) ∙ append-nil trees) ∙ loop.invariant.raw
