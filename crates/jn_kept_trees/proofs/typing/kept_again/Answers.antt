use Rattle.std.proofs.Common.{rules, ◌≡◌, ◌≤◌, length, inl, inr, arith}
use Rattle.jn_front.specs.Files.{files_of_reads}
use Rattle.jn_kept_trees.proofs.Going.{all_done, all_held, goes_from, goes_on, holds_from, holds_on}
use Rattle.jn_kept_trees.proofs.typing.kept_again.Goals as goal

pub loop-text-init : goal.loop-text-init
loop-text-init c =
    let both = c.into_iter-text-iterator.result in
    record {
      next = (tt, tt);
      finite = tt;
      goes = goes_from (files_of_reads c.args.files.now) c.new-kept.result.items c.args.texts.items both.a.rest.items c.args.trees.items both.b.rest.items c.new-kept.ensures.items (search rules) (search rules) c.requires;
      holds = holds_from c.args.trees.items c.new-kept.result.items both.b.rest.items c.new-kept.ensures.items (search rules);
    }

pub loop-text-preserved : goal.loop-text-preserved
loop-text-preserved c =
    let loop = c.loop-text in
    let steps = c.in-Some.ensures.steps in
    let both = loop.text-iterator in
    let next = c.next.new.self in
    record {
      next = (tt, tt);
      finite = tt;
      goes = goes_on (files_of_reads c.args.files.now) loop.kept.items c.put.new.items.items c.in-Some.text c.in-Some.tree both.a.rest.items next.a.rest.items both.b.rest.items next.b.rest.items steps.0.0 steps.1.0 c.in_ok-put.ensures loop.invariant.goes;
      holds = holds_on c.args.trees.items loop.kept.items c.put.new.items.items c.in-Some.text c.in-Some.tree both.b.rest.items next.b.rest.items steps.1.0 c.in_ok-put.ensures loop.invariant.holds;
    }

pub returns-clause-kept : goal.returns-clause-kept
returns-clause-kept c =
    let loop = c.loop-text in
    let files = files_of_reads c.args.files.now in
    let both = loop.text-iterator in
    let goes = loop.invariant.goes in
    let texts = goes.many_texts in
    let trees = goes.many_trees in
    let all : length files ≤ length loop.kept.items = elim c.in-None.ensures.steps [
      | inl end ↦ (let none : length both.a.rest.items ≡ 0 = search rules in omega (arith, texts, none))
      | inr end ↦ (let none : length both.b.rest.items ≡ 0 = search rules in omega (arith, trees, none))
    ] in
    all_done files loop.kept.items both.a.rest.items both.b.rest.items all goes

pub returns-clause-trees : goal.returns-clause-trees
returns-clause-trees c =
    let loop = c.loop-text in
    all_held c.args.trees.items loop.kept.items loop.text-iterator.b.rest.items loop.invariant.holds
