use Rattle.std.proofs.Common.{◌≡◌, ◌<◌, ◌++◌, ◌∷◌, [], Option, Some, None, length, refl, sym, ap, ◌∙◌, subst, arith}
use Rattle.std.specs.Prelude.{get_or, slice_get}
use Rattle.std.proofs.lemmas.Option.{slice_get_read}
use Rattle.jn_front.specs.declared.source.SourceFile.{SourceFile}
use Rattle.jn_front.specs.Files.{files_of_reads}
use Rattle.jn_kept_trees.specs.declared.kept.KeptTree.{KeptTree}
use Rattle.jn_kept_trees.specs.Fresh.{has_tree}
use Rattle.jn_kept_trees.specs.KeptTrees.{IsKeptOrNone}
use Rattle.jn_kept_trees.proofs.ReadFiles.{inside, more_long, one_more, read_file}
use Rattle.jn_kept_trees.proofs.Stays.{tree_within}
use Rattle.jn_kept_trees.proofs.Ways.{same_some}
use Rattle.jn_kept_trees.proofs.same.still_kept.Goals as goal

pub loop-at-preserved : goal.loop-at-preserved
loop-at-preserved c =
    let loop = c.loop-at in
    let at = loop.at in
    let reads = c.args.reads.now in
    let last = c.args.last.now in
    let trees = c.args.trees.items in
    let read = c.index-reads-at.result in
    let one = c.still_kept_at-one in
    let after = c.put.new.items.items in
    let there = read_file reads at read (slice_get_read reads (length reads) at read refl c.loop-at-test.true c.index-reads-at.is) in
    let put : after ≡ loop.kept.items ++ one.result ∷ [] = c.in_ok-put.ensures in
    let same : (file : SourceFile) → slice_get (files_of_reads reads) at ≡ Some file → read.file ≡ file = λ file e. same_some read.file file (sym there ∙ e) in
    record {
      long = more_long loop.kept.items after one.result at loop.invariant.long put;
      left = λ n le. one.ensures.others n (omega (arith, le)) ∙ loop.invariant.left n (omega (arith, le));
      kept = one_more None (λ n (o : Option KeptTree). (file : SourceFile) → slice_get (files_of_reads reads) n ≡ Some file → IsKeptOrNone n file o) loop.kept.items after one.result at loop.invariant.long put loop.invariant.kept
          (λ file e. subst (λ f. IsKeptOrNone at f one.result) (same file e) one.ensures.kept);
      stay = one_more None (λ n (o : Option KeptTree). (old file : SourceFile) → slice_get last n ≡ Some old → slice_get (files_of_reads reads) n ≡ Some file → old.bytes ≡ file.bytes → o ≡ get_or trees n None) loop.kept.items after one.result at loop.invariant.long put loop.invariant.stay
          (λ old file l e bytes. one.ensures.stays old l (bytes ∙ ap (λ (f : SourceFile). f.bytes) (sym (same file e))) ∙ loop.invariant.left at (omega arith));
      before = one_more None (λ n (o : Option KeptTree). (before : KeptTree) → o ≡ Some before → get_or trees n None ≡ Some before) loop.kept.items after one.result at loop.invariant.long put loop.invariant.before
          (λ before e. sym (loop.invariant.left at (omega arith)) ∙ one.ensures.before before e);
    }

pub returns-clause-stay : goal.returns-clause-stay
returns-clause-stay c = λ n old file l e bytes.
    let lt = inside c.args.reads.now n file e in
    let all = c.loop-at-test.false in
    c.loop-at.invariant.stay n (omega (arith, lt, all)) old file l e bytes

pub returns-clause-before : goal.returns-clause-before
returns-clause-before c = λ n one e.
    let loop = c.loop-at in
    loop.invariant.before n (subst (λ m. n < m) loop.invariant.long (tree_within loop.kept.items n (ap has_tree e))) one e
