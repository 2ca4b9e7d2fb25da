use Rattle.std.proofs.Common.{◌≡◌, List, [], sym, subst, ◌∙◌}
use Rattle.jn_quals.specs.Qualifier.{Qualifier}
use Rattle.jn_transfer.specs.Rules.{pairs_rows}
use Rattle.jn_recheck.proofs.pairs.pairs_kept.Goals as goal

pub returns : goal.returns
returns c =
    let P = c.args.kept.now.program in
    c.new.ensures.items
    ∙ sym (c.unbroken_pairs_stay.ensures c.args.kept.now.names c.args.names.now P c.args.base.now c.args.sig.now c.requires.heads c.requires.same (subst (λ (s : List Qualifier). pairs_rows P s ≡ []) c.requires.equal c.requires.none))
