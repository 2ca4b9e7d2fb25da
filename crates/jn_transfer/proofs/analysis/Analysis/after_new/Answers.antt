use Rattle.std.proofs.Common.{◌∙◌, ap, sym, subst}
use Rattle.jn_transfer.specs.Transfer.{drop_facts}
use Rattle.jn_env.specs.Sized.{EnvSized}
use Rattle.jn_transfer.proofs.Sized.{drop_sized}
use Rattle.jn_transfer.proofs.analysis.Analysis.after_new.Goals as goal

pub put-requires : goal.put-requires
put-requires c =
    let P = c.args.self.now.program in
    let b = c.args.self.now.body in
    record { sized = subst (λ e. EnvSized P b e) (sym (c.drop_facts.ensures ∙ ap (λ e. drop_facts P b e) c.in_ok-after.ensures)) (drop_sized P c.args.self.now.sig b 0 c.args.env.now c.requires.sized) }
