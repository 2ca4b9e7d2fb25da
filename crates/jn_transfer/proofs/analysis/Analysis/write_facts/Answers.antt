use Rattle.std.proofs.Common.{length, sym, ap, ◌∙◌}
use Rattle.jn_transfer.proofs.Sized.{length-facts_but}
use Rattle.jn_transfer.proofs.analysis.Analysis.write_facts.Goals as goal

pub add_fact-requires : goal.add_fact-requires
add_fact-requires c =
    ap length c.keys.ensures.facts ∙ sym c.requires.sized.facts
    ∙ sym (ap length c.drop_facts_on.ensures.facts ∙ length-facts_but c.args.self.now.program c.args.self.now.sig c.args.self.now.body 0 c.args.env.now c.args.field.0)
