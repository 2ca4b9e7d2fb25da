use Rattle.std.proofs.Common.{None, Some, ap, sym, ◌∙◌}
use Rattle.std.specs.Prelude.{option_copied}
use Rattle.jn_chain.proofs.Keeping.{got}
use Rattle.jn_chain.proofs.kept.Kept.get.Goals as goal

pub returns-in-None : goal.returns-in-None
returns-in-None g c = sym (got c.args.self.now c.self.inside.items c.key_of.result c.args.item None c.key_of.ensures c.self.view_is (ap option_copied (sym c.in-None.is) ∙ c.get.ensures.value))

pub returns-in-Some : goal.returns-in-Some
returns-in-Some g c = sym (got c.args.self.now c.self.inside.items c.key_of.result c.args.item (Some c.in-Some.value.now) c.key_of.ensures c.self.view_is (ap option_copied (sym c.in-Some.is) ∙ c.get.ensures.value))
