use Rattle.std.proofs.Common.{sym, ◌∙◌, ap}
use Rattle.std.specs.Prelude.{string_bytes, map}
use Rattle.jn_trees.specs.Names.{with_name, number_in}
use Rattle.jn_trees.proofs.Texts.{known_number, known_names, new_number, new_names}
use Rattle.jn_trees.proofs.names.Names.intern.Goals as goal

pub returns-in-Some-clause-number : goal.returns-in-Some-clause-number
returns-in-Some-clause-number c = known_number string_bytes c.self.inside.texts.keys c.args.text.now c.in-Some.index (sym c.get_index_of.ensures.index ∙ c.in-Some.is) ∙ ap (λ n. number_in n c.args.text.now) c.self.view_is

pub returns-in-Some-clause-names : goal.returns-in-Some-clause-names
returns-in-Some-clause-names c = sym c.self.view_is ∙ known_names string_bytes c.self.inside.texts.keys c.args.text.now c.in-Some.index (sym c.get_index_of.ensures.index ∙ c.in-Some.is) ∙ ap (λ n. with_name n c.args.text.now) c.self.view_is

pub returns-in-Ok-clause-number : goal.returns-in-Ok-clause-number
returns-in-Ok-clause-number c = c.in-Ok.ensures.index ∙ new_number string_bytes c.self.inside.texts.keys c.args.text.now c.in_ok-owned.owned c.in_ok-owned.ensures.ok ∙ ap (λ n. number_in n c.args.text.now) c.self.view_is

pub returns-in-Ok-clause-names : goal.returns-in-Ok-clause-names
returns-in-Ok-clause-names c = ap (λ k. map string_bytes k) c.in-Ok.ensures.keys ∙ new_names string_bytes c.self.inside.texts.keys c.args.text.now c.in_ok-owned.owned c.in_ok-owned.ensures.ok ∙ ap (λ n. with_name n c.args.text.now) c.self.view_is
