use Rattle.std.proofs.Common.{subst}
use Rattle.std.specs.Prelude.{map}
use Rattle.jn_trees.specs.View.{file_view}
use Rattle.jn_annotate.specs.Shared.{IsLeast, shared_slots}
use Rattle.jn_annotate.proofs.Texts.{few_texts, is_shared}
use Rattle.jn_annotate.proofs.annotating.annotate_said.Goals as goal

pub sized-requires : goal.sized-requires
sized-requires c = few_texts c.args.imports c.args.said.now.slots c.args.sig.now c.args.texts.now c.args.tokens.now (map file_view c.args.trees.now) c.args.program.now.fields c.next_methods-methods.result.now c.in-Ok.new.items _ c.in-Ok.ensures c.requires.files

pub returns-in-Ok-Some-clause-refused : goal.returns-in-Ok-Some-clause-refused
returns-in-Ok-Some-clause-refused c =
    is_shared c.args.said.now.slots c.args.imports c.args.program.now c.args.sig.now c.args.texts.now c.args.tokens.now (map file_view c.args.trees.now) c.in-None.ensures.none c.in-Ok-Some.slot
    (subst (λ x. IsLeast x (shared_slots c.args.program.now c.args.sig.now (map file_view c.args.trees.now) c.args.program.now.fields)) c.in-Ok-Some.field-0-is c.in-Ok-Some.ensures)
