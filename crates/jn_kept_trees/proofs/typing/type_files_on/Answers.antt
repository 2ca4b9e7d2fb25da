use Rattle.jn_kept_trees.proofs.Stays.{same_parsed}
use Rattle.jn_kept_trees.proofs.typing.type_files_on.Goals as goal

pub find_trees_again-requires-clause-earlier : goal.find_trees_again-requires-clause-earlier
find_trees_again-requires-clause-earlier g c κs within =
    let earlier = c.requires.earlier in
    (earlier.0, earlier.2, same_parsed c.args.trees.items earlier.0 c.in_ok-parsed.field-0 c.in-Ok.parsed c.deref.result.now c.deref-2.result.now c.in-Ok.is c.deref.ensures.value c.deref-2.ensures.value earlier.1 c.in_ok-parsed.ensures.same)
