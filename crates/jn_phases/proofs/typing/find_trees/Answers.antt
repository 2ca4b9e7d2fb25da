use Rattle.jn_phases.proofs.typing.find_trees.Goals as goal

pub find_table-requires-clause-declared : goal.find_table-requires-clause-declared
find_table-requires-clause-declared g c κs lives =
    let parsed = c.requires.parsed in
    (parsed.0, record { parsed = parsed.1; rowless = c.in-Ok.ensures.built.1 })
