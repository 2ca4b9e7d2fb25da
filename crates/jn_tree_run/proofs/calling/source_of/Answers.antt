use Rattle.std.proofs.Common.{◌≡◌, Some, sym, ap, ◌∙◌}
use Rattle.jn_points.specs.Lookup.{body_of, method_at}
use Rattle.jn_points.specs.declared.program.Program.{Program}
use Rattle.jn_tree_run.proofs.calling.source_of.Goals as goal

pub returns-in-Some : goal.returns-in-Some
returns-in-Some c =
    let is : body_of (method_at c.args.run.now.program.now c.args.method) ≡ Some c.in-Some.body = sym (c.body_of.ensures ∙ ap (λ (p : Program). body_of (method_at p c.args.method)) c.program.ensures) ∙ c.in-Some.is in
    rw is c.source_at.ensures
