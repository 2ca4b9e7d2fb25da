use Rattle.std.proofs.Common.{◌≡◌, ◌++◌, map, None}
use Rattle.jn_command.specs.Reporters.{first_named}
use Rattle.jn_reporters.specs.Forms.{Form}
use Rattle.jn_asked.proofs.choose.choose.Given as goal

abbrev pub invariant-loop-reporter : goal.invariant-loop-reporter
invariant-loop-reporter g l =
    (goal.iterator-loop-reporter g).can_next l.reporter-iterator ×
    (goal.iterator-loop-reporter g).is_finite l.reporter-iterator ×
    (l.yielded ++ l.reporter-iterator.rest.items ≡ l.fn.reporters.items) ×
    (first_named l.name (map {B = Form} (λ b. (goal.Reporter-dyn g (b.vtable, b.value)).form b.value) l.yielded) ≡ None)
