use Rattle.std.proofs.Common.{◌∙◌, sym}
use Rattle.jn_cli.proofs.Ranges.{workers_fit, steps_fit, classes_fit}
use Rattle.jn_cli.proofs.command.read_words.Goals as goal

pub returns-in-Ok-command_from-clause-workers : goal.returns-in-Ok-command_from-clause-workers
returns-in-Ok-command_from-clause-workers c = workers_fit c.in-Ok.options c.in-Ok-command_from.command (sym c.are_refused.ensures ∙ c.if-are_refused.false) c.in-Ok-command_from.ensures

pub returns-in-Ok-command_from-clause-steps : goal.returns-in-Ok-command_from-clause-steps
returns-in-Ok-command_from-clause-steps c = steps_fit c.in-Ok.options c.in-Ok-command_from.command (sym c.are_refused.ensures ∙ c.if-are_refused.false) c.in-Ok-command_from.ensures

pub returns-in-Ok-command_from-clause-classes : goal.returns-in-Ok-command_from-clause-classes
returns-in-Ok-command_from-clause-classes c = classes_fit c.in-Ok.options c.in-Ok-command_from.command (sym c.are_refused.ensures ∙ c.if-are_refused.false) c.in-Ok-command_from.ensures
