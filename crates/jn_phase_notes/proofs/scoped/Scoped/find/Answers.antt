use Rattle.std.proofs.Common.{ap, ◌∙◌, nat_eq}
use Rattle.std.specs.HashMap as hash
use Rattle.jn_phase_notes.specs.Earlier.{standing}
use Rattle.jn_phase_notes.proofs.Finding.{says_none, says_some}
use Rattle.jn_phase_notes.proofs.scoped.Scoped.find.Goals as goal

pub returns-in-None : goal.returns-in-None
returns-in-None c = says_none c.self.inside.names.items (hash.get nat_eq c.self.inside.places) c.self.invariant c.args.name.0 c.in-None.ensures.value ∙ ap (λ xs. standing xs c.args.name.0) c.self.view_is

pub returns-in-Some : goal.returns-in-Some
returns-in-Some c = says_some c.self.inside.names.items (hash.get nat_eq c.self.inside.places) c.self.invariant c.args.name.0 c.in-Some.place.now c.name_at.result c.as_slice.result.now c.in-Some.ensures.value c.as_slice.ensures.value c.name_at.ensures ∙ ap (λ xs. standing xs c.args.name.0) c.self.view_is
