use Rattle.std.proofs.Common.{ap, ◌∙◌, nat_eq, sym, arith}
use Rattle.std.specs.HashMap as hash
use Rattle.jn_phase_notes.specs.Earlier.{standing}
use Rattle.jn_phase_notes.proofs.Finding.{no_one, says_more, says_still}
use Rattle.jn_phase_notes.proofs.scoped.Scoped.declare.Goals as goal

pub invariant_of-self-in_err-push : goal.invariant_of-self-in_err-push
invariant_of-self-in_err-push c =
    says_still c.self.inside.names.items (hash.get nat_eq c.self.inside.places) c.self.invariant c.args.name.name.0 (hash.get nat_eq c.insert.new.self) c.len.result
    (no_one c.find-first.result c.self.inside.names.items c.args.name.name.0 c.is_some.result c.is_some.ensures c.if-is_some.false (c.find-first.ensures ∙ ap (λ xs. standing xs c.args.name.name.0) (sym c.self.view_is)))
    c.in_ok-insert.ensures.updates.0 c.push.new.self.items c.in_err-push.ensures.items

pub invariant_of-self-2 : goal.invariant_of-self-2
invariant_of-self-2 c =
    says_more c.self.inside.names.items (hash.get nat_eq c.self.inside.places) c.self.invariant c.args.name (hash.get nat_eq c.insert.new.self) c.len.result (omega (c.len.ensures, arith))
    (no_one c.find-first.result c.self.inside.names.items c.args.name.name.0 c.is_some.result c.is_some.ensures c.if-is_some.false (c.find-first.ensures ∙ ap (λ xs. standing xs c.args.name.name.0) (sym c.self.view_is)))
    c.in_ok-insert.ensures.updates.0 c.push.new.self.items c.in_ok-push.ensures.items
