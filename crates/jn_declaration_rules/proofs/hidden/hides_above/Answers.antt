use Rattle.std.proofs.Common.{sym, ap, ◌∙◌, arith}
use Rattle.jn_declaration_rules.specs.Hidden.{found_above, past}
use Rattle.jn_declaration_rules.proofs.HiddenAbove.{some_above, untold_object, untold_circle}
use Rattle.jn_declaration_rules.proofs.hidden.hides_above.Goals as goal

pub returns-then-name-owners-clause-none : goal.returns-then-name-owners-clause-none
returns-then-name-owners-clause-none c = past c.if-name-owners.true

pub returns-then-is_some-clause-none : goal.returns-then-is_some-clause-none
returns-then-is_some-clause-none c =
    let high = c.if-name-owners.false in
    untold_object c.args.program.now c.args.owners.now.count c.args.owners.now.tables c.requires.are c.args.field.now c.args.class.now c.requires.at (omega (arith, high)) c.find.result (sym c.find.ensures) (sym c.is_some.ensures ∙ c.if-is_some.true)

pub returns-then-owner-field-clause-none : goal.returns-then-owner-field-clause-none
returns-then-owner-field-clause-none c =
    let high = c.if-name-owners.false in
    let found = ap (found_above c.args.owners.now.tables c.args.field.now.name.0) (sym c.as_slice.ensures) ∙ (sym c.found_above.ensures ∙ c.in-Some.is) in
    untold_circle c.args.program.now c.args.owners.now.count c.args.owners.now.tables c.requires.are c.args.field.now c.args.class.now c.requires.at (omega (arith, high)) c.in-Some.owner found c.if-owner-field.true

pub returns-else-owner-field-clause-is : goal.returns-else-owner-field-clause-is
returns-else-owner-field-clause-is c =
    let high = c.if-name-owners.false in
    let found = ap (found_above c.args.owners.now.tables c.args.field.now.name.0) (sym c.as_slice.ensures) ∙ (sym c.found_above.ensures ∙ c.in-Some.is) in
    sym (some_above c.args.program.now c.args.owners.now.count c.args.owners.now.tables c.requires.are c.args.field.now c.args.class.now c.requires.at (omega (arith, high)) c.in-Some.owner found c.if-owner-field.false)
