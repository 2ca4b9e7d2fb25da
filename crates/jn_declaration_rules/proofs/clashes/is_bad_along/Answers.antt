use Rattle.std.proofs.Common.{◌≡◌, ◌||◌, ap, sym, ◌∙◌}
use Rattle.jn_declaration_rules.specs.Rows.{hides_badly, overrides_badly}
use Rattle.jn_declaration_rules.proofs.Above.{hides_by, overrides_by}
use Rattle.jn_declaration_rules.proofs.clashes.is_bad_along.Goals as goal
use Rattle.jn_declaration_rules.proofs.clashes.is_bad_along.Goals.{then-overrides, else-overrides}

pub returns : goal.returns
returns c =
    let P = c.args.program.now in
    let x = c.index-index.result.now in
    let over = c.args.over.now in
    let o : c.overrides_among-overrides.result ≡ overrides_badly P c.args.m over = c.overrides_among-overrides.ensures ∙ overrides_by P x c.index-index.ensures over c.requires.inside c.args.m c.requires.there c.args.users.now c.requires.users c.as_slice.result.now (c.as_slice.ensures ∙ c.in_ok-classes.ensures) in
    let h : c.hides_among-hides.result ≡ hides_badly P over = c.hides_among-hides.ensures ∙ hides_by P x c.index-index.ensures over c.requires.inside c.args.m c.requires.there c.args.users.now c.requires.users c.as_slice-2.result.now (c.as_slice-2.ensures ∙ c.in_ok-classes.ensures) in
    elim c.if-overrides.branch [
      | then-overrides w ↦ w.result-is ∙ (w.if-overrides.true ∙ ap (λ b. b || hides_badly P over) (sym w.if-overrides.true ∙ o))
      | else-overrides w ↦ w.result-is ∙ (h ∙ ap (λ b. b || hides_badly P over) (sym w.if-overrides.false ∙ o))
    ]
