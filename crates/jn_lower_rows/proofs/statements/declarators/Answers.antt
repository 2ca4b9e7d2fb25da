use Rattle.jn_lower_rows.specs.Views.{setting_of}
use Rattle.std.proofs.Common.{◌∙◌, subst}
use Rattle.jn_scopes.specs.Views.{faults_of}
use Rattle.jn_lower_rows.proofs.Stepping.{WalksName, names_end, names_more}
use Rattle.jn_places.specs.PlacedView.{placed_declarator}
use Rattle.jn_lower_rows.proofs.statements.declarators.Goals as goal

pub loop-declared-preserved : goal.loop-declared-preserved
loop-declared-preserved c = (
  c.in_ok-declarator.ensures.same ∙ c.loop-declared.invariant.0,
  (
    c.in_ok-declarator.ensures.kept,
    λ b last z more. c.loop-declared.invariant.1.1 b last z
        (names_more c.args.place.now.program.now c.args.place.now.class.0 (setting_of c.args.place.now.at) c.args.base c.args.is_final (faults_of c.args.names.now.faults.items c.args.faults) b c.args.more.now c.loop-declared.declared-index c.declared-item.result c.loop-declared.names c.declarator.new.names last c.loop-declared.rows c.declarator.new.rows z c.loop-declared-test.true c.declared-item.is
        (subst (λ rows. WalksName c.args.place.now.program.now c.args.place.now.class.0 (setting_of c.args.place.now.at) c.args.base c.args.is_final (faults_of rows c.args.faults) b (placed_declarator c.declared-item.result) c.loop-declared.names c.declarator.new.names c.loop-declared.rows c.declarator.new.rows) c.loop-declared.invariant.0 (c.in_ok-declarator.ensures.walks b)) more),
  ),
)

pub returns : goal.returns
returns c = λ b. c.loop-declared.invariant.1.1 b c.loop-declared.names c.loop-declared.rows (names_end c.args.place.now.program.now c.args.place.now.class.0 (setting_of c.args.place.now.at) c.args.base c.args.is_final (faults_of c.args.names.now.faults.items c.args.faults) b c.args.more.now c.loop-declared.declared-index c.loop-declared.names c.loop-declared.rows c.loop-declared-test.false c.loop-declared.invariant.1.0)
