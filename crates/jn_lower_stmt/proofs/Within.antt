-- What expressions give in a body, of what they give in the context that is made for them.
use Rattle.std.proofs.Common.{◌≡◌, ℕ, List, [], ap, subst}
use Rattle.jn_base.specs.declared.number.ClassNo.{ClassNo}
use Rattle.jn_points.specs.declared.program.Program.{Program}
use Rattle.jn_points.specs.declared.point.Operand.{Operand}
use Rattle.jn_places.specs.Placed.{PlacedTree, PlacedTrees}
use Rattle.jn_lowering.specs.Scopes.{Scope}
use Rattle.jn_lowering.specs.Temporaries.{Temporaries}
use Rattle.jn_lowering.specs.Expressions.{lower, operands}
use Rattle.jn_lowering.specs.Locals.{State, with_temporaries}
use Rattle.jn_scopes.specs.declared.context.Context.{Context}
use Rattle.jn_lower_expr.specs.declared.emitter.Emitter.{Emitter}
use Rattle.jn_scopes.specs.Views.{scope_in}
use Rattle.jn_lower_expr.specs.Lowering.{Gives, GivesAll, Tests, lowered, lowered_all}
use Rattle.jn_lower_stmt.specs.declared.state.BodyContext.{BodyContext}
use Rattle.jn_lower_stmt.specs.Stating.{GivesIn, GivesAllIn, TestsIn, all_valued, tested, valued, valued_outside}

-- the context is that of the body, with these names in scope
pub record Same (k : Context) (c : BodyContext) (names : Scope) : Type 0 where
  pub program : k.program.now ≡ c.program.now
  pub class : k.class ≡ c.class
  pub first : k.first ≡ c.first
  pub scope : scope_in k ≡ names

pub carried : (F : Program → ℕ → ℕ → Scope → Type 0) (k : Context) (c : BodyContext) (scope : Scope) → Same k c scope → F k.program.now k.class.0 k.first (scope_in k) → F c.program.now c.class.0 c.first scope
carried F k c scope same x =
    subst (λ (P : Program). F P c.class.0 c.first scope) same.program
    (subst (λ (d : ClassNo). F k.program.now d.0 c.first scope) same.class
    (subst (λ (n : ℕ). F k.program.now k.class.0 n scope) same.first
    (subst (λ (s : Scope). F k.program.now k.class.0 k.first s) same.scope x)))

pub given_in : (k : Context) (c : BodyContext) (st : State) (x : PlacedTree) (e g : Emitter) (o : Operand) (u : Temporaries) → Same k c st.scope → Gives (lowered k st.temporaries x).value e o g u → GivesIn (valued c st x) st e o g (with_temporaries st u)
given_in k c st x e g o u same gives =
    let there : Gives (lower c.program.now c.class.0 c.first st.scope st.temporaries x).value e o g u = carried (λ P d n s. Gives (lower P d n s st.temporaries x).value e o g u) k c st.scope same gives in
    record { runs = there.runs; operand = there.operand; behind = ap (λ (t : Temporaries). with_temporaries st t) there.behind }

pub all_given_in : (k : Context) (c : BodyContext) (st : State) (xs : PlacedTrees) (e g : Emitter) (os : List Operand) (u : Temporaries) → Same k c st.scope → GivesAll (lowered_all k st.temporaries xs) e os g u → GivesAllIn (all_valued c st xs) st e os g (with_temporaries st u)
all_given_in k c st xs e g os u same gives =
    let there : GivesAll (operands c.program.now c.class.0 c.first st.scope st.temporaries xs) e os g u = carried (λ P d n s. GivesAll (operands P d n s st.temporaries xs) e os g u) k c st.scope same gives in
    record { runs = there.runs; operands = there.operands; behind = ap (λ (t : Temporaries). with_temporaries st t) there.behind }

pub tested_in : (k : Context) (c : BodyContext) (st : State) (x : PlacedTree) (one two : ℕ) (e g : Emitter) (u : Temporaries) → Same k c st.scope → Tests (lowered k st.temporaries x).condition one two e g u → TestsIn (tested c st x) st one two e g (with_temporaries st u)
tested_in k c st x one two e g u same tests =
    let there : Tests (lower c.program.now c.class.0 c.first st.scope st.temporaries x).condition one two e g u = carried (λ P d n s. Tests (lower P d n s st.temporaries x).condition one two e g u) k c st.scope same tests in
    record { adds = there.adds; behind = ap (λ (t : Temporaries). with_temporaries st t) there.behind }

pub given_outside : (k : Context) (c : BodyContext) (st : State) (x : PlacedTree) (e g : Emitter) (o : Operand) (u : Temporaries) → Same k c [] → Gives (lowered k st.temporaries x).value e o g u → GivesIn (valued_outside c st x) st e o g (with_temporaries st u)
given_outside k c st x e g o u same gives =
    let there : Gives (lower c.program.now c.class.0 c.first [] st.temporaries x).value e o g u = carried (λ P d n s. Gives (lower P d n s st.temporaries x).value e o g u) k c [] same gives in
    record { runs = there.runs; operand = there.operand; behind = ap (λ (t : Temporaries). with_temporaries st t) there.behind }
