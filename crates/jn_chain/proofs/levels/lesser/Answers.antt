use Rattle.std.proofs.Common.{ℕ, ◌≤◌, Option, Some, sym, subst, arith}
use Rattle.jn_chain.specs.Search.{IsLower}
use Rattle.jn_chain.proofs.Loops.{lower_none, lower_kept, lower_new}
use Rattle.jn_chain.proofs.levels.lesser.Goals as goal

pub returns-in-None : goal.returns-in-None
returns-in-None c = subst (λ (b : Option ℕ). IsLower b c.args.steps (Some c.args.steps)) (sym c.in-None.is) (lower_none c.args.steps)

pub returns-then-least-steps : goal.returns-then-least-steps
returns-then-least-steps c = subst (λ (b : Option ℕ). IsLower b c.args.steps (Some c.in-Some.least)) (sym c.in-Some.is) (lower_kept c.in-Some.least c.args.steps c.if-least-steps.true)

pub returns-else-least-steps : goal.returns-else-least-steps
returns-else-least-steps c =
    let le : c.args.steps ≤ c.in-Some.least = omega (arith, c.if-least-steps.false) in
    subst (λ (b : Option ℕ). IsLower b c.args.steps (Some c.args.steps)) (sym c.in-Some.is) (lower_new c.in-Some.least c.args.steps le)
