use Rattle.std.proofs.Common.{◌≡◌, ◌∙◌, ap, sym, length, true}
use Rattle.std.proofs.lemmas.List.{length-replicate}
use Rattle.jn_env.proofs.Written.{mask_none}
use Rattle.jn_env.proofs.env.Env.empty.Goals as goal

pub returns-clause-facts : goal.returns-clause-facts
returns-clause-facts c =
    let keys = c.args.keys.now.facts in
    let known = c.in_ok-env.env.facts in
    let long : length keys ≡ length known = sym (ap length c.in_ok-env.ensures.facts ∙ length-replicate c.len.result true ∙ c.len.ensures) in
    c.write_assigned.ensures.facts ∙ c.write_facts.ensures.facts ∙ mask_none keys known long

pub returns-clause-assigned : goal.returns-clause-assigned
returns-clause-assigned c =
    let own = c.args.keys.now.own in
    let assigned = c.write_facts.new.self.assigned in
    let long : length own ≡ length assigned = sym (ap length (c.write_facts.ensures.assigned ∙ c.in_ok-env.ensures.assigned) ∙ length-replicate c.len-2.result true ∙ c.len-2.ensures) in
    c.write_assigned.ensures.assigned ∙ mask_none own assigned long
