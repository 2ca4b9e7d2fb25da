-- How long an environment's lists are. Those of one body have one size.
use Rattle.std.specs.Prelude.{◌≡◌, length}
use Rattle.jn_env.specs.Environment.{Env}

-- as many registers, keys and own fields
pub record SameSize (a b : Env) : Type 0 where
  pub quals : length a.quals ≡ length b.quals
  pub facts : length a.facts ≡ length b.facts
  pub assigned : length a.assigned ≡ length b.assigned
