-- The entry environment: what a body is given, laid over empty qualifiers.
use Rattle.std.proofs.Common.{◌≡◌, ℕ, zero, suc, List, [], ◌∷◌, ◌++◌, length, take, drop, replicate, Some, refl, sym, ap, ◌∙◌}
use Rattle.jn_quals.specs.Qualifier.{Qualifier}
use Rattle.jn_quals.specs.Order.{no_qual}
use Rattle.jn_points.specs.declared.program.Body.{Body}
use Rattle.jn_points.specs.declared.program.Program.{Program}
use Rattle.jn_points.specs.Lookup.{regs_of, body_at, method_at, method_of_body}
use Rattle.jn_env.specs.Environment.{Env}
use Rattle.jn_env.specs.Keys.{no_bits, fact_keys, own_keys}
use Rattle.jn_env.proofs.Along.{over, over_is}
use Rattle.jn_env.proofs.Weight.{same_env}
use Rattle.jn_transfer.specs.Transfer.{entry_env, pad_quals, given_quals}

-- empty qualifiers, with what is given laid over the first of them
none_padded : (n : ℕ) → replicate n no_qual ≡ pad_quals [] n
none_padded zero = refl
none_padded (suc n) = ap (λ qs. no_qual ∷ qs) (none_padded n)

over_padded : (qs : List Qualifier) (n : ℕ) → over qs (replicate n no_qual) ≡ pad_quals qs n
over_padded [] n = none_padded n
over_padded (q ∷ qs) zero = refl
over_padded (q ∷ qs) (suc n) = ap (λ zs. q ∷ zs) (over_padded qs n)

pub given_padded : (qs old new : List Qualifier) (n : ℕ) → old ≡ replicate n no_qual → new ≡ take (length old) qs ++ drop (length qs) old → new ≡ pad_quals qs n
given_padded qs old new n e h = h ∙ sym (over_is qs old) ∙ ap (λ base. over qs base) e ∙ over_padded qs n

pub entry_is : (P : Program) (s : List Qualifier) (b : ℕ) (info : Body) (e : Env) → body_at P b ≡ Some info → e.quals ≡ pad_quals (given_quals s (method_at P info.method.0)) (regs_of (body_at P b)) → e.facts ≡ no_bits (fact_keys P b) → e.assigned ≡ no_bits (own_keys P b) → e ≡ entry_env P s b
entry_is P s b info e at q f g =
    same_env e (entry_env P s b) (q ∙ ap (λ o. pad_quals (given_quals s (method_of_body P o)) (regs_of (body_at P b))) (sym at)) f g
