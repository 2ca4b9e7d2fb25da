use Rattle.jn_members_law.proofs.Unique.{member_named}
use Rattle.jn_members_law.proofs.Pairs.{pair_overrides, overrides_pair, found_overrides, there_pair}
use Rattle.jn_members_law.proofs.law.pairs_override.Goals as goal

pub returns : goal.returns
returns c = record {
  overrides = λ P C M A m k x y at_m at_k instance h. pair_overrides P C M m k x y at_m at_k A instance h;
  from_class = λ P C M c m k x y o i. overrides_pair P C M m k x y (member_named P o.member.from c m x o.member.by).0 o.declared.there c o i;
  found = λ P C c m k x y o found. found_overrides P C m k x y (member_named P o.member.from c m x o.member.by).0 o.declared.there c o found;
  there = λ P C m k x y o. there_pair P C m k x y o.declared.there o.declared_above.there o;
}
