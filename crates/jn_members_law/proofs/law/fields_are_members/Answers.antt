use Rattle.jn_members_law.proofs.Fields.{field_member, field_found, one_field}
use Rattle.jn_members_law.proofs.law.fields_are_members.Goals as goal

pub returns : goal.returns
returns c = record {
  member = λ P C F c name f h. field_member P C F c name f h;
  found = λ P C F c f x h. field_found P C F c f x h;
  one = λ P C F c f g x y a b same. one_field P C F c f g x y a b same;
}
