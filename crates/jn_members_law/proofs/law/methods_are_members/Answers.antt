use Rattle.jn_members_law.proofs.Unique.{method_member, member_found, class_member}
use Rattle.jn_members_law.proofs.law.methods_are_members.Goals as goal

pub returns : goal.returns
returns c = record {
  member = λ P C A c name arity m h. method_member P C A c name arity m h;
  found = λ P C c m x h. member_found P C c m x h;
  unique = λ P C M c m x h i. class_member P C M c m x h i;
}
