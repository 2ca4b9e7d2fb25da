use Rattle.jn_members_law.proofs.Dispatch.{dispatch_invoked, invoked_is_one, invoked_dispatch}
use Rattle.jn_members_law.proofs.law.dispatch_invokes.Goals as goal

pub returns : goal.returns
returns c = record {
  invoked = λ P C M I s m k named at h. dispatch_invoked P C M I s named m k at h;
  one = λ P C M s k j named x y a b. invoked_is_one P C M s named k j x y a b;
  selected = λ P C M I G s m k named x at concrete virtual below h. invoked_dispatch P C M I G s m k named x at concrete virtual below h;
}
