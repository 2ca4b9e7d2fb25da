use Rattle.jn_contrib.proofs.Sent.{of_a_point, of_the_body}
use Rattle.jn_contrib.proofs.law.contributions_are_of_reached_points.Goals as goal

pub returns : goal.returns
returns c = record {
  none_else = λ P b t x h. of_a_point P b t x h;
  all = λ P b t x h. of_the_body P b t x h;
}
