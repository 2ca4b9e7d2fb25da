-- The turns of loops: what a flow out of the body makes of the loop, and what each turn does.
use Rattle.std.specs.Prelude.{Bool, cond, Option, Some, None}
use Rattle.jn_meaning.specs.Statements.{Flow, Onward, Breaks, Continues, Returns}
use Rattle.jn_meaning.specs.Worlds.{World, Result, Has, Stops, FuelOut, spent, then_do}
use Rattle.jn_tree_simple.specs.declared.flow.Flow as code
use Rattle.jn_tree_simple.specs.Standings.{flow_of}

-- a flow with which something is left, as that of the definition
abbrev pub left_of : Option code.Flow → Option Flow
left_of None = None
left_of (Some f) = Some (flow_of f)

-- the flow that leaves statements one after the other, if it does
abbrev pub stops_turn : Flow → Option Flow
stops_turn Onward = None
stops_turn Breaks = Some Breaks
stops_turn Continues = Some Continues
stops_turn (Returns v) = Some (Returns v)

-- the flow with which the loop is left, if its body's flow leaves it (JLS 8, 14.15 to 14.17)
abbrev pub leaves : Flow → Option Flow
leaves Onward = None
leaves Continues = None
leaves Breaks = Some Onward
leaves (Returns v) = Some (Returns v)

-- what isn't left goes on
abbrev pub unless_left : Option Flow → World → (World → Result Flow) → Result Flow
unless_left None w go = go w
unless_left (Some flow) w go = Has flow w

-- after the body: the update, unless the loop is left
abbrev pub updated : Option Flow → World → (World → Result Flow) → Result (Option Flow)
updated None w update = then_do (update w) (λ flow w. Has (stops_turn flow) w)
updated (Some flow) w update = Has (Some flow) w

-- the body and the update
abbrev pub round : (World → Result Flow) → (World → Result Flow) → World → Result (Option Flow)
round body update w = then_do (body w) (λ flow w. updated (leaves flow) w update)

-- a condition, and the unit of fuel that it takes
abbrev pub tested : (World → Result Bool) → World → Result Bool
tested test w = then_do (test w) (λ b w. spent w (λ w. Has b w))

-- after the body of a `do`: the condition, unless the loop is left (JLS 8, 14.13)
abbrev pub concluded : Option Flow → World → (World → Result Bool) → Result (Option Flow)
concluded None w test = then_do (tested test w) (λ b w. Has (cond b None (Some Onward)) w)
concluded (Some flow) w test = Has (Some flow) w

-- the body and the condition
abbrev pub done_round : (World → Result Flow) → (World → Result Bool) → World → Result (Option Flow)
done_round body test w = then_do (body w) (λ flow w. concluded (leaves flow) w test)

-- a condition, after which no unit of fuel is left
abbrev pub last_test : (World → Result Bool) → World → Result Flow
last_test test w = then_do (test w) (λ b w. Stops FuelOut w.out)
