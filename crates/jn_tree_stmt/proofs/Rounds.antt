-- Loops turn by turn.
use Rattle.std.proofs.Common.{◌≡◌, ◌<◌, ◌≤◌, ℕ, zero, suc, ◌+◌, ◌-◌, List, refl, sym, ap, ◌∙◌, subst, arith}
use Rattle.std.specs.Prelude.{⊤, Bool, true, false, cond, Option, Some, None}
use Rattle.jn_meaning.specs.Worlds.{World, Result, Has, Stops, FuelOut, spent, spent_from, then_do}
use Rattle.jn_meaning.specs.Statements.{Flow, Onward, Breaks, Continues, Returns, done_while, endless, in_turn, onward, repeated, turned, while_true}
use Rattle.jn_tree_world.specs.Outcomes.{IsStop, spends}
use Rattle.jn_tree_world.proofs.Binding.{spent_first, stop_then}
use Rattle.jn_tree_world.specs.declared.halt.Halt.{Halt}
use Rattle.jn_tree_world.specs.declared.halt.Halt.TheVariants.{Faulted, NullAt, FuelOut as NoFuel, TooDeep, Senseless, OutOfMemory}
use Rattle.jn_tree_stmt.specs.Leaving.{concluded, done_round, last_test, leaves, round, stops_turn, tested, unless_left, updated}

-- after an update, or the first of several statements
pub went_on : (r : Result Flow) (go : World → Result Flow) → in_turn r go ≡ then_do (then_do r (λ flow w. Has (stops_turn flow) w)) (λ o w. unless_left o w go)
went_on (Stops s out) go = refl
went_on (Has Onward w) go = refl
went_on (Has Breaks w) go = refl
went_on (Has Continues w) go = refl
went_on (Has (Returns v) w) go = refl

pub turned_from : (r : Result Flow) (update go : World → Result Flow) → then_do r (λ flow w. turned flow w (λ w. in_turn (update w) go)) ≡ then_do (then_do r (λ flow w. updated (leaves flow) w update)) (λ o w. unless_left o w go)
turned_from (Stops s out) update go = refl
turned_from (Has Onward w) update go = went_on (update w) go
turned_from (Has Continues w) update go = went_on (update w) go
turned_from (Has Breaks w) update go = refl
turned_from (Has (Returns v) w) update go = refl

spent_before : (b : Bool) (n : ℕ) (w : World) (go : World → Result Flow) → spent_from n w (λ w. while_true b w go) ≡ then_do (spent_from n w (λ w. Has b w)) (λ b w. while_true b w go)
spent_before b zero w go = refl
spent_before b (suc n) w go = refl

tested_from : (r : Result Bool) (go : World → Result Flow) → then_do r (λ b w. spent w (λ w. while_true b w go)) ≡ then_do (then_do r (λ b w. spent w (λ w. Has b w))) (λ b w. while_true b w go)
tested_from (Stops s out) go = refl
tested_from (Has b w) go = spent_before b w.fuel w go

-- so many turns are left before a turn, and none after the last one
pub one_more : (n i : ℕ) → i < n → n - i ≡ suc (n - (i + 1))
one_more n i lt = omega (lt, arith)

pub begins : (n : ℕ) → n ≡ n - 0
begins n = omega arith

pub none_more : (n i : ℕ) → n ≤ i → n - i ≡ 0
none_more n i le = omega (le, arith)

-- `while`: what its condition makes of it
abbrev pub turn_of : ℕ → (World → Result Bool) → (World → Result Flow) → (World → Result Flow) → World → Result Flow
turn_of n test body update w = then_do (body w) (λ flow w. turned flow w (λ w. in_turn (update w) (repeated n test body update)))

pub tests : (n i : ℕ) (test : World → Result Bool) (body update : World → Result Flow) (w : World) → i < n → repeated (n - i) test body update w ≡ then_do (tested test w) (λ b w. while_true b w (turn_of (n - (i + 1)) test body update))
tests n i test body update w lt = ap (λ k. repeated k test body update w) (one_more n i lt) ∙ tested_from (test w) (turn_of (n - (i + 1)) test body update)

-- and a turn, where it holds
pub turns_once : (n i : ℕ) (test : World → Result Bool) (body update : World → Result Flow) (w v : World) → i < n → tested test w ≡ Has true v → repeated (n - i) test body update w ≡ then_do (round body update v) (λ o w. unless_left o w (repeated (n - (i + 1)) test body update))
turns_once n i test body update w v lt holds = tests n i test body update w lt ∙ ap (λ (r : Result Bool). then_do r (λ b w. while_true b w (turn_of (n - (i + 1)) test body update))) holds ∙ turned_from (body v) update (repeated (n - (i + 1)) test body update)

pub ends : (n i : ℕ) (test : World → Result Bool) (body update : World → Result Flow) (w v : World) → i < n → tested test w ≡ Has false v → repeated (n - i) test body update w ≡ Has Onward v
ends n i test body update w v lt fails = tests n i test body update w lt ∙ ap (λ (r : Result Bool). then_do r (λ b w. while_true b w (turn_of (n - (i + 1)) test body update))) fails

pub last : (n i : ℕ) (test : World → Result Bool) (body update : World → Result Flow) (w : World) → n ≤ i → repeated (n - i) test body update w ≡ last_test test w
last n i test body update w le = ap (λ k. repeated k test body update w) (none_more n i le)

-- a turn that goes on, and one that leaves
pub goes_on : (r : Result (Option Flow)) (go : World → Result Flow) (w : World) → r ≡ Has None w → then_do r (λ o w. unless_left o w go) ≡ go w
goes_on r go w is = ap (λ (q : Result (Option Flow)). then_do q (λ o w. unless_left o w go)) is

pub is_left : (r : Result (Option Flow)) (go : World → Result Flow) (f : Flow) (w : World) → r ≡ Has (Some f) w → then_do r (λ o w. unless_left o w go) ≡ Has f w
is_left r go f w is = ap (λ (q : Result (Option Flow)). then_do q (λ o w. unless_left o w go)) is

-- `for` without condition: a turn, then a unit of fuel
pub endless_once : (n i : ℕ) (body update : World → Result Flow) (w : World) → i < n → endless (n - i) body update w ≡ then_do (round body update w) (λ o w. unless_left o w (λ w. spent w (endless (n - (i + 1)) body update)))
endless_once n i body update w lt = ap (λ k. endless k body update w) (one_more n i lt) ∙ turned_from (body w) update (λ w. spent w (endless (n - (i + 1)) body update))

pub endless_last : (n i : ℕ) (body update : World → Result Flow) (w : World) → n ≤ i → endless (n - i) body update w ≡ then_do (round body update w) (λ o w. unless_left o w (λ w. Stops FuelOut w.out))
endless_last n i body update w le = ap (λ k. endless k body update w) (none_more n i le) ∙ turned_from (body w) update (λ w. Stops FuelOut w.out)

-- a unit of fuel that was there, and one that wasn't
pub spent_on : {A : Type 0} → (w v : World) (go : World → Result A) → spends w ≡ Has tt v → spent w go ≡ go v
spent_on w v go is = spent_first w go ∙ ap (λ (q : Result ⊤). then_do q (λ u v. go v)) is

pub spend_stops : {A : Type 0} → (h : Halt) (w : World) (go : World → Result A) (out : List ℕ) → IsStop h (spends w) out → IsStop h (spent w go) out
spend_stops h w go out is = subst (λ q. IsStop h q out) (sym (spent_first w go)) (stop_then h (spends w) (λ u v. go v) out is)

-- `do`: a turn, which ends with the condition
spent_concluded : (b : Bool) (n : ℕ) (w : World) (go : World → Result Flow) → spent_from n w (λ w. while_true b w go) ≡ then_do (then_do (spent_from n w (λ w. Has b w)) (λ b w. Has (cond b None (Some Onward)) w)) (λ o w. unless_left o w go)
spent_concluded b zero w go = refl
spent_concluded true (suc n) w go = refl
spent_concluded false (suc n) w go = refl

tested_concluded : (r : Result Bool) (go : World → Result Flow) → then_do r (λ b w. spent w (λ w. while_true b w go)) ≡ then_do (then_do (then_do r (λ b w. spent w (λ w. Has b w))) (λ b w. Has (cond b None (Some Onward)) w)) (λ o w. unless_left o w go)
tested_concluded (Stops s out) go = refl
tested_concluded (Has b w) go = spent_concluded b w.fuel w go

concluded_from : (r : Result Flow) (test : World → Result Bool) (go : World → Result Flow) → then_do r (λ flow w. turned flow w (λ w. then_do (test w) (λ b w. spent w (λ w. while_true b w go)))) ≡ then_do (then_do r (λ flow w. concluded (leaves flow) w test)) (λ o w. unless_left o w go)
concluded_from (Stops s out) test go = refl
concluded_from (Has Onward w) test go = tested_concluded (test w) go
concluded_from (Has Continues w) test go = tested_concluded (test w) go
concluded_from (Has Breaks w) test go = refl
concluded_from (Has (Returns v) w) test go = refl

pub done_once : (n i : ℕ) (body : World → Result Flow) (test : World → Result Bool) (w : World) → i < n → done_while (n - i) body test w ≡ then_do (done_round body test w) (λ o w. unless_left o w (done_while (n - (i + 1)) body test))
done_once n i body test w lt = ap (λ k. done_while k body test w) (one_more n i lt) ∙ concluded_from (body w) test (done_while (n - (i + 1)) body test)

pub done_last : (n i : ℕ) (body : World → Result Flow) (test : World → Result Bool) (w : World) → n ≤ i → done_while (n - i) body test w ≡ done_while 0 body test w
done_last n i body test w le = ap (λ k. done_while k body test w) (none_more n i le)

pub turned_on : (f : Flow) (w : World) (go : World → Result Flow) → leaves f ≡ None → turned f w go ≡ go w
turned_on Onward w go is = refl
turned_on Continues w go is = refl
turned_on Breaks w go is = absurd (cc)
turned_on (Returns v) w go is = absurd (cc)

abbrev is_left_by : Option Flow → Flow
is_left_by None = Onward
is_left_by (Some f) = f

pub turned_out : (f g : Flow) (w : World) (go : World → Result Flow) → leaves f ≡ Some g → turned f w go ≡ Has g w
turned_out Onward g w go is = absurd (cc)
turned_out Continues g w go is = absurd (cc)
turned_out Breaks g w go is = ap (λ x. Has (is_left_by x) w) is
turned_out (Returns v) g w go is = ap (λ x. Has (is_left_by x) w) is

-- statements one after the other: the first one goes on, or is left
pub onward_on : (f : Flow) (w : World) (go : World → Result Flow) → stops_turn f ≡ None → onward f w go ≡ go w
onward_on Onward w go is = refl
onward_on Breaks w go is = absurd (cc)
onward_on Continues w go is = absurd (cc)
onward_on (Returns v) w go is = absurd (cc)

pub onward_out : (f g : Flow) (w : World) (go : World → Result Flow) → stops_turn f ≡ Some g → onward f w go ≡ Has g w
onward_out Onward g w go is = absurd (cc)
onward_out Breaks g w go is = ap (λ x. Has (is_left_by x) w) is
onward_out Continues g w go is = ap (λ x. Has (is_left_by x) w) is
onward_out (Returns v) g w go is = ap (λ x. Has (is_left_by x) w) is

-- what is the same stops in the same way
pub stop_same : {A : Type 0} → (h : Halt) (r q : Result A) (out : List ℕ) → r ≡ q → IsStop h q out → IsStop h r out
stop_same h r q out is stop = subst (λ p. IsStop h p out) (sym is) stop

-- what was gone through, and what comes after it
abbrev through : World → Result ⊤
through w = Has tt w

abbrev was : World → Result ⊤ → World
was v (Has x w) = w
was v (Stops s out) = v

abbrev stopped : {B : Type 0} → Result ⊤ → Result B
stopped (Has x w) = Stops FuelOut w.out
stopped (Stops s out) = Stops s out

pub gone : {A B : Type 0} → (r : Result A) (go : World → Result B) (w : World) → then_do r (λ z w. through w) ≡ through w → then_do r (λ z w. go w) ≡ go w
gone (Has x v) go w is = ap (λ q. go (was v q)) is
gone (Stops s out) go w is = absurd (cc)

pub gone_stops : {A B : Type 0} → (h : Halt) (r : Result A) (go : World → Result B) (out : List ℕ) → IsStop h (then_do r (λ z w. through w)) out → IsStop h (then_do r (λ z w. go w)) out
gone_stops OutOfMemory r go out is = tt
gone_stops (Faulted e span) (Has x v) go out is = absurd (cc)
gone_stops (NullAt span) (Has x v) go out is = absurd (cc)
gone_stops NoFuel (Has x v) go out is = absurd (cc)
gone_stops TooDeep (Has x v) go out is = absurd (cc)
gone_stops Senseless (Has x v) go out is = absurd (cc)
gone_stops (Faulted e span) (Stops s o) go out is = ap stopped is
gone_stops (NullAt span) (Stops s o) go out is = ap stopped is
gone_stops NoFuel (Stops s o) go out is = ap stopped is
gone_stops TooDeep (Stops s o) go out is = ap stopped is
gone_stops Senseless (Stops s o) go out is = ap stopped is
