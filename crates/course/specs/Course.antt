-- A history as one part of a meter meets it: most of what happens is nothing to that part, and the rest is one of its own events.
use Rattle.std.specs.Prelude.{◌≡◌, List, [], ◌∷◌}
use Rattle.std.proofs.Math.Option.{Option, none, some}

-- entries of any kind, and what each of them is to the part, behind those before it
pub record Course (Event : Type 0) : Type 1 where
  pub Entry : Type 0
  pub what : List Entry → Entry → Option Event

-- one event more, or none
abbrev pub add : {Event : Type 0} → Option Event → List Event → List Event
add none es = es
add (some e) es = e ∷ es

-- what comes to the part of a history; both newest first
abbrev pub events : {Event : Type 0} (c : Course Event) → List c.Entry → List Event
events c [] = []
events c (e ∷ h) = add (c.what h e) (events c h)

-- ---- a state that the part keeps

-- what an event makes of a state, where there is one
abbrev pub stepped : {State Event : Type 0} → (State → Event → State) → State → Option Event → State
stepped step s none = s
stepped step s (some e) = step s e

-- after each history the state is what the steps of its events make of the first one
pub record Follows {State Event : Type 0} (step : State → Event → State) (first : State) (c : Course Event) (state : List c.Entry → State) : Type 0 where
  pub starts : state [] ≡ first
  pub goes : (h : List c.Entry) (e : c.Entry) → state (e ∷ h) ≡ stepped step (state h) (c.what h e)
