-- A plan of events: what an end does next, and how it goes on with the value that it takes.
use Rattle.std.specs.Prelude.{◌≡◌, ℕ, suc, zero, List, [], ◌∷◌}
use Rattle.vchan_protocol.specs.declared.op.Op.{Op}
use Rattle.vchan_protocol.specs.declared.op.Op.TheVariants.{Nothing}
use Rattle.vchan_protocol.specs.declared.op.PastEvent.{PastEvent}
use Rattle.vchan_protocol.specs.declared.call.Answer.{Answer}

-- what is left of a call: its answer, or one event and how it goes on for each value that the event may take
pub data Plan : Type 0 where
  answers : Answer → Plan
  does : Op → (ℕ → Plan) → Plan

-- the next event
abbrev pub next_op : Plan → Op
next_op (answers answer) = Nothing
next_op (does op next) = op

-- what is left after the next event took this value
abbrev pub after : Plan → ℕ → Plan
after (answers answer) value = answers answer
after (does op next) value = next value

-- an event that was made, with the value that it took
abbrev pub past : Op → ℕ → PastEvent
past op value = record { op = op; taken = value }

-- what is left after these events
abbrev pub rest_after : Plan → List PastEvent → Plan
rest_after plan [] = plan
rest_after (answers answer) (event ∷ events) = answers answer
rest_after (does op next) (event ∷ events) = rest_after (next event.taken) events

-- from the plan, these events lead to the rest
abbrev pub Leads : Plan → List PastEvent → Plan → Type 0
Leads plan [] rest = plan ≡ rest
Leads (answers answer) (event ∷ events) rest = ⊥
Leads (does op next) (event ∷ events) rest = (event.op ≡ op) × Leads (next event.taken) events rest

-- whatever the values are, the plan ends within this many events
unfoldable pub EndsWithin : ℕ → Plan → Type 0
EndsWithin most (answers answer) = Unit {0}
EndsWithin zero (does op next) = ⊥
EndsWithin (suc most) (does op next) = (value : ℕ) → EndsWithin most (next value)

-- whatever the values are, each event of the plan is allowed
unfoldable pub EachDoes : (Op → Type 0) → Plan → Type 0
EachDoes Allowed (answers answer) = Unit {0}
EachDoes Allowed (does op next) = Allowed op × ((value : ℕ) → EachDoes Allowed (next value))

-- the plan has an event left
abbrev pub GoesOn : Plan → Type 0
GoesOn (answers answer) = ⊥
GoesOn (does op next) = Unit {0}
