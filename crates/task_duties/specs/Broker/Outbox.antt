-- What a broker's journal puts into the outbox of each domain, and what was read from each domain.
-- Source: the messages are those of the qrexec protocol; that each is put into an outbox is this project's own.
use Rattle.std.specs.Prelude.{ℕ, ◌==◌, Bool, false, List, [], ◌∷◌, ◌++◌, filter, length, sum, map, Option, Some, None, if◌then◌else◌}
use Rattle.std.specs.List.{flat_map, count_by}
use Rattle.qrexec_frame.specs.Names.{cleaned_service}
use Rattle.qrexec_frame.specs.declared.message.Message.{Message}
use Rattle.qrexec_frame.specs.declared.message.Message.TheVariants as message
use Rattle.call_broker.specs.declared.decision.Entry.{Entry}
use Rattle.call_broker.specs.declared.event.Event.{Event}
use Rattle.call_broker.specs.declared.event.Event.TheVariants.{Trigger, Terminated, Dropped}
use Rattle.call_broker.specs.declared.decision.Decision.{Decision}
use Rattle.call_broker.specs.declared.decision.Decision.TheVariants.{Accepted, Refused}
use Rattle.call_broker.specs.Domains.{Domains, name_of}
use Rattle.call_broker.specs.Journal.{events, live}
use Rattle.task_duties.specs.Words.{exec_line}

-- a message, if the test holds
abbrev pub only_if : Bool → Message → List Message
only_if b m = if b then m ∷ [] else []

-- what one entry puts into the outbox of a domain: the caller of an accepted call gets a Connect and its target an Exec; the caller of a refused one gets a Refused
abbrev pub puts : Domains → ℕ → Event → Decision → List Message
puts hub d (Trigger from target service ident) (Accepted to port) =
    only_if (d == from) (message.Connect to port ident) ++ only_if (d == to) (message.Exec from port (exec_line (cleaned_service service) (name_of hub from)))
puts hub d (Trigger from target service ident) (Refused cause) = only_if (d == from) (message.Refused ident)
puts hub d event decision = []

-- all that a journal puts into the outbox of a domain, in order
abbrev pub outbox : Domains → List Entry → ℕ → List Message
outbox hub journal d = flat_map (λ x. puts hub d x.event x.decision) journal

-- the event that a message from a domain is
abbrev pub event_of : ℕ → Message → Option Event
event_of d (message.Trigger3 target ident service) = Some (Trigger d target service ident)
event_of d (message.Trigger target ident service) = Some (Trigger d target service ident)
event_of d (message.Terminated other port) = Some (Terminated d other port)
event_of d m = None

-- whether an event is a message from a domain
abbrev pub is_from : ℕ → Event → Bool
is_from d (Trigger from target service ident) = from == d
is_from d (Terminated from other port) = from == d
is_from d (Dropped domain) = false

-- the messages of a domain in a journal, as events
abbrev pub read_from : List Entry → ℕ → List Event
read_from journal d = filter (is_from d) (events journal)

-- whether an entry answers a trigger of a domain
abbrev pub is_answer : ℕ → Event → Decision → Bool
is_answer d (Trigger from target service ident) (Accepted to port) = from == d
is_answer d (Trigger from target service ident) (Refused cause) = from == d
is_answer d event decision = false

-- how many triggers of a domain were answered
abbrev pub answered : List Entry → ℕ → ℕ
answered journal d = count_by (λ x. is_answer d x.event x.decision) journal

-- how many calls of a domain are live, over all targets
abbrev pub live_calls : Domains → List Entry → List ℕ → ℕ → ℕ
live_calls hub journal all d = sum (map (λ to. length (live hub journal d to)) all)
