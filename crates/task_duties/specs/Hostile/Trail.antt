-- The trail of each end of a hostile task: what was done on it since it was turned, by the task's acts.
-- Source: the acts are this project's own.
use Rattle.std.specs.Prelude.{◌≡◌, ℕ, List, [], ◌∷◌, ◌++◌, codes, decimal, Option, Some, None}
use Rattle.std.specs.List.{flat_map}
use Rattle.ring_words.specs.declared.page.Role.{Role}
use Rattle.ring_words.specs.declared.page.Role.TheVariants.{Server}
use Rattle.vchan_protocol.specs.declared.op.PastEvent.{PastEvent}
use Rattle.vchan_protocol.specs.Table.Ends.{written_ring, prod_word, own_gone, peer_pending, low32}
use Rattle.qrexec_frame.specs.declared.message.Message.TheVariants as message
use Rattle.qrexec_frame.specs.Messages.{written}
use Rattle.scenario_file.specs.declared.acts.Act.{Act}
use Rattle.scenario_file.specs.declared.acts.Act.TheVariants.{Hello, Say, Trigger, Terminate}
use Rattle.task_duties.specs.declared.place.PagePlace.{PagePlace}
use Rattle.task_duties.specs.declared.place.PagePlace.TheVariants.{Control, Payload}
use Rattle.task_duties.specs.Places.{numbers}
use Rattle.task_duties.specs.Hostile.Given.{HostilePlan}
use Rattle.task_duties.specs.Hostile.Stores.{role_at, stored, loaded, stores_of}
use Rattle.task_duties.specs.Hostile.Saying.{Voice, IsSaying}

-- ---- an act

-- the trigger of a number: MSG_TRIGGER_SERVICE3 with the ident `h-` and the number
abbrev pub numbered_trigger : List ℕ → List ℕ → ℕ → List ℕ
numbered_trigger to service k = written (message.Trigger3 to (codes "h-" ++ decimal k) service)

-- the bytes that an act sends, if it sends some
abbrev pub words_of : Act → Option (List ℕ)
words_of Hello = Some (written (message.Hello 3))
words_of (Say bytes) = Some bytes
words_of (Trigger to service count) = Some (flat_map (numbered_trigger to service) (numbers 1 1 count))
words_of (Terminate domain port) = Some (written (message.Terminated domain port))
words_of act = None

-- the events of an act on the control page, with the domain's own index before it and after it
abbrev pub Acts : HostilePlan → PagePlace → Act → Option (List ℕ) → Voice → Voice → List PastEvent → Type 0
Acts plan place act (Some bytes) before after events = IsSaying before after bytes events
Acts plan place act None before after events = (events ≡ stores_of plan place act) × (after ≡ before)

-- the events of acts one after another
abbrev pub AllActs : HostilePlan → PagePlace → List Act → Voice → List PastEvent → Type 0
AllActs plan place [] voice events = events ≡ []
AllActs plan place (act ∷ acts) voice events =
    (first : List PastEvent) × (rest : List PastEvent) × (after : Voice) × (events ≡ first ++ rest)
    × Acts plan place act (words_of act) voice after first × AllActs plan place acts after rest

-- ---- a whole trail

-- the end is retired: it sets its gone word, and signals its peer
abbrev pub retiring : Role → List PastEvent
retiring role = stored (own_gone role) 1 ∷ stored (peer_pending role) 1 ∷ []

-- the domain's own index is at first what it finds on the page
abbrev pub first_voice : HostilePlan → ℕ → Voice
first_voice plan value = record { orders = plan.control; own = low32 value }

-- the trail of the end at a place: on the control page a load of the producer index, all acts and the retiring; on a data page the stores of all acts and the retiring
abbrev pub IsTrail : HostilePlan → PagePlace → List PastEvent → Type 0
IsTrail plan (Control d) trail =
    (value : ℕ) × (events : List PastEvent) × AllActs plan (Control d) plan.acts (first_voice plan value) events
    × (trail ≡ loaded (prod_word (written_ring Server)) value ∷ (events ++ retiring Server))
IsTrail plan (Payload from to port) trail =
    trail ≡ flat_map (stores_of plan (Payload from to port)) plan.acts ++ retiring (role_at plan.domain (Payload from to port))
