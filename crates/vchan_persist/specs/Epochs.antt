-- The epochs of a persistent server, one for each client: the answer to each client, and what stands of its page.
-- Source: this project's own; libxenvchan's server_persist keeps one page for all clients.
use Rattle.std.specs.Prelude.{◌≡◌, ℕ, ◌+◌, true, false, List, [], ◌∷◌, ◌++◌, map, Option, None, Some, option_map, slice_get}
use Rattle.ring_words.specs.declared.page.Role.TheVariants.{Client as ClientEnd}
use Rattle.vchan_protocol.specs.declared.op.PastEvent.{PastEvent}
use Rattle.service_gate.specs.Triple.{Triple}
use Rattle.service_gate.specs.ServiceResult.{service}
use Rattle.qrexec_data.specs.Seeing.{Exited, caller_sees, serving_sees}
use Rattle.scenario_file.specs.Generator.{Drawn, drawn}
use Rattle.task_duties.specs.Hostile.Stores.{field_of, stored}
use Rattle.task_duties.specs.Hostile.Trail.{retiring}
use Rattle.end_view.specs.Settled.{Settled, IsSettled}
use Rattle.vchan_rule.specs.Seated.{PageStart, began_with}
use Rattle.vchan_persist.specs.declared.client.Client.{Client}
use Rattle.vchan_persist.specs.declared.client.Client.TheVariants.{Call, Hostile}
use Rattle.vchan_persist.specs.declared.epoch.EpochResult.{EpochResult}
use Rattle.vchan_persist.specs.declared.epoch.EpochResult.TheVariants as result
use Rattle.vchan_persist.specs.declared.epoch.EpochDone.{EpochDone}

-- ---- the answer to a client

abbrev pub answered : Triple → EpochResult
answered t = result.Answered t.code t.stdout t.stderr

-- the answer to a call is what the service of that name gives for its input
abbrev pub answer_of : List ℕ → Client → Option EpochResult
answer_of name (Call stdin) = option_map answered (service name stdin)
answer_of name (Hostile seed stores) = Some result.Hostile

-- ---- what stands of its page

-- the client's end got the whole answer, and the server's end the whole input with its end
pub record IsAnswered (name stdin : List ℕ) (page : Settled) : Type 0 where
  pub honest : page.client.turned ≡ false
  pub gives : Triple
  pub is_service : service name stdin ≡ Some gives
  pub caller : caller_sees page.client.got ≡ record { verdict = Exited gives.code; stdout = gives.stdout; stderr = gives.stderr }
  pub serving : serving_sees page.server.got ≡ record { fault = None; input = stdin; ended = true }

-- the store that three drawn numbers make; the first number has only one page to choose from
abbrev pub drawn_store : Drawn → PastEvent
drawn_store d = stored (field_of d.word) d.value

-- this many drawn stores
abbrev pub scribbled : ℕ → ℕ → List PastEvent
scribbled seed stores = map drawn_store (drawn seed stores)

-- the client's end was given up before it moved a byte; its user made the drawn stores and retired it, and did nothing else
pub record IsScribbled (seed stores : ℕ) (page : Settled) : Type 0 where
  pub turned : page.client.turned ≡ true
  pub sent : page.client.sent ≡ []
  pub got : page.client.got ≡ []
  pub trail : page.client.trail ≡ scribbled seed stores ++ retiring ClientEnd

abbrev pub IsPageOf : List ℕ → Client → Settled → Type 0
IsPageOf name (Call stdin) page = IsAnswered name stdin page
IsPageOf name (Hostile seed stores) page = IsScribbled seed stores page

-- ---- the epochs

-- the epoch of a client, with its number
pub record IsEpoch (name : List ℕ) (words : PageStart) (number : ℕ) (client : Client) (e : EpochDone) : Type 0 where
  pub number_is : e.number ≡ number
  pub result_is : answer_of name client ≡ Some e.result
  pub settled : IsSettled e.settled
  pub words_are : began_with e.settled ≡ words
  pub server_honest : e.settled.server.turned ≡ false
  pub page : IsPageOf name client e.settled

-- one epoch for each client, in order, the first with this number
abbrev pub AreEpochs : List ℕ → PageStart → ℕ → List Client → List EpochDone → Type 0
AreEpochs name words number [] [] = Unit {0}
AreEpochs name words number [] (e ∷ es) = ⊥
AreEpochs name words number (c ∷ cs) [] = ⊥
AreEpochs name words number (c ∷ cs) (e ∷ es) = IsEpoch name words number c e × AreEpochs name words (number + 1) cs es

-- ---- the law

-- two epochs in which the client gets the same answer
abbrev pub AreAnsweredAlike : Option EpochDone → Option EpochDone → Type 0
AreAnsweredAlike (Some one) (Some other) = one.result ≡ other.result
AreAnsweredAlike (Some one) None = ⊥
AreAnsweredAlike None other = ⊥

-- a client that two lists have gets the same answer in both, at any place, whatever the other clients are and whatever they stored, and whatever the orders of the pages
abbrev pub EpochsApart : Type 0
EpochsApart =
    (name : List ℕ) (words others_words : PageStart) (clients others : List Client) (dones others_dones : List EpochDone)
    → AreEpochs name words 1 clients dones → AreEpochs name others_words 1 others others_dones
    → (client : Client) (place others_place : ℕ) → slice_get clients place ≡ Some client → slice_get others others_place ≡ Some client
    → AreAnsweredAlike (slice_get dones place) (slice_get others_dones others_place)
