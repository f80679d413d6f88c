-- The stores of a hostile client, and the end that they leave.
use Rattle.std.proofs.Common.{◌≡◌, ℕ, suc, List, [], ◌∷◌, ◌++◌, true, refl, ap, ◌∙◌}
use Rattle.ring_words.specs.declared.page.Role.TheVariants.{Client}
use Rattle.ring_words.specs.declared.page.WordName.{WordName}
use Rattle.vchan_protocol.specs.declared.op.Op.TheVariants.{Store}
use Rattle.vchan_protocol.specs.declared.op.PastEvent.{PastEvent}
use Rattle.vchan_protocol.specs.declared.side.Side.{Side}
use Rattle.vchan_protocol.specs.Hostile.Turned.{strays, turns}
use Rattle.vchan_protocol.specs.Table.Ends.{own_gone, peer_pending}
use Rattle.hostile_seat.specs.Hostile.{strays_along}
use Rattle.hostile_seat.proofs.ByteLaws.{along_role, along_trail, along_turned}
use Rattle.script_words.specs.Generator.{next_number}
use Rattle.task_duties.specs.Hostile.Stores.{field_of}
use Rattle.task_duties.specs.Hostile.Trail.{retiring}
use Rattle.vchan_persist.specs.Epochs.{scribbled}

-- ---- an end along some events

along_sent : (s : Side) (events : List PastEvent) → (strays_along s events).sent ≡ s.sent
along_sent s [] = refl
along_sent s (event ∷ events) = along_sent (strays s event.op event.taken) events

along_got : (s : Side) (events : List PastEvent) → (strays_along s events).got ≡ s.got
along_got s [] = refl
along_got s (event ∷ events) = along_got (strays s event.op event.taken) events

-- ---- one store more

-- the stores that are left lead to where all of them lead
abbrev pub LeadsOn : ℕ → ℕ → Side → ℕ → ℕ → Side → Type 0
LeadsOn seed count start x left now = strays_along now (scribbled x left) ≡ strays_along start (scribbled seed count)

pub leads_more : (seed count : ℕ) (start now next : Side) (x left page word value : ℕ) (field : WordName) (stored : ℕ) → LeadsOn seed count start x (suc left) now
    → page ≡ next_number x → word ≡ next_number page → value ≡ next_number word → field ≡ field_of word → stored ≡ value
    → next ≡ strays now (Store field stored) 0 → LeadsOn seed count start value left next
leads_more seed count start now next x left page word value field stored so_far page_is word_is value_is field_is stored_is next_is =
    let drawn_word : word ≡ next_number (next_number x) = word_is ∙ ap next_number page_is in
    let drawn_value : value ≡ next_number (next_number (next_number x)) = value_is ∙ ap next_number drawn_word in
    let store : strays now (Store field stored) 0 ≡ strays now (Store (field_of (next_number (next_number x))) (next_number (next_number (next_number x)))) 0 =
    λ i. strays now (Store ((field_is ∙ ap field_of drawn_word) i) ((stored_is ∙ drawn_value) i)) 0 in
    (λ i. strays_along ((next_is ∙ store) i) (scribbled (drawn_value i) left)) ∙ so_far

-- ---- the retired end

-- the end of a client that was given up, after all stores and the two events of retiring
pub record IsScribbledSide (seed stores : ℕ) (s : Side) : Type 0 where
  pub role_is : s.role ≡ Client
  pub turned : s.turned ≡ true
  pub sent : s.sent ≡ []
  pub got : s.got ≡ []
  pub trail : s.trail ≡ scribbled seed stores ++ retiring Client

pub scribbled_side : (seed stores consumed : ℕ) (given over last : Side) → given.role ≡ Client → given.sent ≡ [] → given.got ≡ [] → over ≡ strays_along (turns given consumed) (scribbled seed stores)
    → last ≡ strays (strays over (Store (own_gone over.role) 1) 0) (Store (peer_pending over.role) 1) 0 → IsScribbledSide seed stores last
scribbled_side seed stores consumed given over last role sent got over_is last_is =
    let events = scribbled seed stores in
    let role' : over.role ≡ Client = ap (λ (s : Side). s.role) over_is ∙ along_role (turns given consumed) events ∙ role in
    let end : last ≡ strays_along over (retiring Client) = last_is ∙ (λ i. strays_along over (retiring (role' i))) in
    record {
      role_is = ap (λ (s : Side). s.role) end ∙ along_role over (retiring Client) ∙ role';
      turned = ap (λ (s : Side). s.turned) end ∙ along_turned over (retiring Client) ∙ ap (λ (s : Side). s.turned) over_is ∙ along_turned (turns given consumed) events;
      sent = ap (λ (s : Side). s.sent) end ∙ along_sent over (retiring Client) ∙ ap (λ (s : Side). s.sent) over_is ∙ along_sent (turns given consumed) events ∙ sent;
      got = ap (λ (s : Side). s.got) end ∙ along_got over (retiring Client) ∙ ap (λ (s : Side). s.got) over_is ∙ along_got (turns given consumed) events ∙ got;
      trail = ap (λ (s : Side). s.trail) end ∙ along_trail over (retiring Client) ∙ ap (λ (s : Side). s.trail ++ retiring Client) over_is
          ∙ ap (λ (t : List PastEvent). t ++ retiring Client) (along_trail (turns given consumed) events);
    }
