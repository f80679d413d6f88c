-- A queue after each of its calls: how it is kept inside, and what contracts see of it.
use Rattle.std.proofs.Common.{◌≡◌, ℕ, ◌+◌, ◌-◌, ◌<◌, ◌≤◌, suc, zero, List, [], ◌∷◌, ◌++◌, length, map, drop, refl, ap, sym, ◌∙◌, arith, Option, Some, None, subst, get_or}
use Rattle.std.specs.Prelude.{true, false, Bool, not, bytes_eq, slice_get, slice_set, slice_index, if◌then◌else◌, MatchOption}
use Rattle.std.specs.List.{list_any, AllByRecursion as Each}
use Rattle.std.specs.BTreeMap.{BTreeMap}
use Rattle.qrexec_frame.specs.declared.message.Message.{Message}
use Rattle.qrexec_frame.specs.declared.message.Message.TheVariants.{Terminated}
use Rattle.call_broker.specs.Domains.{place_of}
use Rattle.task_duties.specs.Words.{ident_of}
use Rattle.task_duties.specs.Agent.Answers.{Answer, IsRefused, At, waits, waits_as}
use Rattle.task_duties.specs.Agent.Saying.{is_refusal}
use Rattle.agent_queue.specs.declared.call.CallAnswer.{CallAnswer}
use Rattle.agent_queue.specs.declared.call.CallAnswer.TheVariants as given
use Rattle.agent_queue.specs.declared.call.QueuedCall.{QueuedCall}
use Rattle.agent_queue.specs.Queue.{Queued, QueueState, asked_as, answer_of, is_open_to, open_count, IsDue, IsHeld, HasToSay, trigger_of, after_trigger, after_answer, IsWaitingAt, IsConnectedAt, FitsTrigger}
use Rattle.agent_queue.specs.Asking.{Asks}
use Rattle.agent_queue.specs.Index.{place_in}
use Rattle.agent_queue.specs.Inside.{queued, all_queued, idents, targets, IsFaithful, IsCounted, AreKept}
use Rattle.agent_queue.proofs.Places.{map_set_one, drop_set, drop_set_if, drop_next, drop_at}
use Rattle.agent_queue.proofs.CountLaws.{one, count_set, name_at_lem, Recounts, recounts_not, recounts_set}
use Rattle.agent_queue.proofs.KeptLaws.{get_or_get, kept_set, given_to, answered_at, none_waits, done_alone}
use Rattle.agent_queue.proofs.AskingLaws.{asks_triggered, asks_ended}
use Rattle.std.proofs.lemmas.List.{length-map}
use Rattle.std.proofs.lemmas.Slice.Eq.{bytes_eq-Decides}
use Rattle.std.proofs.lemmas.Option.{slice_get_within}
use Rattle.list_laws.specs.Lists.{AreDifferent}
use Rattle.list_laws.proofs.Each.{each_get}
use Rattle.list_laws.proofs.Places.{get_map, get_map_back}
use Rattle.list_laws.proofs.Tests.{and_second}

-- what contracts see of these calls, the first `next` of which were requested
abbrev pub seen : List QueuedCall → ℕ → QueueState
seen calls next = record { calls = all_queued calls; next = next }

-- the same with another call at a place
abbrev pub seen_set : List Queued → ℕ → Queued → ℕ → QueueState
seen_set calls i x next = record { calls = slice_set calls i x; next = next }

-- ---- the counts of a call that is kept

pub has_room : (calls : List QueuedCall) (index : BTreeMap ℕ ℕ) (counts : List ℕ) (next i : ℕ) (c : QueuedCall) → AreKept calls index counts next → slice_get calls i ≡ Some c → c.target < length counts
has_room calls index counts next i c k is =
    let at = name_at_lem (targets calls) c.given.value.to c.target (each_get (λ x. place_of (targets calls) x.given.value.to ≡ Some x.target) calls i c k.first is) in
    let less = slice_get_within (targets calls) c.target c.given.value.to at in
    let long = length-map calls (λ x. x.given.value.to) in
    omega (arith, less, long, k.as_many)

pub is_counted : (calls : List QueuedCall) (index : BTreeMap ℕ ℕ) (counts : List ℕ) (next i : ℕ) (c : QueuedCall) → AreKept calls index counts next → slice_get calls i ≡ Some c
    → slice_index counts c.target ≡ open_count c.given.value.to (all_queued calls)
is_counted calls index counts next i c k is = each_get (IsCounted (all_queued calls) counts) calls i c k.counted is

own_name : (c : QueuedCall) → c.is_open ≡ true → is_open_to c.given.value.to (queued c) ≡ true
own_name c is = let same = (bytes_eq-Decides c.given.value.to c.given.value.to).1 refl in rw (is, same) refl

pub counts_some : (calls : List QueuedCall) (index : BTreeMap ℕ ℕ) (counts : List ℕ) (next i : ℕ) (c : QueuedCall) → AreKept calls index counts next → slice_get calls i ≡ Some c → c.is_open ≡ true
    → 0 < slice_index counts c.target
counts_some calls index counts next i c k is o =
    let counted = is_counted calls index counts next i c k is in
    let set = count_set c.given.value.to (all_queued calls) i (queued c) (record { call = c.given.value; answer = answer_of c.answer; is_open = false }) (get_map queued calls i c is) in
    let was : one (is_open_to c.given.value.to (queued c)) ≡ 1 = ap one (own_name c o) in
    omega (arith, counted, set, was)

-- ---- a trigger was sent

abbrev pub counted_in : QueuedCall → QueuedCall
counted_in c = record c { is_open = not (is_refusal (answer_of c.answer)) }

pub kept_in : (calls : List QueuedCall) (index : BTreeMap ℕ ℕ) (counts new : List ℕ) (next : ℕ) (c c' : QueuedCall) → AreKept calls index counts next → slice_get calls next ≡ Some c → c' ≡ counted_in c
    → new ≡ (if is_refusal (answer_of c.answer) then counts else slice_set counts c.target (slice_index counts c.target + 1)) → AreKept (slice_set calls next c') index new (next + 1)
kept_in calls index counts new next c c' k is c_is new_is =
    let f = each_get IsFaithful calls next c k.faithful is in
    let shut : c.is_open ≡ false = drop_at (λ x. x.is_open ≡ false) next calls c k.closed is in
    let room = has_room calls index counts next next c k is in
    let less = slice_get_within calls next c is in
    let e : next + 1 ≡ suc next = omega arith in
    let closed : Each (λ x. x.is_open ≡ false) (drop (next + 1) (slice_set calls next c')) = subst (λ n. Each (λ x. x.is_open ≡ false) (drop n (slice_set calls next c'))) (sym e) (drop_next (λ x. x.is_open ≡ false) next calls c' k.closed) in
    let faithful : IsFaithful c' = subst IsFaithful (sym c_is) (record { number = f.number; to = f.to; service = f.service; stdin = f.stdin; short_to = f.short_to; short_service = f.short_service }) in
    kept_set calls index counts new next (next + 1) next c c' k is (ap (λ x. x.given.value) c_is) (ap (λ x. x.target) c_is) faithful
    (subst (λ b. Recounts counts new c.target b c'.is_open) (sym shut) (subst (λ x. Recounts counts new c.target false x.is_open) (sym c_is) (subst (λ n. Recounts counts n c.target false (not (is_refusal (answer_of c.answer)))) (sym new_is)
    (by_refusal (is_refusal (answer_of c.answer)) room))))
    closed (omega (arith, less))
  where
    by_refusal : (b : Bool) → c.target < length counts → Recounts counts (if b then counts else slice_set counts c.target (slice_index counts c.target + 1)) c.target false (not b)
    by_refusal true room = recounts_not counts c.target false
    by_refusal false room = recounts_set counts c.target (slice_index counts c.target + 1) false true room (omega arith)

same_some : {A : Type 0} (o : Option A) (x y : A) → o ≡ Some x → o ≡ Some y → x ≡ y
same_some o x y p q = let both : Some x ≡ Some y = sym p ∙ q in cc

pub view_in : (calls : List QueuedCall) (next : ℕ) (c c' : QueuedCall) (x : Queued) → slice_get calls next ≡ Some c → c' ≡ counted_in c → slice_get (all_queued calls) next ≡ Some x
    → seen (slice_set calls next c') (next + 1) ≡ after_trigger (seen calls next) x
view_in calls next c c' x is c_is x_is =
    let same : x ≡ queued c = same_some (slice_get (all_queued calls) next) x (queued c) x_is (get_map queued calls next c is) in
    let P : Queued → Type 0 = λ y. seen (slice_set calls next c') (next + 1) ≡ after_trigger (seen calls next) y in
    subst P (sym same) (ap (λ l. record { calls = l; next = next + 1 }) (map_set_one queued calls next c' ∙ ap (λ y. slice_set (all_queued calls) next (queued y)) c_is))

all_closed : (calls : List QueuedCall) (next : ℕ) → Each (λ x. x.is_open ≡ false) (drop next calls) → Each (λ x. x.is_open ≡ false) (drop next (all_queued calls))
all_closed [] zero each = tt
all_closed [] (suc next) each = tt
all_closed (c ∷ calls) zero each = (each.0, all_closed calls zero each.1)
all_closed (c ∷ calls) (suc next) each = all_closed calls next each

pub asks_in : (calls : List QueuedCall) (index : BTreeMap ℕ ℕ) (counts : List ℕ) (next : ℕ) (c c' : QueuedCall) (said : List Message) (version : ℕ) (m : Message) → AreKept calls index counts next
    → slice_get calls next ≡ Some c → c' ≡ counted_in c → HasToSay (seen calls next) version (Some m) → Asks (seen calls next) said
    → Asks (seen (slice_set calls next c') (next + 1)) (said ++ m ∷ [])
asks_in calls index counts next c c' said version m k is c_is says asks =
    let q : QueueState = seen calls next in
    subst (λ w. Asks (seen (slice_set calls next c') (next + 1)) (said ++ w ∷ [])) (sym says.2)
    (subst (λ s. Asks s (said ++ trigger_of version says.0.call ∷ [])) (sym (view_in calls next c c' says.0 is c_is says.1.0)) (asks_triggered q says.0 version said says.1 (all_closed calls next k.closed) asks))

-- the call that is due stands at the next place, isn't open, and has room for its count
pub place_due : (calls : List QueuedCall) (next : ℕ) (c : QueuedCall) → ((x : Queued) × IsDue (seen calls next) x) → c ≡ get_or calls next c → slice_get calls next ≡ Some c
place_due calls next c due is =
    let less = slice_get_within (all_queued calls) next due.0 due.1.0 in
    let long = length-map calls queued in
    get_or_get calls next c (omega (arith, less, long)) is

pub due_closed : (calls : List QueuedCall) (index : BTreeMap ℕ ℕ) (counts : List ℕ) (next : ℕ) (c : QueuedCall) → AreKept calls index counts next → slice_get calls next ≡ Some c → c.is_open ≡ false
due_closed calls index counts next c k is = drop_at (λ x. x.is_open ≡ false) next calls c k.closed is

pub due_few : (calls : List QueuedCall) (index : BTreeMap ℕ ℕ) (counts : List ℕ) (next : ℕ) (c : QueuedCall) → AreKept calls index counts next → slice_get calls next ≡ Some c
    → ((x : Queued) × IsDue (seen calls next) x) → slice_index counts c.target < 16
due_few calls index counts next c k is due =
    let counted = is_counted calls index counts next next c k is in
    let same : due.0 ≡ queued c = same_some (slice_get (all_queued calls) next) due.0 (queued c) due.1.0 (get_map queued calls next c is) in
    let few : open_count c.given.value.to (all_queued calls) < 16 = subst (λ (y : Queued). open_count y.call.to (all_queued calls) < 16) same due.1.1 in
    omega (arith, counted, few)

-- ---- a call is no longer open

abbrev pub counted_out : CallAnswer → QueuedCall → QueuedCall
counted_out answer c = record c { answer = answer; is_open = false }

pub kept_out : (calls : List QueuedCall) (index : BTreeMap ℕ ℕ) (counts new : List ℕ) (next i : ℕ) (answer : CallAnswer) (c c' : QueuedCall) → AreKept calls index counts next → slice_get calls i ≡ Some c
    → (waits (answer_of answer) ≡ true → waits (answer_of c.answer) ≡ true) → c' ≡ counted_out answer c
    → new ≡ (if c.is_open then slice_set counts c.target (slice_index counts c.target - 1) else counts) → AreKept (slice_set calls i c') index new next
kept_out calls index counts new next i answer c c' k is before c_is new_is =
    let f = each_get IsFaithful calls i c k.faithful is in
    let room = has_room calls index counts next i c k is in
    let some = counts_some calls index counts next i c k is in
    let shut : c'.is_open ≡ false = ap (λ x. x.is_open) c_is in
    let faithful : IsFaithful c' = subst IsFaithful (sym c_is) (record { number = f.number; to = f.to; service = f.service; stdin = λ w. f.stdin (before w); short_to = f.short_to; short_service = f.short_service }) in
    kept_set calls index counts new next next i c c' k is (ap (λ x. x.given.value) c_is) (ap (λ x. x.target) c_is) faithful
    (subst (λ b. Recounts counts new c.target c.is_open b) (sym shut) (subst (λ n. Recounts counts n c.target c.is_open false) (sym new_is) (by_open c.is_open room some)))
    (drop_set (λ x. x.is_open ≡ false) next calls i c' k.closed shut) k.within
  where
    by_open : (b : Bool) → c.target < length counts → (b ≡ true → 0 < slice_index counts c.target) → Recounts counts (if b then slice_set counts c.target (slice_index counts c.target - 1) else counts) c.target b false
    by_open true room some = let more = some refl in recounts_set counts c.target (slice_index counts c.target - 1) true false room (omega (arith, more))
    by_open false room some = recounts_not counts c.target false

pub view_out : (calls : List QueuedCall) (next i : ℕ) (answer : CallAnswer) (c c' : QueuedCall) (x : Queued) → slice_get calls i ≡ Some c → c' ≡ counted_out answer c → slice_get (all_queued calls) i ≡ Some x
    → seen (slice_set calls i c') next ≡ seen_set (all_queued calls) i (record { call = x.call; answer = answer_of answer; is_open = false }) next
view_out calls next i answer c c' x is c_is x_is =
    let same : x ≡ queued c = same_some (slice_get (all_queued calls) i) x (queued c) x_is (get_map queued calls i c is) in
    ap (λ l. record { calls = l; next = next })
    (map_set_one queued calls i c' ∙ (ap (λ y. slice_set (all_queued calls) i (queued y)) c_is ∙ ap (λ (y : Queued). slice_set (all_queued calls) i (record { call = y.call; answer = answer_of answer; is_open = false })) (sym same)))

pub view_shut : (calls : List QueuedCall) (next i : ℕ) (c c' : QueuedCall) (x : Queued) → slice_get calls i ≡ Some c → c' ≡ counted_out c.answer c → slice_get (all_queued calls) i ≡ Some x
    → seen (slice_set calls i c') next ≡ seen_set (all_queued calls) i (record x { is_open = false }) next
view_shut calls next i c c' x is c_is x_is =
    let same : x ≡ queued c = same_some (slice_get (all_queued calls) i) x (queued c) x_is (get_map queued calls i c is) in
    view_out calls next i c.answer c c' x is c_is x_is ∙ ap (λ a. seen_set (all_queued calls) i (record { call = x.call; answer = a; is_open = false }) next) (sym (ap (λ (y : Queued). y.answer) same))

pub asks_out : (calls : List QueuedCall) (next i d port : ℕ) (c c' : QueuedCall) (said : List Message) → slice_get calls i ≡ Some c → c' ≡ counted_out c.answer c → IsConnectedAt (seen calls next) i d port
    → Asks (seen calls next) said → Asks (seen (slice_set calls i c') next) (said ++ Terminated d port ∷ [])
asks_out calls next i d port c c' said is c_is at asks =
    subst (λ s. Asks s (said ++ Terminated d port ∷ [])) (sym (view_shut calls next i c c' at.0 is c_is at.1)) (asks_ended (seen calls next) i d port at.0 said at.1 at.2 asks)

-- ---- an answer

pub waiting_at : (calls : List QueuedCall) (i : ℕ) (c : QueuedCall) (ident : List ℕ) → slice_get calls i ≡ Some c → (at : IsWaitingAt (record { calls = all_queued calls; next = 0 }) i ident) → waits_as ident (asked_as (queued c)) ≡ true
waiting_at calls i c ident is at =
    let same : at.0 ≡ queued c = same_some (slice_get (all_queued calls) i) at.0 (queued c) at.1 (get_map queued calls i c is) in
    ap (λ (y : Queued). waits_as ident (asked_as y)) (sym same) ∙ at.2

pub waits_at : (calls : List QueuedCall) (next i : ℕ) (c : QueuedCall) (ident : List ℕ) → slice_get calls i ≡ Some c → IsWaitingAt (seen calls next) i ident → waits (answer_of c.answer) ≡ true
waits_at calls next i c ident is at = and_second (bytes_eq (ident_of c.given.value.number) ident) (waits (answer_of c.answer)) (waiting_at calls i c ident is at)

-- the call that waits at a place is given its answer
pub view_answered : (calls : List QueuedCall) (next i : ℕ) (ident : List ℕ) (answer : Answer) (c : QueuedCall) (x : Queued) → AreDifferent (idents calls) → slice_get calls i ≡ Some c → IsWaitingAt (seen calls next) i ident
    → x ≡ given_to answer (queued c) → seen_set (all_queued calls) i x next ≡ after_answer (seen calls next) ident answer
view_answered calls next i ident answer c x apart is at x_is =
    ap (λ l. record { calls = l; next = next }) (ap (λ y. slice_set (all_queued calls) i y) x_is ∙ answered_at calls ident answer i c apart is (waiting_at calls i c ident is at))

pub view_refused : (calls : List QueuedCall) (index : BTreeMap ℕ ℕ) (counts : List ℕ) (next i : ℕ) (c c' : QueuedCall) (ident : List ℕ) → AreKept calls index counts next → slice_get calls i ≡ Some c
    → c' ≡ counted_out given.Refused c → IsWaitingAt (seen calls next) i ident → seen (slice_set calls i c') next ≡ after_answer (seen calls next) ident IsRefused
view_refused calls index counts next i c c' ident k is c_is at =
    view_out calls next i given.Refused c c' (queued c) is c_is (get_map queued calls i c is)
    ∙ view_answered calls next i ident IsRefused c (record { call = c.given.value; answer = IsRefused; is_open = false }) k.differ is at refl

-- a call that was let through keeps no input
abbrev pub connected_with : ℕ → ℕ → List ℕ → QueuedCall → QueuedCall
connected_with to port stdin c = record c { plan = record c.plan { stdin = stdin }; answer = given.At to port }

pub kept_connected : (calls : List QueuedCall) (index : BTreeMap ℕ ℕ) (counts : List ℕ) (next i to port : ℕ) (stdin : List ℕ) (c : QueuedCall) → AreKept calls index counts next → slice_get calls i ≡ Some c
    → AreKept (slice_set calls i (connected_with to port stdin c)) index counts next
kept_connected calls index counts next i to port stdin c k is =
    let f = each_get IsFaithful calls i c k.faithful is in
    kept_set calls index counts counts next next i c (connected_with to port stdin c) k is refl refl
    (record { number = f.number; to = f.to; service = f.service; stdin = λ w. cc; short_to = f.short_to; short_service = f.short_service })
    (recounts_not counts c.target c.is_open) (drop_set_if (λ x. x.is_open ≡ false) next calls i c (connected_with to port stdin c) k.closed is (λ h. h)) k.within

pub view_connected : (calls : List QueuedCall) (index : BTreeMap ℕ ℕ) (counts : List ℕ) (next i to port : ℕ) (stdin : List ℕ) (c : QueuedCall) (ident : List ℕ) → AreKept calls index counts next → slice_get calls i ≡ Some c
    → IsWaitingAt (seen calls next) i ident → seen (slice_set calls i (connected_with to port stdin c)) next ≡ after_answer (seen calls next) ident (At to port)
view_connected calls index counts next i to port stdin c ident k is at =
    ap (λ l. record { calls = l; next = next }) (map_set_one queued calls i (connected_with to port stdin c))
    ∙ view_answered calls next i ident (At to port) c (queued (connected_with to port stdin c)) k.differ is at refl

pub stdin_at : (calls : List QueuedCall) (index : BTreeMap ℕ ℕ) (counts : List ℕ) (next i : ℕ) (c : QueuedCall) (x : Queued) (ident : List ℕ) → AreKept calls index counts next → slice_get calls i ≡ Some c
    → IsWaitingAt (seen calls next) i ident → slice_get (all_queued calls) i ≡ Some x → c.plan.stdin ≡ x.call.stdin
stdin_at calls index counts next i c x ident k is at x_is =
    let f = each_get IsFaithful calls i c k.faithful is in
    let same : x ≡ queued c = same_some (slice_get (all_queued calls) i) x (queued c) x_is (get_map queued calls i c is) in
    f.stdin (waits_at calls next i c ident is at) ∙ ap (λ (y : Queued). y.call.stdin) (sym same)

-- ---- what is next

-- if the call that is next has no room for its count, the limit holds it back
pub held_by : (calls : List QueuedCall) (index : BTreeMap ℕ ℕ) (counts : List ℕ) (next : ℕ) (c : QueuedCall) → AreKept calls index counts next → slice_get calls next ≡ Some c → 16 ≤ slice_index counts c.target
    → IsHeld (seen calls next)
held_by calls index counts next c k is full =
    let counted = is_counted calls index counts next next c k is in
    let at = get_map queued calls next c is in
    subst (λ o. MatchOption o (Unit {0}) (λ x. 16 ≤ open_count x.call.to (all_queued calls))) (sym at) (omega (arith, counted, full))

pub due_by : (calls : List QueuedCall) (index : BTreeMap ℕ ℕ) (counts : List ℕ) (next : ℕ) (c : QueuedCall) → AreKept calls index counts next → slice_get calls next ≡ Some c → slice_index counts c.target < 16
    → IsDue (seen calls next) (queued c)
due_by calls index counts next c k is few =
    let counted = is_counted calls index counts next next c k is in
    (get_map queued calls next c is, omega (arith, counted, few))

-- if not all were requested, there is a next one
pub next_at : (calls : List QueuedCall) (index : BTreeMap ℕ ℕ) (counts : List ℕ) (next : ℕ) (c : QueuedCall) → AreKept calls index counts next → (next ≡ length calls → ⊥) → c ≡ get_or calls next c → slice_get calls next ≡ Some c
next_at calls index counts next c k more is = let within = k.within in get_or_get calls next c (omega (arith, within, more)) is

-- a trigger has the texts of its call, but not its input
pub same_trigger : (version : ℕ) (c : QueuedCall) → IsFaithful c → trigger_of version c.plan ≡ trigger_of version c.given.value
same_trigger version c f = rw (f.number, f.to, f.service) refl

pub fits_trigger : (c : QueuedCall) → IsFaithful c → FitsTrigger c.plan
fits_trigger c f = (omega (arith, ap length f.to, f.short_to), omega (arith, ap length f.service, f.short_service))

pub says_due : (calls : List QueuedCall) (index : BTreeMap ℕ ℕ) (counts : List ℕ) (next version : ℕ) (c : QueuedCall) (m : Message) → AreKept calls index counts next → slice_get calls next ≡ Some c → slice_index counts c.target < 16
    → m ≡ trigger_of version c.plan → HasToSay (seen calls next) version (Some m)
says_due calls index counts next version c m k is few m_is =
    (queued c, due_by calls index counts next c k is few, m_is ∙ same_trigger version c (each_get IsFaithful calls next c k.faithful is))

-- ---- a call by its ident

pub found_at : (calls : List QueuedCall) (index : BTreeMap ℕ ℕ) (counts : List ℕ) (next i : ℕ) (ident : List ℕ) → AreKept calls index counts next → place_in index ident ≡ Some i
    → (c : QueuedCall) × (slice_get calls i ≡ Some c) × (ident_of c.given.value.number ≡ ident)
found_at calls index counts next i ident k is =
    get_map_back (λ c. ident_of c.given.value.number) calls i ident (name_at_lem (idents calls) ident i (sym (k.indexed.first ident) ∙ is))

pub found_within : (calls : List QueuedCall) (index : BTreeMap ℕ ℕ) (counts : List ℕ) (next i : ℕ) (ident : List ℕ) → AreKept calls index counts next → place_in index ident ≡ Some i → i < length calls
found_within calls index counts next i ident k is = let f = found_at calls index counts next i ident k is in slice_get_within calls i f.0 f.1

-- the call that the index has waits by the ident, if it waits at all
pub found_waits : (calls : List QueuedCall) (index : BTreeMap ℕ ℕ) (counts : List ℕ) (next i : ℕ) (ident : List ℕ) (c : QueuedCall) → AreKept calls index counts next → place_in index ident ≡ Some i → c ≡ get_or calls i c
    → waits (answer_of c.answer) ≡ true → IsWaitingAt (seen calls next) i ident
found_waits calls index counts next i ident c k is c_is w =
    let f = found_at calls index counts next i ident k is in
    let at : slice_get calls i ≡ Some c = get_or_get calls i c (slice_get_within calls i f.0 f.1) c_is in
    let same : f.0 ≡ c = same_some (slice_get calls i) f.0 c f.1 at in
    let named : bytes_eq (ident_of c.given.value.number) ident ≡ true = (bytes_eq-Decides (ident_of c.given.value.number) ident).1 (ap (λ x. ident_of x.given.value.number) (sym same) ∙ f.2) in
    (queued c, get_map queued calls i c at, rw (named, w) refl)

-- if it doesn't wait, no call does
pub found_done : (calls : List QueuedCall) (index : BTreeMap ℕ ℕ) (counts : List ℕ) (next i : ℕ) (ident : List ℕ) (c : QueuedCall) → AreKept calls index counts next → place_in index ident ≡ Some i → c ≡ get_or calls i c
    → waits (answer_of c.answer) ≡ false → list_any (waits_as ident) (map asked_as (all_queued calls)) ≡ false
found_done calls index counts next i ident c k is c_is w =
    let f = found_at calls index counts next i ident k is in
    let at : slice_get calls i ≡ Some c = get_or_get calls i c (slice_get_within calls i f.0 f.1) c_is in
    let same : f.0 ≡ c = same_some (slice_get calls i) f.0 c f.1 at in
    done_alone calls ident i c k.differ at (ap (λ x. ident_of x.given.value.number) (sym same) ∙ f.2) w

pub not_found : (calls : List QueuedCall) (index : BTreeMap ℕ ℕ) (counts : List ℕ) (next : ℕ) (ident : List ℕ) → AreKept calls index counts next → place_in index ident ≡ None
    → list_any (waits_as ident) (map asked_as (all_queued calls)) ≡ false
not_found calls index counts next ident k is = none_waits calls ident (sym (k.indexed.first ident) ∙ is)
