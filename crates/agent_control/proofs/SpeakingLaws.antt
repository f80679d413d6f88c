-- What an agent has sent, through one message more.
use Rattle.std.proofs.Common.{◌≡◌, ◌≢◌, ℕ, ◌+◌, ◌<◌, ◌≤◌, List, [], ◌∷◌, ◌++◌, length, length-append, refl, ap, sym, ◌∙◌, inl, inr, Option, Some, None, subst, append_assoc, zero, suc, arith, drop, Bor}
use Rattle.std.specs.Prelude.{◌⊎◌, Bool, true, false, map, is_some, not, nat_lt, slice_get, slice_set, if◌then◌else◌}
use Rattle.std.specs.Slice.{IsItemAt}
use Rattle.std.specs.Option.{option_copied}
use Rattle.std.proofs.lemmas.List.{append-nil, length-map, map-append}
use Rattle.std.specs.List.{AllByRecursion as Each}
use Rattle.list_laws.specs.Lists.{SomeOf}
use Rattle.list_laws.proofs.Places.{get_map_back, get_within}
use Rattle.list_laws.proofs.Each.{each_append, each_push, some_get}
use Rattle.qrexec_frame.specs.declared.message.Message.{Message}
use Rattle.qrexec_frame.specs.declared.message.Message.TheVariants as m
use Rattle.vchan_rule.specs.Ends.{IsSameEnd}
use Rattle.scenario_file.specs.declared.scenario.CallPlan.{CallPlan}
use Rattle.task_duties.specs.declared.done.SessionEnd.{SessionEnd}
use Rattle.task_duties.specs.Words.{ident_of}
use Rattle.task_duties.specs.Agent.Answers.{Answer, Asked}
use Rattle.task_duties.specs.Agent.Saying.{asking, AsksToServe, is_at, is_refusal, IsOfVersion, IsTold}
use Rattle.agent_queue.specs.Queue.{Queued, QueueState, asked_as, asked_by, IsDue, HasToSay, trigger_of, after_trigger, IsConnectedAt}
use Rattle.agent_queue.specs.Asking.{Asks}
use Rattle.agent_queue.proofs.Places.{map_set_same}
use Rattle.agent_queue.proofs.AskingLaws.{asks_stranger}
use Rattle.control_port.specs.Port.{PortState}
use Rattle.agent_control.specs.declared.control.AgentControl.{AgentControl}
use Rattle.agent_control.specs.Speaking.{MayTell, IsTellable, HasCall, Speaks, CanSpeak, StaysOpen, IsAskedNow, OpenAfter, SaysMore, Tells, Says, IsSpoken, terminated}

-- ---- which calls are open

got_set : {A : Type 0} (xs : List A) (i j : ℕ) (y x : A) → slice_get (slice_set xs i y) j ≡ Some x → ((j ≡ i) × (y ≡ x)) ⊎ ((j ≢ i) × (slice_get xs j ≡ Some x))
got_set [] i j y x h = cc
got_set (z ∷ xs) zero zero y x h = inl (refl, cc)
got_set (z ∷ xs) zero (suc j) y x h = inr (λ e. absurd (omega (arith, e)), h)
got_set (z ∷ xs) (suc i) zero y x h = inr (λ e. absurd (omega (arith, e)), h)
got_set (z ∷ xs) (suc i) (suc j) y x h = further (got_set xs i j y x h)
  where
    further : ((j ≡ i) × (y ≡ x)) ⊎ ((j ≢ i) × (slice_get xs j ≡ Some x)) → ((suc j ≡ suc i) × (y ≡ x)) ⊎ ((suc j ≢ suc i) × (slice_get xs j ≡ Some x))
    further (inl here) = inl (ap suc here.0, here.1)
    further (inr there) = inr (λ e. there.0 (omega (arith, e)), there.1)

-- which calls stay open, or were asked for
abbrev IsOpenNow : List SessionEnd → QueueState → QueueState → ℕ → Queued → Type 0
IsOpenNow told old new place c = StaysOpen told old place c.answer ⊎ IsAskedNow old new place c.answer

stays : (told : List SessionEnd) (old new : QueueState) (place : ℕ) (c : Queued) → slice_get old.calls place ≡ Some c → c.is_open ≡ true → Each (λ e. e.call ≢ Some place) told → IsOpenNow told old new place c
stays told old new place c was is untold = inl (record { call = c; was = was; answer_is = refl; was_open = is; untold = untold })

open_same : (old new : QueueState) → new ≡ old → OpenAfter [] old new
open_same old new same place c at is = stays [] old new place c (ap (λ (q : QueueState). slice_get q.calls place) (sym same) ∙ at) is tt

open_then : (told told' : List SessionEnd) (a b c : QueueState) → a.next ≤ b.next → b.next ≤ c.next → OpenAfter told a b → OpenAfter told' b c → OpenAfter (told ++ told') a c
open_then told told' a b c more further p q place x at is = by_last (q place x at is)
  where
    by_first : (s : StaysOpen told' b place x.answer) → IsOpenNow told a b place s.call → IsOpenNow (told ++ told') a c place x
    by_first s (inl r) = inl (record {
      call = r.call;
      was = r.was;
      answer_is = r.answer_is ∙ s.answer_is;
      was_open = r.was_open;
      untold = each_append (λ (e : SessionEnd). e.call ≢ Some place) told told' r.untold s.untold;
    })
    by_first s (inr late) = inr (record { from = late.from; below = omega (arith, late.below, further); unrefused = subst (λ (y : Answer). is_refusal y ≡ false) s.answer_is late.unrefused })

    by_last : IsOpenNow told' b c place x → IsOpenNow (told ++ told') a c place x
    by_last (inl s) = by_first s (p place s.call s.was s.was_open)
    by_last (inr late) = inr (record { from = omega (arith, more, late.from); below = late.below; unrefused = late.unrefused })

-- a call whose end is reported is no longer open
open_ended : (old new : QueueState) (e : SessionEnd) (at : ℕ) (c : Queued) → e.call ≡ Some at → new.calls ≡ slice_set old.calls at (record c { is_open = false }) → OpenAfter (e ∷ []) old new
open_ended old new e at c own calls place x there is = by_place (got_set old.calls at place (record c { is_open = false }) x (ap (λ l. slice_get l place) (sym calls) ∙ there))
  where
    shut : false ≡ true → ⊥
    shut bad = cc

    same_some : Some at ≡ Some place → place ≡ at
    same_some h = cc

    by_place : ((place ≡ at) × (record c { is_open = false } ≡ x)) ⊎ ((place ≢ at) × (slice_get old.calls place ≡ Some x)) → IsOpenNow (e ∷ []) old new place x
    by_place (inl here) = absurd (shut (ap (λ (y : Queued). y.is_open) here.1 ∙ is))
    by_place (inr other) = stays (e ∷ []) old new place x other.1 is (λ same. other.0 (same_some (sym own ∙ same)), tt)

-- the end of what the agent served changes no call
open_other : (old new : QueueState) (e : SessionEnd) → e.call ≡ None → new ≡ old → OpenAfter (e ∷ []) old new
open_other old new e none same place x at is = stays (e ∷ []) old new place x (ap (λ (q : QueueState). slice_get q.calls place) (sym same) ∙ at) is (λ own. bad (sym none ∙ own), tt)
  where
    bad : None ≡ Some place → ⊥
    bad h = cc

-- a call that is asked for is open, unless it was refused
open_asked : (old new : QueueState) (c : Queued) → new.next ≡ old.next + 1 → new.calls ≡ slice_set old.calls old.next (record c { is_open = not (is_refusal c.answer) }) → OpenAfter [] old new
open_asked old new c next calls place x there is = by_place (got_set old.calls old.next place (record c { is_open = not (is_refusal c.answer) }) x (ap (λ l. slice_get l place) (sym calls) ∙ there))
  where
    unrefused : (b : Bool) → not b ≡ true → b ≡ false
    unrefused true h = cc
    unrefused false h = refl

    by_place : ((place ≡ old.next) × (record c { is_open = not (is_refusal c.answer) } ≡ x)) ⊎ ((place ≢ old.next) × (slice_get old.calls place ≡ Some x)) → IsOpenNow [] old new place x
    by_place (inl here) =
        let was_open : not (is_refusal c.answer) ≡ true = ap (λ (y : Queued). y.is_open) here.1 ∙ is in
        inr (record { from = omega (arith, here.0); below = omega (arith, here.0, next); unrefused = subst (λ (y : Queued). is_refusal y.answer ≡ false) here.1 (unrefused (is_refusal c.answer) was_open) })
    by_place (inr other) = stays [] old new place x other.1 is tt

-- ---- nothing more

-- if there was no room for a message, all that was sent stays so
still : (old new : AgentControl) (w : Message) (heard said : List Message) → Says old new w false → Speaks old heard said → Speaks new heard said
still old new w heard said s h = record {
  said_is = s.said_is said h.said_is;
  asks = subst (λ q. Asks q said) (sym s.queue) h.asks;
  of_version = subst (λ v. Each (IsOfVersion v) said) (sym s.version) h.of_version;
  told = subst (λ q. Each (IsTold (asked_by q) heard) said) (sym s.queue) h.told;
  unsaid = subst (λ u. Each (IsTellable (asked_by new.queue) heard) u.items) (sym s.unsaid) (subst (λ q. Each (IsTellable (asked_by q) heard) old.unsaid.items) (sym s.queue) h.unsaid);
}

spoken_none : (waiting : List SessionEnd) → IsSpoken 0 [] waiting []
spoken_none waiting = record { triggers = []; is = refl; each = tt; few = omega arith; last = inl refl }

pub says_nothing : (old new : AgentControl) (w : Message) → IsSameEnd old.port.end new.port.end → Says old new w false → SaysMore 0 old new
says_nothing old new w end s = record {
  end = end;
  port = s.port;
  can = s.can;
  asked = ap asked_by s.queue;
  heard = s.heard;
  told = [];
  unsaid = sym (ap (λ u. u.items) s.unsaid);
  next = omega (arith, ap (λ (q : QueueState). q.next) s.queue);
  opened = open_same old.queue new.queue s.queue;
  speaks = λ heard said h. ([], subst (λ l. Speaks new heard l) (sym (append-nil said)) (still old new w heard said s h), spoken_none new.unsaid.items);
}

pub tells_nothing : (old new : AgentControl) (e : SessionEnd) (w : Message) → IsSameEnd old.port.end new.port.end → Says old new w false → Tells old new e false
tells_nothing old new e w end s = record {
  end = end;
  port = s.port;
  can = s.can;
  asked = ap asked_by s.queue;
  heard = s.heard;
  unsaid = s.unsaid;
  next = ap (λ (q : QueueState). q.next) s.queue;
  opened = open_same old.queue new.queue s.queue;
  speaks = λ heard said h may. subst (λ l. Speaks new heard l) (sym (append-nil said)) (still old new w heard said s h);
}

pub says_same : (c : AgentControl) → CanSpeak c → SaysMore 0 c c
says_same c can = record {
  end = (refl, refl, refl, refl);
  port = (refl, refl, refl);
  can = can;
  asked = refl;
  heard = λ heard h. h;
  told = [];
  unsaid = refl;
  next = omega arith;
  opened = open_same c.queue c.queue refl;
  speaks = λ heard said h. ([], subst (λ l. Speaks c heard l) (sym (append-nil said)) h, spoken_none c.unsaid.items);
}

-- ---- one after another

no_triggers : (xs : List Message) → length xs ≤ 0 → xs ≡ []
no_triggers [] few = refl
no_triggers (x ∷ xs) few = absurd (omega (arith, few))

both_empty : {A : Type 0} (xs ys : List A) → [] ≡ xs ++ ys → (xs ≡ []) × (ys ≡ [])
both_empty [] ys is = (refl, sym is)
both_empty (x ∷ xs) ys is = cc

-- ends and then more, or, if no end waits, triggers and then more
spoken_then : (n k : ℕ) (told mid told' rest : List SessionEnd) (more more' : List Message) → mid ≡ told' ++ rest → (n ≡ 0) ⊎ (mid ≡ []) → IsSpoken n told mid more → IsSpoken k told' rest more'
    → IsSpoken (n + k) (told ++ told') rest (more ++ more')
spoken_then n k told mid told' rest more more' split (inl nought) p q =
    let none : p.triggers ≡ [] = no_triggers p.triggers (omega (arith, p.few, nought)) in
    record {
      triggers = q.triggers;
      is = ap (λ l. l ++ more') (p.is ∙ (ap (λ l. map terminated told ++ l) none ∙ append-nil (map terminated told)))
          ∙ (ap (λ l. map terminated told ++ l) q.is ∙ (sym (append_assoc (map terminated told) (map terminated told') q.triggers) ∙ ap (λ l. l ++ q.triggers) (sym (map-append terminated told told'))));
      each = q.each;
      few = omega (arith, q.few);
      last = q.last;
    }
spoken_then n k told mid told' rest more more' split (inr none) p q =
    let empty = both_empty told' rest (sym none ∙ split) in
    record {
      triggers = p.triggers ++ q.triggers;
      is = ap (λ l. l ++ more') p.is
          ∙ (ap (λ l. (map terminated told ++ p.triggers) ++ l) (q.is ∙ ap (λ l. map terminated l ++ q.triggers) empty.0)
          ∙ (append_assoc (map terminated told) p.triggers q.triggers ∙ ap (λ l. map terminated l ++ (p.triggers ++ q.triggers)) (sym (ap (λ l. told ++ l) empty.0 ∙ append-nil told))));
      each = each_append (λ m. is_some (asking m) ≡ true) p.triggers q.triggers p.each q.each;
      few = omega (arith, p.few, q.few, length-append p.triggers q.triggers);
      last = inr empty.1;
    }

pub says_then : (n k : ℕ) (a b c : AgentControl) → (n ≡ 0) ⊎ (b.unsaid.items ≡ []) → SaysMore n a b → SaysMore k b c → SaysMore (n + k) a c
says_then n k a b c first p q = record {
  end = (q.end.0 ∙ p.end.0, q.end.1 ∙ p.end.1, q.end.2 ∙ p.end.2, q.end.3 ∙ p.end.3);
  port = (q.port.0 ∙ ap (λ (x : PortState). record x { end = c.port.end }) p.port.0, q.port.1 ∙ p.port.1, q.port.2 ∙ p.port.2);
  can = q.can;
  asked = q.asked ∙ p.asked;
  heard = λ heard h. q.heard heard (p.heard heard h);
  told = p.told ++ q.told;
  unsaid = p.unsaid ∙ ap (λ l. p.told ++ l) q.unsaid ∙ sym (append_assoc p.told q.told c.unsaid.items);
  next = omega (arith, p.next, q.next);
  opened = open_then p.told q.told a.queue b.queue c.queue p.next q.next p.opened q.opened;
  speaks = λ heard said h.
      let x = p.speaks heard said h in
      let y = q.speaks heard (said ++ x.0) x.1 in
      (x.0 ++ y.0, subst (λ l. Speaks c heard l) (append_assoc said x.0 y.0) y.1, spoken_then n k p.told b.unsaid.items q.told c.unsaid.items x.0 y.0 q.unsaid first x.2 y.2);
}

-- the same if more calls are allowed
pub says_few : (n k : ℕ) (a b : AgentControl) → n ≤ k → SaysMore n a b → SaysMore k a b
says_few n k a b less p = record {
  end = p.end;
  port = p.port;
  can = p.can;
  asked = p.asked;
  heard = p.heard;
  told = p.told;
  unsaid = p.unsaid;
  next = p.next;
  opened = p.opened;
  speaks = λ heard said h.
      let x = p.speaks heard said h in
      (x.0, x.1, record { triggers = x.2.triggers; is = x.2.is; each = x.2.each; few = omega (arith, x.2.few, less); last = x.2.last });
}

-- if no end waited, none waits
pub says_none : (n : ℕ) (a b : AgentControl) → SaysMore n a b → a.unsaid.items ≡ [] → b.unsaid.items ≡ []
says_none n a b p none = (both_empty p.told b.unsaid.items (sym none ∙ p.unsaid)).1

-- ---- one message more

-- the same with another queue that has the same answers
with_queue : (mid : AgentControl) (queue : QueueState) → asked_by queue ≡ asked_by mid.queue → CanSpeak mid → CanSpeak (record mid { queue = queue })
with_queue mid queue asked can = record {
  is_open = can.is_open;
  talker = can.talker;
  greeted = can.greeted;
  version = can.version;
  version_is = can.version_is;
  calls = subst (λ l. Each (λ e. HasCall l e.call) mid.unsaid.items) (sym asked) can.calls;
}

-- the message that was sent is one that may be sent, and the queue stands for it
goes : (old mid : AgentControl) (queue : QueueState) (w : Message) (heard said : List Message) → Says old mid w true → asked_by queue ≡ asked_by mid.queue → Asks queue (said ++ w ∷ []) → IsOfVersion mid.port.version w
    → IsTold (asked_by queue) heard w → Speaks old heard said → Speaks (record mid { queue = queue }) heard (said ++ w ∷ [])
goes old mid queue w heard said s asked asks version told h =
    let same : asked_by queue ≡ asked_by old.queue = asked ∙ ap asked_by s.queue in
    record {
      said_is = s.said_is said h.said_is;
      asks = asks;
      of_version = each_push (IsOfVersion mid.port.version) said w (subst (λ v. Each (IsOfVersion v) said) (sym s.version) h.of_version) version;
      told = each_push (IsTold (asked_by queue) heard) said w (subst (λ l. Each (IsTold l heard) said) (sym same) h.told) told;
      unsaid = subst (λ u. Each (IsTellable (asked_by queue) heard) u.items) (sym s.unsaid) (subst (λ l. Each (IsTellable l heard) old.unsaid.items) (sym same) h.unsaid);
    }

-- ---- the end of a session

pub tells_other : (old mid : AgentControl) (e : SessionEnd) → e.call ≡ None → IsSameEnd old.port.end mid.port.end → Says old mid (m.Terminated e.domain e.port) true → Tells old mid e true
tells_other old mid e none end s = record {
  end = end;
  port = s.port;
  can = s.can;
  asked = ap asked_by s.queue;
  heard = s.heard;
  unsaid = s.unsaid;
  next = ap (λ (q : QueueState). q.next) s.queue;
  opened = open_other old.queue mid.queue e none s.queue;
  speaks = λ heard said h may.
      let there : SomeOf (AsksToServe e.domain e.port) heard = subst (λ o. MayTell (asked_by old.queue) heard o e.domain e.port) none may in
      goes old mid mid.queue (m.Terminated e.domain e.port) heard said s refl (asks_stranger mid.queue e.domain e.port said (subst (λ q. Asks q said) (sym s.queue) h.asks)) tt (inr there) h;
}

pub tells_own : (old mid : AgentControl) (queue : QueueState) (e : SessionEnd) (place : ℕ) → e.call ≡ Some place → place < length mid.queue.calls → IsSameEnd old.port.end mid.port.end → Says old mid (m.Terminated e.domain e.port) true
    → ((c : Queued) → slice_get mid.queue.calls place ≡ Some c → queue ≡ record mid.queue { calls = slice_set mid.queue.calls place (record c { is_open = false }) })
    → ((said : List Message) (d port : ℕ) → IsConnectedAt mid.queue place d port → Asks mid.queue said → Asks queue (said ++ m.Terminated d port ∷ [])) → Tells old (record mid { queue = queue }) e true
tells_own old mid queue e place own within end s is asks =
    let at = get_within mid.queue.calls place within in
    let same : asked_by queue ≡ asked_by mid.queue = ap asked_by (is at.0 at.1) ∙ map_set_same asked_as mid.queue.calls place at.0 (record at.0 { is_open = false }) at.1 refl in
    record {
      end = end;
      port = s.port;
      can = with_queue mid queue same s.can;
      asked = same ∙ ap asked_by s.queue;
      heard = s.heard;
      unsaid = s.unsaid;
      next = ap (λ (q : QueueState). q.next) (is at.0 at.1) ∙ ap (λ (q : QueueState). q.next) s.queue;
      opened = subst (λ (q : QueueState). OpenAfter (e ∷ []) q queue) s.queue (open_ended mid.queue queue e place at.0 own (ap (λ (q : QueueState). q.calls) (is at.0 at.1)));
      speaks = λ heard said h may. told heard said h same (subst (λ o. MayTell (asked_by old.queue) heard o e.domain e.port) own may);
    }
  where
    told : (heard said : List Message) → Speaks old heard said → asked_by queue ≡ asked_by mid.queue → MayTell (asked_by old.queue) heard (Some place) e.domain e.port
        → Speaks (record mid { queue = queue }) heard (said ++ m.Terminated e.domain e.port ∷ [])
    told heard said h same may =
        let here : slice_get (asked_by mid.queue) place ≡ Some may.0 = ap (λ q. slice_get (asked_by q) place) s.queue ∙ may.1 in
        let got = get_map_back asked_as mid.queue.calls place may.0 here in
        let connected : IsConnectedAt mid.queue place e.domain e.port = (got.0, got.1, ap (λ (a : Asked). is_at e.domain e.port a.answer) got.2 ∙ may.2) in
        let there : slice_get (asked_by queue) place ≡ Some may.0 = ap (λ l. slice_get l place) same ∙ here in
        goes old mid queue (m.Terminated e.domain e.port) heard said s same (asks said e.domain e.port connected (subst (λ q. Asks q said) (sym s.queue) h.asks)) tt
        (inl (some_get (λ (a : Asked). is_at e.domain e.port a.answer ≡ true) (asked_by queue) place may.0 there may.2)) h

-- ---- a trigger

is_of_version : (version : ℕ) (call : CallPlan) → IsOfVersion (Some version) (trigger_of version call)
is_of_version version call = by_version (nat_lt version 3) refl
  where
    by_version : (b : Bool) → nat_lt version 3 ≡ b → IsOfVersion (Some version) (if b then m.Trigger call.to (ident_of call.number) call.service else m.Trigger3 call.to (ident_of call.number) call.service)
    by_version true is = (version, refl, is)
    by_version false is = (version, refl, is)

is_told : (asked : List Asked) (heard : List Message) (version : ℕ) (call : CallPlan) → IsTold asked heard (trigger_of version call)
is_told asked heard version call = by_version (nat_lt version 3)
  where
    by_version : (b : Bool) → IsTold asked heard (if b then m.Trigger call.to (ident_of call.number) call.service else m.Trigger3 call.to (ident_of call.number) call.service)
    by_version true = tt
    by_version false = tt

asks_call : (version : ℕ) (call : CallPlan) → is_some (asking (trigger_of version call)) ≡ true
asks_call version call = by_version (nat_lt version 3)
  where
    by_version : (b : Bool) → is_some (asking (if b then m.Trigger call.to (ident_of call.number) call.service else m.Trigger3 call.to (ident_of call.number) call.service)) ≡ true
    by_version true = refl
    by_version false = refl

pub says_trigger : (old mid : AgentControl) (queue : QueueState) (version : ℕ) (w : Message) → old.port.version ≡ Some version → IsSameEnd old.port.end mid.port.end → Says old mid w true → HasToSay old.queue version (Some w) → old.unsaid.items ≡ []
    → ((c : Queued) → IsDue mid.queue c → queue ≡ after_trigger mid.queue c)
    → ((said : List Message) (v : ℕ) (x : Message) → HasToSay mid.queue v (Some x) → Asks mid.queue said → Asks queue (said ++ x ∷ [])) → SaysMore 1 old (record mid { queue = queue })
says_trigger old mid queue version w v end s says none is asks =
    let now : HasToSay mid.queue version (Some w) = subst (λ q. HasToSay q version (Some w)) (sym s.queue) says in
    let same : asked_by queue ≡ asked_by mid.queue = ap asked_by (is now.0 now.1) ∙ map_set_same asked_as mid.queue.calls mid.queue.next now.0 _ now.1.0 refl in
    let of_version : IsOfVersion mid.port.version w = subst (λ o. IsOfVersion o w) (sym (s.version ∙ v)) (subst (λ x. IsOfVersion (Some version) x) (sym now.2) (is_of_version version now.0.call)) in
    record {
      end = end;
      port = s.port;
      can = with_queue mid queue same s.can;
      asked = same ∙ ap asked_by s.queue;
      heard = s.heard;
      told = [];
      unsaid = sym (ap (λ u. u.items) s.unsaid);
      next = omega (arith, ap (λ (q : QueueState). q.next) (is now.0 now.1), ap (λ (q : QueueState). q.next) s.queue);
      opened = subst (λ (q : QueueState). OpenAfter [] q queue) s.queue (open_asked mid.queue queue now.0 (ap (λ (q : QueueState). q.next) (is now.0 now.1)) (ap (λ (q : QueueState). q.calls) (is now.0 now.1)));
      speaks = λ heard said h. (
        w ∷ [],
        goes old mid queue w heard said s same (asks said version w now (subst (λ q. Asks q said) (sym s.queue) h.asks)) of_version (subst (λ x. IsTold (asked_by queue) heard x) (sym now.2) (is_told (asked_by queue) heard version now.0.call)) h,
        record {
          triggers = w ∷ [];
          is = refl;
          each = (subst (λ x. is_some (asking x) ≡ true) (sym now.2) (asks_call version now.0.call), tt);
          few = omega arith;
          last = inr (ap (λ u. u.items) s.unsaid ∙ none);
        },
      );
    }

-- the call whose end is to be reported is one of the queue
pub within_queue : (old mid : AgentControl) (e : SessionEnd) (place : ℕ) (w : Message) → HasCall (asked_by old.queue) e.call → e.call ≡ Some place → Says old mid w true → place < length mid.queue.calls
within_queue old mid e place w has own s =
    let here : place < length (asked_by old.queue) = subst (λ o. HasCall (asked_by old.queue) o) own has in
    let there : place < length (asked_by mid.queue) = subst (λ q. place < length (asked_by q)) (sym s.queue) here in
    subst (λ n. place < n) (length-map mid.queue.calls asked_as) there

-- the first end that wasn't reported was reported, and is removed
pub tells_first : (old mid new : AgentControl) (e : SessionEnd) (rest : List SessionEnd) → Tells old mid e true → mid.unsaid.items ≡ e ∷ rest → new.unsaid.items ≡ rest → new ≡ record mid { unsaid = new.unsaid } → SaysMore 0 old new
tells_first old mid new e rest t first rest_is new_is =
    let was : old.unsaid.items ≡ e ∷ rest = ap (λ u. u.items) (sym t.unsaid) ∙ first in
    subst (λ x. SaysMore 0 old x) (sym new_is) (record {
      end = t.end;
      port = t.port;
      can = record {
        is_open = t.can.is_open;
        talker = t.can.talker;
        greeted = t.can.greeted;
        version = t.can.version;
        version_is = t.can.version_is;
        calls = subst (λ l. Each (λ x. HasCall (asked_by mid.queue) x.call) l) (sym rest_is) (subst (λ l. Each (λ x. HasCall (asked_by mid.queue) x.call) l) first t.can.calls).1;
      };
      asked = t.asked;
      heard = t.heard;
      told = e ∷ [];
      unsaid = was ∙ ap (λ l. e ∷ l) (sym rest_is);
      next = omega (arith, t.next);
      opened = t.opened;
      speaks = λ heard said h.
          let may = subst (λ l. Each (IsTellable (asked_by old.queue) heard) l) was h.unsaid in
          let more = t.speaks heard said h may.0 in (
            terminated e ∷ [],
            record {
              said_is = more.said_is;
              asks = more.asks;
              of_version = more.of_version;
              told = more.told;
              unsaid = subst (λ l. Each (IsTellable (asked_by mid.queue) heard) l) (sym rest_is) (subst (λ l. Each (IsTellable (asked_by mid.queue) heard) l) first more.unsaid).1;
            },
            record { triggers = []; is = refl; each = tt; few = omega arith; last = inl refl },
          );
    })

-- if there was no room for it, it still isn't reported
pub tells_not : (old mid : AgentControl) (e : SessionEnd) (rest : List SessionEnd) → Tells old mid e false → old.unsaid.items ≡ e ∷ rest → SaysMore 0 old mid
tells_not old mid e rest t first = record {
  end = t.end;
  port = t.port;
  can = t.can;
  asked = t.asked;
  heard = t.heard;
  told = [];
  unsaid = sym (ap (λ u. u.items) t.unsaid);
  next = omega (arith, t.next);
  opened = t.opened;
  speaks = λ heard said h. ([], t.speaks heard said h (subst (λ l. Each (IsTellable (asked_by old.queue) heard) l) first h.unsaid).0, spoken_none mid.unsaid.items);
}

-- what is borrowed of the front is the first element
pub first_of : (items : List SessionEnd) (o : Option (Bor SessionEnd)) (e : SessionEnd) → IsItemAt items 0 o → option_copied o ≡ Some e → items ≡ e ∷ drop 1 items
first_of items None e item is = cc
first_of [] (Some x) e item is = absurd (omega (arith, item.3.0))
first_of (y ∷ items) (Some x) e item is = let same : x.now ≡ e = cc in ap (λ z. z ∷ items) (sym item.1 ∙ same)

-- and if nothing is, there is none
pub none_of : (items : List SessionEnd) (o : Option (Bor SessionEnd)) → IsItemAt items 0 o → option_copied o ≡ None → items ≡ []
none_of [] o item is = refl
none_of (y ∷ items) None item is = absurd (omega (arith, item.3))
none_of (y ∷ items) (Some x) item is = cc
