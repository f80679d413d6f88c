-- What a control port stands for, through each of its calls.
use Rattle.std.proofs.Common.{◌≡◌, ℕ, List, [], ◌∷◌, ◌++◌, take, Option, Some, None, true, false, refl, sym, ap, ◌∙◌, subst, append_assoc}
use Rattle.std.specs.Prelude.{Bool, Result, Ok, Err, IfOk, IsSome}
use Rattle.std.specs.List.{flat_map, AllByRecursion as Each}
use Rattle.std.proofs.lemmas.List.{append-nil}
use Rattle.list_laws.specs.Lists.{IsPrefixOf}
use Rattle.qrexec_frame.specs.declared.kind.Channel.TheVariants.{Control}
use Rattle.qrexec_frame.specs.declared.fault.FrameFault.{FrameFault}
use Rattle.qrexec_frame.specs.declared.fault.NextError.TheVariants as error
use Rattle.qrexec_frame.specs.declared.message.Message.{Message}
use Rattle.qrexec_frame.specs.declared.message.Message.TheVariants.{Hello}
use Rattle.qrexec_frame.specs.Messages.{written, IsSpellable}
use Rattle.qrexec_frame.specs.Fronts.{reading}
use Rattle.qrexec_frame.specs.Streams.{Placed}
use Rattle.qrexec_frame.specs.Decoding.{DecoderState, StandsFor, Reads, Answers, after_feed}
use Rattle.qrexec_hello.specs.Greeting.{greeting}
use Rattle.qrexec_hello.specs.declared.hello.HelloFault.{HelloFault}
use Rattle.qrexec_data.specs.declared.outcome.SessionFault.TheVariants as fault
use Rattle.qrexec_data.specs.Seeing.{number}
use Rattle.ring_words.specs.declared.page.Role.{Role}
use Rattle.vchan_protocol.specs.declared.op.Op.{Op}
use Rattle.vchan_protocol.specs.declared.op.Op.TheVariants.{Load, LoadByte, Store, StoreByte, Or, And, Swap, Nothing}
use Rattle.vchan_protocol.specs.declared.op.PastEvent.{PastEvent}
use Rattle.vchan_protocol.specs.declared.call.Answer.{Answer}
use Rattle.vchan_protocol.specs.declared.call.Call.TheVariants.{Retire}
use Rattle.vchan_protocol.specs.declared.call.EndState.{EndState}
use Rattle.vchan_protocol.specs.declared.call.EndState.TheVariants.{Fresh, Open, Shut}
use Rattle.vchan_protocol.specs.declared.side.Notes.{Notes}
use Rattle.vchan_protocol.specs.declared.side.Side.{Side}
use Rattle.vchan_protocol.specs.Table.Calls.{Trace}
use Rattle.vchan_protocol.specs.History.Core.{standing_of, begins, made, noted}
use Rattle.vchan_protocol.specs.OneEnd.OneCall.{side_along, side_called}
use Rattle.vchan_rule.specs.Seated.{SeatedEnd, view}
use Rattle.vchan_lifecycle.specs.Lifecycle.{connected_to, drained_to, ops, retire_ops}
use Rattle.vchan_lifecycle.proofs.LifecycleLaws.{retire_events}
use Rattle.vchan_lifecycle.specs.declared.DrainAnswer.TheVariants.{More}
use Rattle.vchan_packet.specs.Packet.{sent_to}
use Rattle.vchan_packet.specs.declared.SendAnswer.{SendAnswer}
use Rattle.vchan_packet.specs.declared.SendAnswer.TheVariants.{Sent, NoRoom, PeerClosed}
use Rattle.vchan_io.specs.declared.faults.Memory.{Memory}
use Rattle.end_view.specs.EndView.{EndView}
use Rattle.task_duties.specs.Hearing.{hears_on}
use Rattle.control_port.specs.Talking.{may_say, may_hear}
use Rattle.control_port.specs.Port.{PortState, SentWhole, HasSaid, HasSaidMore, HearsSoFar, Greeted, HasHeard, TakesOne, HasHeardAll, Takes, Hands, OnlySends, OnlyHears}
use Rattle.control_port.proofs.HearingLaws.{heard_all, one_more, one_wrong, silent, refused}

-- ---- what went out

flat_more : (ms : List Message) (m : Message) → flat_map written (ms ++ m ∷ []) ≡ flat_map written ms ++ written m
flat_more [] m = append-nil (written m)
flat_more (x ∷ ms) m = ap (λ r. written x ++ r) (flat_more ms m) ∙ sym (append_assoc (written x) (flat_map written ms) (written m))

each_more : (P : Message → Type 0) (ms : List Message) (m : Message) → Each P ms → P m → Each P (ms ++ m ∷ [])
each_more P [] m each last = (last, tt)
each_more P (x ∷ ms) m each last = (each.0, each_more P ms m each.1 last)

-- what was sent stays so while the end only moves and sends nothing
kept : (old new : PortState) (said : List Message) → OnlySends old new → (view new.end).sent ≡ (view old.end).sent → HasSaid old said → HasSaid new said
kept old new said only sent h =
    let P : PortState → Type 0 = λ p. HasSaid p said in
    subst P (sym only) (record { each = h.each; whole = subst (λ s. SentWhole old.greeted old.own said s) (sym sent) h.whole })

whole_more : (greeted : Bool) (own : ℕ) (said : List Message) (m : Message) (sent : List ℕ) → greeted ≡ true → SentWhole greeted own said sent → SentWhole greeted own (said ++ m ∷ []) (sent ++ written m)
whole_more true own said m sent is h = ap (λ s. s ++ written m) h ∙ sym (flat_more (Hello own ∷ said) m)
whole_more false own said m sent is h = cc

pub said_more : (old new : PortState) (said : List Message) (m : Message) (sent : SendAnswer) → HasSaid old said → old.greeted ≡ true → IsSpellable m → may_say old.talker m ≡ true → OnlySends old new
    → view new.end ≡ sent_to (view old.end) sent (written m) → HasSaidMore new said m sent
said_more old new said m Sent h greeted fits may only view_is =
    let P : PortState → Type 0 = λ p. HasSaid p (said ++ m ∷ []) in
    let sent : (view new.end).sent ≡ (view old.end).sent ++ written m = ap (λ e. e.sent) view_is in
    subst P (sym only) (record {
      each = each_more (λ x. (may_say old.talker x ≡ true) × IsSpellable x) said m h.each (may, fits);
      whole = subst (λ s. SentWhole old.greeted old.own (said ++ m ∷ []) s) (sym sent) (whole_more old.greeted old.own said m (view old.end).sent greeted h.whole);
    })
said_more old new said m (NoRoom prod cons) h greeted fits may only view_is = kept old new said only (ap (λ e. e.sent) view_is) h
said_more old new said m PeerClosed h greeted fits may only view_is = kept old new said only (ap (λ e. e.sent) view_is) h

pub says : (old new : PortState) (said : List Message) (m : Message) (result : Result SendAnswer Memory) → HasSaid old said → old.greeted ≡ true → IsSpellable m → may_say old.talker m ≡ true → OnlySends old new
    → IfOk result (λ sent. view new.end ≡ sent_to (view old.end) sent (written m)) → IfOk result (λ sent. HasSaidMore new said m sent)
says old new said m (Ok sent) h greeted fits may only view_is = said_more old new said m sent h greeted fits may only view_is
says old new said m (Err e) h greeted fits may only view_is = tt

-- what was heard stays so while the end gets nothing more
pub heard_still : (old new : PortState) (heard : List Message) → OnlySends old new → (view new.end).got ≡ (view old.end).got → HasHeard old heard → HasHeard new heard
heard_still old new heard only got h =
    let P : PortState → Type 0 = λ p. HasHeard p heard in
    subst P (sym only) (record { given = h.given; channel = h.channel; stands = subst (λ g. StandsFor old.decoder g h.given) (sym got) h.stands; fine = h.fine; so_far = h.so_far })

-- whether the greeting was sent changes nothing of what was heard
pub heard_greeted : (p : PortState) (heard : List Message) (b : Bool) → HasHeard p heard → HasHeard (record p { greeted = b }) heard
heard_greeted p heard b h = record { given = h.given; channel = h.channel; stands = h.stands; fine = h.fine; so_far = h.so_far }

-- ---- whether a connect succeeds changes nothing of what was sent and got

pub connected_sent : (e : EndView) (b : Bool) → (connected_to e b).sent ≡ e.sent
connected_sent e true = refl
connected_sent e false = refl

pub connected_got : (e : EndView) (b : Bool) → (connected_to e b).got ≡ e.got
connected_got e true = refl
connected_got e false = refl

-- ---- what came

-- an end that neither sent nor got anything more
pub said_end : (old inside : PortState) (end : SeatedEnd) (said : List Message) → old ≡ inside → (view end).sent ≡ (view inside.end).sent → HasSaid old said → HasSaid (record inside { end = end }) said
said_end old inside end said is sent h =
    let P : PortState → Type 0 = λ p. HasSaid p said in
    let i : HasSaid inside said = subst P is h in
    record { each = i.each; whole = subst (λ s. SentWhole inside.greeted inside.own said s) (sym sent) i.whole }

pub heard_end : (old inside : PortState) (end : SeatedEnd) (heard : List Message) → old ≡ inside → (view end).got ≡ (view inside.end).got → HasHeard old heard → HasHeard (record inside { end = end }) heard
heard_end old inside end heard is got h =
    let P : PortState → Type 0 = λ p. HasHeard p heard in
    let i : HasHeard inside heard = subst P is h in
    record { given = i.given; channel = i.channel; stands = subst (λ g. StandsFor inside.decoder g i.given) (sym got) i.stands; fine = i.fine; so_far = i.so_far }

pub fed : (old inside : PortState) (q : DecoderState) (end : SeatedEnd) (heard : List Message) (count : ℕ) (buf : List ℕ) (saw : Bool) → old ≡ inside → HasHeard old heard
    → view end ≡ drained_to (view inside.end) (More count) buf saw → q ≡ after_feed inside.decoder (take count buf)
    → ((got : List ℕ) (given : List (Placed Message)) → StandsFor inside.decoder got given → StandsFor q (got ++ take count buf) given) → HasHeard (record inside { end = end; decoder = q }) heard
fed old inside q end heard count buf saw is h view_is q_is stands =
    let P : PortState → Type 0 = λ p. HasHeard p heard in
    let i : HasHeard inside heard = subst P is h in
    let got : (view end).got ≡ (view inside.end).got ++ take count buf = ap (λ e. e.got) view_is in
    record {
      given = i.given;
      channel = ap (λ d. d.channel) q_is ∙ channel_fed inside.decoder (take count buf) i.fine ∙ i.channel;
      stands = subst (λ g. StandsFor q g i.given) (sym got) (stands _ i.given i.stands);
      fine = ap (λ d. d.fault) q_is ∙ fault_fed inside.decoder (take count buf) i.fine;
      so_far = i.so_far;
    }
  where
    channel_fed : (d : DecoderState) (piece : List ℕ) → d.fault ≡ None → (after_feed d piece).channel ≡ d.channel
    channel_fed d piece none = rw none refl

    fault_fed : (d : DecoderState) (piece : List ℕ) → d.fault ≡ None → (after_feed d piece).fault ≡ None
    fault_fed d piece none = rw none refl

-- ---- what is handed out

pub takes_ok : (old inside : PortState) (q : DecoderState) (heard : List Message) (message : Option Message) → old ≡ inside → HasHeard old heard → old.fault ≡ None
    → ((got : List ℕ) (given : List (Placed Message)) → StandsFor inside.decoder got given → Reads inside.decoder q got given (Ok message)) → (inside.decoder.fault ≡ None → Answers inside.decoder q (Ok message))
    → Takes old (record inside { decoder = q }) heard message
takes_ok old inside q heard message is h none reads answers =
    let P : PortState → Type 0 = λ p. HasHeard p heard in
    let i : HasHeard inside heard = subst P is h in
    let fault : inside.fault ≡ None = ap (λ p. p.fault) (sym is) ∙ none in
    let T : PortState → Type 0 = λ p. Takes p (record inside { decoder = q }) heard message in
    subst T (sym is) (by_message message i fault (reads (view inside.end).got i.given i.stands) (answers i.fine))
  where
    by_message : (message : Option Message) (i : HasHeard inside heard) → inside.fault ≡ None → Reads inside.decoder q (view inside.end).got i.given (Ok message) → Answers inside.decoder q (Ok message)
        → Takes inside (record inside { decoder = q }) heard message
    by_message (Some m) i fault r a = record {
      given = i.given;
      at = r.0;
      channel = ap (λ d. d.channel) a.2 ∙ i.channel;
      at_is = r.1;
      fault_is = fault;
      fine = ap (λ d. d.fault) a.2 ∙ i.fine;
      so_far = i.so_far;
      stands = r.2;
      begins = subst (λ c. IsPrefixOf (i.given ++ record { at = r.0; message = m } ∷ []) (reading c (view inside.end).got).placed) i.channel r.3;
    }
    by_message None i fault r a = (
      ap (λ c. hears_on inside.own (may_hear inside.talker) (reading c (view inside.end).got).placed (reading c (view inside.end).got).ending) (sym i.channel)
          ∙ ap (λ s. hears_on inside.own (may_hear inside.talker) s.placed s.ending) r.1 ∙ heard_all inside.own (may_hear inside.talker) i.given inside.version heard _ i.so_far
          ∙ ap (λ f. record { version = inside.version; messages = heard; fault = f }) (sym fault),
      λ none. record { given = i.given; channel = ap (λ d. d.channel) a.1 ∙ i.channel; stands = r.0; fine = ap (λ d. d.fault) a.1 ∙ i.fine; so_far = i.so_far },
    )

pub takes_fault : (old inside : PortState) (q : DecoderState) (heard : List Message) (f : FrameFault) → old ≡ inside → HasHeard old heard
    → ((got : List ℕ) (given : List (Placed Message)) → StandsFor inside.decoder got given → Reads inside.decoder q got given (Err (error.Fault f)))
    → HasHeardAll (record inside { decoder = q; fault = Some (fault.Frame f) }) heard
takes_fault old inside q heard f is h reads =
    let P : PortState → Type 0 = λ p. HasHeard p heard in
    let i : HasHeard inside heard = subst P is h in
    let r = reads (view inside.end).got i.given i.stands in
    ap (λ c. hears_on inside.own (may_hear inside.talker) (reading c (view inside.end).got).placed (reading c (view inside.end).got).ending) (sym i.channel)
    ∙ ap (λ s. hears_on inside.own (may_hear inside.talker) s.placed s.ending) r.3 ∙ heard_all inside.own (may_hear inside.talker) i.given inside.version heard _ i.so_far
    ∙ ap (λ g. record { version = inside.version; messages = heard; fault = Some (fault.Frame g) }) (sym r.4)

-- the message was a greeting
pub greets_ok : (old new inside : PortState) (heard : List Message) (m : Message) (v : ℕ) → new ≡ inside → TakesOne old new heard m → old.version ≡ None → OnlyHears old new → greeting inside.own m ≡ Ok v
    → HasHeard (record inside { version = Some v }) heard
greets_ok old new inside heard m v is t none only greets =
    let T : PortState → Type 0 = λ p. TakesOne old p heard m in
    let i : TakesOne old inside heard m = subst T is t in
    let own : inside.own ≡ old.own = ap (λ p. p.own) (sym is) ∙ only.2 in
    let nothing = silent old.own (may_hear old.talker) i.given heard (subst (λ w. HearsSoFar old.own (may_hear old.talker) i.given w heard) none i.so_far) in
    let p : Placed Message = record { at = i.at; message = m } in
    record {
      given = i.given ++ p ∷ [];
      channel = i.channel;
      stands = i.stands;
      fine = i.fine;
      so_far = Greeted p [] v (ap (λ g. g ++ p ∷ []) nothing.0) greets refl tt nothing.1;
    }

-- it was no greeting
pub greets_not : (old new inside : PortState) (heard : List Message) (m : Message) (f : HelloFault) → new ≡ inside → TakesOne old new heard m → old.version ≡ None → OnlyHears old new → new.version ≡ old.version
    → greeting inside.own m ≡ Err f → HasHeardAll (record inside { fault = Some (fault.Hello f) }) heard
greets_not old new inside heard m f is t none only same greets =
    let T : PortState → Type 0 = λ p. TakesOne old p heard m in
    let i : TakesOne old inside heard m = subst T is t in
    let nothing = silent old.own (may_hear old.talker) i.given heard (subst (λ w. HearsSoFar old.own (may_hear old.talker) i.given w heard) none i.so_far) in
    let p : Placed Message = record { at = i.at; message = m } in
    let version : inside.version ≡ None = ap (λ s. s.version) (sym is) ∙ same ∙ none in
    let placed : (reading Control (view inside.end).got).placed ≡ p ∷ i.begins.0 = sym i.begins.1 ∙ ap (λ g. (g ++ p ∷ []) ++ i.begins.0) nothing.0 in
    ap (λ ps. hears_on inside.own (may_hear inside.talker) ps (reading Control (view inside.end).got).ending) placed
    ∙ refused inside.own (may_hear inside.talker) p i.begins.0 (reading Control (view inside.end).got).ending f greets ∙ rw (version, nothing.1) refl

-- a message that may be heard from the other side
pub hands_on : (old new : PortState) (heard : List Message) (m : Message) → TakesOne old new heard m → IsSome old.version → OnlyHears old new → new.version ≡ old.version → may_hear new.talker m ≡ true
    → Hands new heard (Some m)
hands_on old new heard m t some only same may = by_version old.version refl some
  where
    by_version : (w : Option ℕ) → old.version ≡ w → IsSome w → Hands new heard (Some m)
    by_version None is s = cc
    by_version (Some v) is s =
        let so_far = subst (λ w. HearsSoFar old.own (may_hear old.talker) t.given w heard) is t.so_far in
        let may_be : may_hear old.talker m ≡ true = ap (λ k. may_hear k m) (sym only.1) ∙ may in
        let more = one_more old.own (may_hear old.talker) t.given v heard (record { at = t.at; message = m }) so_far may_be in
        let version : new.version ≡ Some v = same ∙ is in (
          record {
            given = t.given ++ record { at = t.at; message = m } ∷ [];
            channel = t.channel;
            stands = t.stands;
            fine = t.fine;
            so_far = rw (only.2, only.1, version) more;
          },
          may,
          rw version refl,
          t.fault_is,
        )

-- one that may not
pub hands_not : (old new inside : PortState) (heard : List Message) (m : Message) (at kind : ℕ) → new ≡ inside → TakesOne old new heard m → IsSome old.version → OnlyHears old new → new.version ≡ old.version
    → may_hear inside.talker m ≡ false → at ≡ old.decoder.at → kind ≡ number m → HasHeardAll (record inside { fault = Some (fault.WrongSide at kind) }) heard
hands_not old new inside heard m at kind is t some only same may at_is kind_is = by_version old.version refl some
  where
    by_version : (w : Option ℕ) → old.version ≡ w → IsSome w → HasHeardAll (record inside { fault = Some (fault.WrongSide at kind) }) heard
    by_version None v_is s = cc
    by_version (Some v) v_is s =
        let T : PortState → Type 0 = λ p. TakesOne old p heard m in
        let i : TakesOne old inside heard m = subst T is t in
        let own : inside.own ≡ old.own = ap (λ p. p.own) (sym is) ∙ only.2 in
        let talker : inside.talker ≡ old.talker = ap (λ p. p.talker) (sym is) ∙ only.1 in
        let version : inside.version ≡ Some v = ap (λ p. p.version) (sym is) ∙ same ∙ v_is in
        let so_far = subst (λ w. HearsSoFar old.own (may_hear old.talker) i.given w heard) v_is i.so_far in
        let far : HearsSoFar inside.own (may_hear inside.talker) i.given (Some v) heard = rw (own, talker) so_far in
        one_wrong inside.own (may_hear inside.talker) i.given _ v heard (record { at = i.at; message = m }) (reading Control (view inside.end).got).ending far may i.begins
        ∙ rw (version, at_is, kind_is, i.at_is) refl

-- ---- what an end has noted stands while it only stores

abbrev AllStores : List Op → Type 0
AllStores [] = Unit {0}
AllStores (Store word value ∷ later) = AllStores later
AllStores (Load word ∷ later) = ⊥
AllStores (LoadByte word at ∷ later) = ⊥
AllStores (StoreByte word at ∷ later) = ⊥
AllStores (Or word bits ∷ later) = ⊥
AllStores (And word bits ∷ later) = ⊥
AllStores (Swap word value ∷ later) = ⊥
AllStores (Nothing ∷ later) = ⊥

stores_first : (op : Op) (later : List Op) (role : Role) (taken : ℕ) (n : Notes) → AllStores (op ∷ later) → (noted op role taken n ≡ n) × AllStores later
stores_first (Store word value) later role taken n all = (refl, all)
stores_first (Load word) later role taken n all = absurd all
stores_first (LoadByte word at) later role taken n all = absurd all
stores_first (StoreByte word at) later role taken n all = absurd all
stores_first (Or word bits) later role taken n all = absurd all
stores_first (And word bits) later role taken n all = absurd all
stores_first (Swap word value) later role taken n all = absurd all
stores_first Nothing later role taken n all = absurd all

notes_stored : (s : Side) (events : List PastEvent) → AllStores (ops events) → (side_along s events).notes ≡ s.notes
notes_stored s [] all = refl
notes_stored s (event ∷ events) all =
    let one = stores_first event.op (ops events) s.role event.taken s.notes all in
    notes_stored (made s event.op event.taken) events one.1 ∙ one.0

retire_stores : (role : Role) (state : EndState) → AllStores (retire_ops role state)
retire_stores role Fresh = tt
retire_stores role Open = tt
retire_stores role Shut = tt

pub retire_notes : (was new : Side) (payload : List ℕ) (answer : Answer) → Trace (standing_of was) Retire new.trail answer → new ≡ side_called was Retire payload new.trail answer → new.notes ≡ was.notes
retire_notes was new payload answer trace is =
    let all : AllStores (ops new.trail) = subst AllStores (sym (retire_events (standing_of was) new.trail answer trace)) (retire_stores was.role was.state) in
    ap (λ (s : Side). s.notes) is ∙ notes_stored (begins was Retire payload) new.trail all

pub said_still : (old new : PortState) (said : List Message) → OnlyHears old new → HasSaid old said → HasSaid new said
said_still old new said only h = record {
  each = subst (λ k. Each (λ m. (may_say k m ≡ true) × IsSpellable m) said) (sym only.1) h.each;
  whole = subst (λ (g : Bool). SentWhole g new.own said (view new.end).sent) (sym only.3)
      (subst (λ (o : ℕ). SentWhole old.greeted o said (view new.end).sent) (sym only.2) (subst (λ e. SentWhole old.greeted old.own said (view e).sent) (sym only.0) h.whole));
}
