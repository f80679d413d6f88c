-- What was read from a domain and sent to it, through the calls of its port.
use Rattle.std.proofs.Common.{◌≡◌, ◌↔◌, ℕ, ◌≤◌, List, [], ◌∷◌, ◌++◌, refl, sym, ap, ◌∙◌, subst, arith, inl, inr, Option, Some, None, Bool, true, false}
use Rattle.std.specs.Prelude.{filter_map, ◌==◌, ◌||◌, IsTrue, IsSome, is_some}
use Rattle.std.proofs.lemmas.Bool.{false≢true}
use Rattle.std.proofs.lemmas.Bool.Decides.{nat_tests}
use Rattle.std.proofs.lemmas.List.Elements.{filter_map-append}
use Rattle.std.proofs.Math.Bool.{or-true}
use Rattle.qrexec_frame.specs.declared.message.Message.{Message}
use Rattle.qrexec_frame.specs.declared.message.Message.TheVariants.{Hello, Exec, JustExec, Connect, Refused, Terminated, Trigger3, Trigger, Stdin, Stdout, Stderr, ExitCode}
use Rattle.qrexec_frame.specs.Messages.{IsSpellable}
use Rattle.qrexec_frame.specs.Texts.{FitsText}
use Rattle.vchan_rule.specs.Seated.{view, IsOpen}
use Rattle.end_view.specs.EndView.{EndView}
use Rattle.vchan_protocol.specs.declared.side.EndedBy.{EndedBy}
use Rattle.vchan_protocol.specs.declared.side.EndedBy.TheVariants.{AllRead as ByAllRead, PeerGone as ByPeerGone}
use Rattle.vchan_protocol.specs.declared.side.Side.{Side}
use Rattle.vchan_protocol.specs.History.Core.{first_ended}
use Rattle.vchan_lifecycle.specs.Lifecycle.{drained_to}
use Rattle.vchan_lifecycle.specs.declared.DrainAnswer.{DrainAnswer}
use Rattle.vchan_lifecycle.specs.declared.DrainAnswer.TheVariants.{More, NotYet, AllRead, PeerGone}
use Rattle.vchan_notify.specs.Notify.{HasFoundGone, asked_gone}
use Rattle.vchan_packet.specs.Packet.{sent_to}
use Rattle.vchan_packet.specs.declared.SendAnswer.{SendAnswer}
use Rattle.vchan_packet.specs.declared.SendAnswer.TheVariants.{Sent, NoRoom, PeerClosed}
use Rattle.vchan_packet.proofs.PacketLaws.{sent_got}
use Rattle.call_broker.specs.declared.event.Event.{Event}
use Rattle.control_port.specs.declared.talk.Talker.{Talker}
use Rattle.control_port.specs.declared.talk.Talker.TheVariants.{Broker}
use Rattle.control_port.specs.Talking.{may_hear}
use Rattle.control_port.specs.Port.{PortState, HasHeard, Hands, OnlySends}
use Rattle.task_duties.specs.Hearing.{to_broker, hears}
use Rattle.task_duties.specs.Broker.Outbox.{event_of, is_from}
use Rattle.task_duties.specs.Broker.Owes.{broker_version}
use Rattle.broker_task.specs.declared.daemon.Daemon.{Daemon}
use Rattle.broker_task.specs.Lines.{end_of, is_shut, is_gone, first_view, IsLine, IsSameDaemon, HasSeenEnd, MayDrop, IsGoing, more_may_come, ReadsOn, HasRead, HandsOut, HasRoom}

-- ---- the event that a message is

IsFromIf : ℕ → Option Event → Type 0
IsFromIf d None = Unit {0}
IsFromIf d (Some e) = is_from d e ≡ true

pub event_from : (d : ℕ) (m : Message) (e : Event) → Some e ≡ event_of d m → is_from d e ≡ true
unfolding IsFromIf
event_from d (Trigger3 t i s) e is = let self : (d == d) ≡ true = grind (arith, nat_tests) in subst (IsFromIf d) (sym is) self
event_from d (Trigger t i s) e is = let self : (d == d) ≡ true = grind (arith, nat_tests) in subst (IsFromIf d) (sym is) self
event_from d (Terminated o p) e is = let self : (d == d) ≡ true = grind (arith, nat_tests) in subst (IsFromIf d) (sym is) self
event_from d (Hello v) e is = cc
event_from d (Exec x p l) e is = cc
event_from d (JustExec x p l) e is = cc
event_from d (Connect x p i) e is = cc
event_from d (Refused i) e is = cc
event_from d (Stdin b) e is = cc
event_from d (Stdout b) e is = cc
event_from d (Stderr b) e is = cc
event_from d (ExitCode c) e is = cc

HasRoomIf : Option Event → Type 0
HasRoomIf None = Unit {0}
HasRoomIf (Some e) = HasRoom e

wider : (a b : ℕ) (text : List ℕ) → a ≤ b → FitsText a text → FitsText b text
wider a b text less fits = record { within = omega (arith, fits.within, less); no_nul = fits.no_nul }

pub event_room : (d : ℕ) (m : Message) (e : Event) → Some e ≡ event_of d m → IsSpellable m → HasRoom e
unfolding HasRoomIf
event_room d (Trigger3 t i s) e is fits = subst HasRoomIf (sym is) (fits.0.1, fits.0.2)
event_room d (Trigger t i s) e is fits = subst HasRoomIf (sym is) (fits.0.1, wider 63 65439 s (omega arith) fits.0.2)
event_room d (Terminated o p) e is fits = subst HasRoomIf (sym is) tt
event_room d (Hello v) e is fits = cc
event_room d (Exec x p l) e is fits = cc
event_room d (JustExec x p l) e is fits = cc
event_room d (Connect x p i) e is fits = cc
event_room d (Refused i) e is fits = cc
event_room d (Stdin b) e is fits = cc
event_room d (Stdout b) e is fits = cc
event_room d (Stderr b) e is fits = cc
event_room d (ExitCode c) e is fits = cc

-- ---- what is handed out

filter_map_more : {A B : Type 0} (f : A → Option B) (xs : List A) (x : A) (y : B) → Some y ≡ f x → filter_map f xs ++ y ∷ [] ≡ filter_map f (xs ++ x ∷ [])
filter_map_more {A} {B} f xs x y is = sym (filter_map-append f xs (x ∷ []) ∙ ap (λ r. filter_map f xs ++ r) (one (f x) is))
  where
    one : (o : Option B) → Some y ≡ f x → filter_map f (x ∷ []) ≡ y ∷ []
    one o is' = rw (← is') refl

pub hands_event : (old new : Daemon) (events : List Event) (m : Message) (e : Event) → new.domain ≡ old.domain → ReadsOn old events → ((heard : List Message) → HasHeard old.port heard → Hands new.port heard (Some m))
    → Some e ≡ event_of old.domain m → IsSpellable m → HandsOut new events (Some e)
hands_event old new events m e same reads hands is fits =
    let h = hands reads.heard reads.hears_them in
    let is_new : Some e ≡ event_of new.domain m = is ∙ ap (λ d. event_of d m) (sym same) in (
      record {
        heard = reads.heard ++ m ∷ [];
        hears_them = h.0;
        are = ap (λ es. es ++ e ∷ []) (reads.are ∙ ap (λ d. filter_map (event_of d) reads.heard) (sym same)) ∙ filter_map_more (event_of new.domain) reads.heard m e is_new;
        fine = h.3;
      },
      event_from new.domain m e is_new,
      event_room new.domain m e is_new fits,
    )

pub hands_none : (old new : Daemon) (events : List Event) → new.domain ≡ old.domain → new.port.talker ≡ Broker → new.port.own ≡ broker_version → ReadsOn old events → ((heard : List Message) → HasHeard old.port heard → Hands new.port heard None)
    → HandsOut new events None
hands_none old new events same talker own reads hands =
    let h = hands reads.heard reads.hears_them in
    let are : events ≡ filter_map (event_of new.domain) reads.heard = reads.are ∙ ap (λ d. filter_map (event_of d) reads.heard) (sym same) in
    record {
      all =
          ap (λ (o : ℕ). filter_map (event_of new.domain) (hears o to_broker (view new.port.end).got).messages) (sym own)
          ∙ ap (λ (t : Talker). filter_map (event_of new.domain) (hears new.port.own (may_hear t) (view new.port.end).got).messages) (sym talker)
          ∙ ap (λ r. filter_map (event_of new.domain) r.messages) h.0 ∙ sym are;
      version =
          ap (λ (o : ℕ). (hears o to_broker (view new.port.end).got).version) (sym own)
          ∙ ap (λ (t : Talker). (hears new.port.own (may_hear t) (view new.port.end).got).version) (sym talker)
          ∙ ap (λ r. r.version) h.0;
      faulty =
          ap (λ (o : ℕ). (hears o to_broker (view new.port.end).got).fault) (sym own)
          ∙ ap (λ (t : Talker). (hears new.port.own (may_hear t) (view new.port.end).got).fault) (sym talker)
          ∙ ap (λ r. r.fault) h.0;
      on = λ none. record { heard = reads.heard; hears_them = h.1 none; are = are; fine = none };
    }

-- ---- what was read stays so while a port sends

pub read_still : (old new : Daemon) (events : List Event) → new.domain ≡ old.domain → (end_of new).got ≡ (end_of old).got → is_gone new ≡ is_gone old → new.port.fault ≡ old.port.fault → new.port.version ≡ old.port.version
    → (IsGoing (end_of old) → IsGoing (end_of new)) → ((heard : List Message) → HasHeard old.port heard → HasHeard new.port heard) → HasRead old events → HasRead new events
read_still old new events domain got gone fault version going hears_on h = record {
  all = ap (λ (d : ℕ). filter_map (event_of d) (hears broker_version to_broker (end_of new).got).messages) domain ∙ ap (λ (g : List ℕ). filter_map (event_of old.domain) (hears broker_version to_broker g).messages) got ∙ h.all;
  version = ap (λ (g : List ℕ). (hears broker_version to_broker g).version) got ∙ h.version ∙ sym version;
  on = λ up. let o = h.on (sym gone ∙ up) in record {
    heard = o.heard;
    hears_them = hears_on o.heard o.hears_them;
    are = o.are ∙ ap (λ d. filter_map (event_of d) o.heard) (sym domain);
    fine = fault ∙ o.fine;
  };
  going = λ up. going (h.going (sym gone ∙ up));
  fine = λ up. ap (λ (g : List ℕ). (hears broker_version to_broker g).fault) got ∙ h.fine (sym gone ∙ up);
}

pub sent_going : (e : EndView) (answer : SendAnswer) (payload : List ℕ) → IsGoing e → IsGoing (sent_to e answer payload)
sent_going e Sent payload h = h
sent_going e (NoRoom prod cons) payload h = h
sent_going e PeerClosed payload h = h

pub sent_state : (e : EndView) (answer : SendAnswer) (payload : List ℕ) → (sent_to e answer payload).state ≡ e.state
sent_state e Sent payload = refl
sent_state e (NoRoom prod cons) payload = refl
sent_state e PeerClosed payload = refl

sent_first : (e : EndView) (answer : SendAnswer) (payload : List ℕ) → first_view (sent_to e answer payload) ≡ first_view e
sent_first e Sent payload = refl
sent_first e (NoRoom prod cons) payload = refl
sent_first e PeerClosed payload = refl

sent_turned : (e : EndView) (answer : SendAnswer) (payload : List ℕ) → (sent_to e answer payload).turned ≡ e.turned
sent_turned e Sent payload = refl
sent_turned e (NoRoom prod cons) payload = refl
sent_turned e PeerClosed payload = refl

-- a port that has sent, or has found no room
pub same_sent : (old new : Daemon) (answer : SendAnswer) (payload : List ℕ) → new.domain ≡ old.domain → new.awaited ≡ old.awaited → end_of new ≡ sent_to (end_of old) answer payload → IsSameDaemon old new
same_sent old new answer payload domain awaited is = record { domain = domain; awaited = awaited; given = ap first_view is ∙ sent_first (end_of old) answer payload }

pub read_sent : (old new : Daemon) (events : List Event) (answer : SendAnswer) (payload : List ℕ) → new.domain ≡ old.domain → new.port.fault ≡ old.port.fault → new.port.version ≡ old.port.version
    → end_of new ≡ sent_to (end_of old) answer payload → ((heard : List Message) → HasHeard old.port heard → HasHeard new.port heard) → HasRead old events → HasRead new events
read_sent old new events answer payload domain fault version is hears_on h =
    read_still old new events domain (ap (λ (e : EndView). e.got) is ∙ sent_got (end_of old) answer payload) (ap (λ (e : EndView). is_shut e.state) is ∙ ap is_shut (sent_state (end_of old) answer payload)) fault version
    (λ g. subst IsGoing (sym is) (sent_going (end_of old) answer payload g)) hears_on h

pub read_sending : (old new : Daemon) (events : List Event) (answer : SendAnswer) (payload : List ℕ) → new.domain ≡ old.domain → OnlySends old.port new.port → end_of new ≡ sent_to (end_of old) answer payload
    → ((heard : List Message) → HasHeard old.port heard → HasHeard new.port heard) → HasRead old events → HasRead new events
read_sending old new events answer payload domain only is hears_on h = read_sent old new events answer payload domain (ap (λ (p : PortState). p.fault) only) (ap (λ (p : PortState). p.version) only) is hears_on h

-- the line of a domain whose end is open
pub line_open : (d : ℕ) (old new : Daemon) → new.domain ≡ old.domain → new.port.talker ≡ old.port.talker → new.port.own ≡ old.port.own → (end_of new).role ≡ (end_of old).role → (end_of new).turned ≡ (end_of old).turned → IsOpen new.port.end
    → (new.port.greeted ≡ true → IsSome new.port.version) → IsLine d old → IsLine d new
line_open d old new domain talker own role turned opened greets l =
    let up : is_gone new ≡ false = ap is_shut opened.1 in
    record {
      number = domain ∙ l.number;
      talker = talker ∙ l.talker;
      own = own ∙ l.own;
      idle = opened.0;
      client = role ∙ l.client;
      honest = turned ∙ l.honest;
      retired = λ gone. absurd (false≢true (sym up ∙ gone));
      cause = λ gone. absurd (false≢true (sym up ∙ gone));
      greets = greets;
    }

pub line_sent : (d : ℕ) (old new : Daemon) (answer : SendAnswer) (payload : List ℕ) → new.domain ≡ old.domain → new.port.talker ≡ old.port.talker → new.port.own ≡ old.port.own → (end_of new).role ≡ (end_of old).role
    → end_of new ≡ sent_to (end_of old) answer payload → IsOpen new.port.end → (new.port.greeted ≡ true → IsSome new.port.version) → IsLine d old → IsLine d new
line_sent d old new answer payload domain talker own role is opened greets l =
    line_open d old new domain talker own role (ap (λ (e : EndView). e.turned) is ∙ sent_turned (end_of old) answer payload) opened greets l

pub line_sending : (d : ℕ) (old new : Daemon) (answer : SendAnswer) (payload : List ℕ) → new.domain ≡ old.domain → OnlySends old.port new.port → (end_of new).role ≡ (end_of old).role → end_of new ≡ sent_to (end_of old) answer payload
    → IsOpen new.port.end → IsLine d old → IsLine d new
line_sending d old new answer payload domain only role is opened l =
    line_sent d old new answer payload domain (ap (λ (p : PortState). p.talker) only) (ap (λ (p : PortState). p.own) only) role is opened
    (λ g. ap (λ (p : PortState). is_some p.version) only ∙ l.greets (sym (ap (λ (p : PortState). p.greeted) only) ∙ g)) l

pub same_then : (x y z : Daemon) → IsSameDaemon x y → IsSameDaemon y z → IsSameDaemon x z
same_then x y z first second = record { domain = second.domain ∙ first.domain; awaited = second.awaited ∙ first.awaited; given = second.given ∙ first.given }

-- a port that has drained
drained_first : (e : EndView) (answer : DrainAnswer) (buf : List ℕ) (saw : Bool) → first_view (drained_to e answer buf saw) ≡ first_view e
drained_first e (More count) buf saw = refl
drained_first e (NotYet prod cons) buf saw = refl
drained_first e AllRead buf saw = refl
drained_first e (PeerGone prod cons) buf saw = refl

drained_turned : (e : EndView) (answer : DrainAnswer) (buf : List ℕ) (saw : Bool) → (drained_to e answer buf saw).turned ≡ e.turned
drained_turned e (More count) buf saw = refl
drained_turned e (NotYet prod cons) buf saw = refl
drained_turned e AllRead buf saw = refl
drained_turned e (PeerGone prod cons) buf saw = refl

pub same_drained : (old new : Daemon) (answer : DrainAnswer) (buf : List ℕ) (saw : Bool) → new.domain ≡ old.domain → new.awaited ≡ old.awaited → end_of new ≡ drained_to (end_of old) answer buf saw → IsSameDaemon old new
same_drained old new answer buf saw domain awaited is = record { domain = domain; awaited = awaited; given = ap first_view is ∙ drained_first (end_of old) answer buf saw }

pub line_drained : (d : ℕ) (old new : Daemon) (answer : DrainAnswer) (buf : List ℕ) (saw : Bool) → new.domain ≡ old.domain → new.port.talker ≡ old.port.talker → new.port.own ≡ old.port.own → new.port.greeted ≡ old.port.greeted
    → new.port.version ≡ old.port.version → (end_of new).role ≡ (end_of old).role → end_of new ≡ drained_to (end_of old) answer buf saw → IsOpen new.port.end → IsLine d old → IsLine d new
line_drained d old new answer buf saw domain talker own greeted version role is opened l =
    line_open d old new domain talker own role (ap (λ (e : EndView). e.turned) is ∙ drained_turned (end_of old) answer buf saw) opened (λ g. ap is_some version ∙ l.greets (sym greeted ∙ g)) l

-- ---- an end that has seen the end of its peer: a drain ended its stream, or it found its peer gone

first_some : (o : Option EndedBy) (by : EndedBy) → IsSome (first_ended o (Some by))
first_some None by = refl
first_some (Some first) by = refl

pub drained_over : (old new : EndView) (drained : DrainAnswer) (buf : List ℕ) (saw : Bool) (word : Option ℕ) → new ≡ drained_to old drained buf saw → more_may_come drained ≡ false
    → MayDrop (record { view = new; gone = word })
drained_over old new (More count) buf saw word is over = cc
drained_over old new (NotYet prod cons) buf saw word is over = cc
drained_over old new AllRead buf saw word is over =
    inl (subst (λ (e : EndView). HasSeenEnd (record { view = e; gone = word })) (sym is) (record { saw = refl; how = inl (first_some old.ended ByAllRead) }))
drained_over old new (PeerGone prod cons) buf saw word is over =
    inl (subst (λ (e : EndView). HasSeenEnd (record { view = e; gone = word })) (sym is) (record { saw = refl; how = inl (first_some old.ended ByPeerGone) }))

pub drained_going : (old new : EndView) (drained : DrainAnswer) (buf : List ℕ) (saw : Bool) → new ≡ drained_to old drained buf saw → more_may_come drained ≡ true → IsGoing old → IsGoing new
drained_going old new (More count) buf saw is going h = subst IsGoing (sym is) h
drained_going old new (NotYet prod cons) buf saw is going h = subst IsGoing (sym is) h
drained_going old new AllRead buf saw is going h = cc
drained_going old new (PeerGone prod cons) buf saw is going h = cc

pub found_gone : (old new : EndView) (s : Side) (is : Bool) → new ≡ asked_gone old is → is ≡ true → IsTrue is ↔ HasFoundGone s → MayDrop (record { view = new; gone = s.notes.gone })
found_gone old new s is new_is found noted = inl (record { saw = ap (λ (e : EndView). e.saw) new_is ∙ ap (λ (b : Bool). old.saw || b) found ∙ or-true old.saw; how = inr (noted.0 found) })

pub asked_going : (old new : EndView) (is : Bool) → new ≡ asked_gone old is → IsGoing old → IsGoing new
asked_going old new is new_is h = subst IsGoing (sym new_is) h
