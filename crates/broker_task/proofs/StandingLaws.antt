-- What stands of the task between two turns, and once all ends are given back.
use Rattle.std.proofs.Common.{◌≡◌, ◌≢◌, ℕ, ◌+◌, ◌-◌, suc, zero, Bool, true, false, List, [], ◌∷◌, ◌++◌, length, map, refl, sym, ap, ◌∙◌, subst, arith, inl, inr, Option, None}
use Rattle.std.specs.Prelude.{IsPermutation, IsSome, filter_map, slice_index_or}
use Rattle.std.proofs.lemmas.List.{append-nil, length-append, length-map}
use Rattle.std.proofs.lemmas.List.Sorted.{length_permutation}
use Rattle.std.specs.List.{AllByRecursion as Each, AllZip as EachPair}
use Rattle.std.proofs.lemmas.Slice.Zip.{AllZip-long}
use Rattle.vchan_lifecycle.specs.Lifecycle.{retired_view}
use Rattle.vchan_protocol.specs.declared.side.EndedBy.{EndedBy}
use Rattle.vchan_rule.specs.Seated.{view}
use Rattle.end_view.specs.EndView.{EndView}
use Rattle.qrexec_frame.specs.declared.message.Message.{Message}
use Rattle.qrexec_frame.specs.declared.message.Message.TheVariants.{Connect}
use Rattle.qrexec_frame.specs.Messages.{IsSpellable}
use Rattle.qrexec_data.specs.declared.outcome.SessionFault.{SessionFault}
use Rattle.call_broker.specs.declared.decision.Entry.{Entry}
use Rattle.call_broker.specs.declared.event.Event.{Event}
use Rattle.call_broker.specs.Domains.{Domains, is_domain, count_of}
use Rattle.control_port.specs.declared.talk.Talker.{Talker}
use Rattle.control_port.specs.declared.talk.Talker.TheVariants.{Broker as ByBroker}
use Rattle.control_port.specs.Talking.{may_say, may_hear}
use Rattle.control_port.specs.Port.{PortState, SentWhole, HasSaid}
use Rattle.task_duties.specs.declared.ends.RetiredEnd.{RetiredEnd}
use Rattle.task_duties.specs.Places.{numbers}
use Rattle.task_duties.specs.Hearing.{to_agent, to_broker, IsSaid, hears}
use Rattle.task_duties.specs.Broker.Outbox.{outbox, event_of, read_from, answered, live_calls}
use Rattle.task_duties.specs.Broker.Owes.{broker_version, awaited_of}
use Rattle.task_duties.proofs.Elements.{each_at, has_from}
use Rattle.broker_task.specs.declared.outbox.Letter.{Letter}
use Rattle.broker_task.specs.declared.daemon.Daemon.{Daemon}
use Rattle.broker_task.specs.declared.switchboard.Switchboard.{Switchboard}
use Rattle.broker_task.specs.Letters.{IsAt, messages_in}
use Rattle.broker_task.specs.Lines.{end_of, BrokerEnd, broker_end, heard_by, is_shut, is_gone, MayDrop, MustDrop, IsGoing, IsLine, HasRead}
use Rattle.broker_task.specs.Moving.{BrokerLine, line_of}
use Rattle.broker_task.specs.Posting.{EachAt, MayGo, HasPosted, HaveRead, IsPosting}
use Rattle.broker_task.specs.Given.{end_on, retired_end, IsRetiredOf}
use Rattle.broker_task.specs.Holding.{lines_of, HoldsForExecs, NoneIsLost, ShutAreDropped, PortStands, PortsStand}
use Rattle.broker_task.specs.Rounds.{IsReady, IsSettled}
use Rattle.broker_task.specs.Standing.{IsAttended, Stands, AreSettled}
use Rattle.broker_task.proofs.Lists.{at_mapped}
use Rattle.broker_task.proofs.RoundSteps.{domain_there}

-- ---- what was said

said_whole : (greeted : Bool) (own : ℕ) (said : List Message) (sent : List ℕ) → own ≡ broker_version → Each (λ m. (to_agent m ≡ true) × IsSpellable m) said → SentWhole greeted own said sent → IsSaid broker_version to_agent said sent
said_whole false own said sent is each whole = record { each = each; whole = inl whole }
said_whole true own said sent is each whole = record { each = each; whole = inr (subst (λ (o : ℕ). SentWhole true o said sent) is whole) }

pub said_by : (p : PortState) (said : List Message) → p.talker ≡ ByBroker → p.own ≡ broker_version → HasSaid p said → IsSaid broker_version to_agent said (view p.end).sent
said_by p said talker own h = said_whole p.greeted p.own said (view p.end).sent own (subst (λ (t : Talker). Each (λ m. (may_say t m ≡ true) × IsSpellable m) said) talker h.each) h.whole

-- a port that has sent something has sent its greeting
has_greeted : (greeted : Bool) (own : ℕ) (said : List Message) (sent : List ℕ) → SentWhole greeted own said sent → sent ≢ [] → greeted ≡ true
has_greeted false own said sent whole some = absurd (some whole.0)
has_greeted true own said sent whole some = refl

-- ---- one domain

-- a domain that is going, and of which nothing is wrong, needn't be dropped
stays : (e : EndView) → IsGoing e → (heard_by e).fault ≡ None → MustDrop e → ⊥
stays e going fine (inl misled) = cc (going.0, misled)
stays e going fine (inr (inl ended)) = let none : IsSome {T = EndedBy} None = subst (λ (o : Option EndedBy). IsSome o) going.1 ended in cc none
stays e going fine (inr (inr faulty)) = let none : IsSome {T = SessionFault} None = subst (λ (o : Option SessionFault). IsSome o) fine faulty in cc none

-- an end that has got and sent the same, and gives the same cause
record ShowsSame (x : Daemon) (e : BrokerEnd) : Type 0 where
  got : e.view.got ≡ (end_of x).got
  sent : e.view.sent ≡ (end_of x).sent
  misled : e.view.misled ≡ (end_of x).misled
  ended : e.view.ended ≡ (end_of x).ended
  cause : is_gone x ≡ true → MayDrop e

shows_itself : (d : ℕ) (x : Daemon) → IsLine d x → ShowsSame x (broker_end x)
shows_itself d x line = record { got = refl; sent = refl; misled = refl; ended = refl; cause = line.cause }

shows_retired : (d : ℕ) (x : Daemon) (r : RetiredEnd) → IsLine d x → IsRetiredOf x r → ShowsSame x (retired_end r)
shows_retired d x r line is = record {
  got = ap (λ (e : EndView). e.got) is.retired;
  sent = ap (λ (e : EndView). e.sent) is.retired;
  misled = ap (λ (e : EndView). e.misled) is.retired;
  ended = ap (λ (e : EndView). e.ended) is.retired;
  cause = λ gone.
      let hung_up : MayDrop (record { view = retired_view (end_of x); gone = x.port.end.side.notes.gone }) = hangs_up (broker_end x) (line.cause gone) in
      subst MayDrop (λ i. record { view = sym is.retired i; gone = sym (is.noted gone) i }) hung_up;
}
  where
    hangs_up : (e : BrokerEnd) → MayDrop e → MayDrop (record { view = retired_view e.view; gone = e.gone })
    hangs_up e (inl seen) = inl (record { saw = seen.saw; how = seen.how })
    hangs_up e (inr w) = inr w

attended : (hub : Domains) (journal : List Entry) (said : ℕ → List Message) (d : ℕ) (x : Daemon) (e : BrokerEnd) → IsLine d x → HasPosted hub journal said d x → HasRead x (read_from journal d) → ShowsSame x e
    → IsAttended hub journal said d e
attended hub journal said d x e line posted read same = record {
  reads =
      sym read.all ∙ ap (λ (k : ℕ). filter_map (event_of k) (hears broker_version to_broker (end_of x).got).messages) line.number
      ∙ ap (λ (g : List ℕ). filter_map (event_of d) (hears broker_version to_broker g).messages) (sym same.got);
  cause = λ dropped. same.cause (sym posted.dropped ∙ dropped);
  drops = λ must. posted.dropped ∙ by_gone (is_gone x) refl (must_of must);
  greets = λ some.
      let greeted : x.port.greeted ≡ true = has_greeted x.port.greeted x.port.own (said d) (end_of x).sent posted.says.whole (λ none. some (same.sent ∙ none)) in
      let heard : (hears broker_version to_broker e.view.got).version ≡ x.port.version = ap (λ (g : List ℕ). (hears broker_version to_broker g).version) same.got ∙ read.version in
      subst (λ (o : Option ℕ). IsSome o) (sym heard) (line.greets greeted);
  says = subst (λ (s : List ℕ). IsSaid broker_version to_agent (said d) s) (sym same.sent) (said_by x.port (said d) line.talker line.own posted.says);
  from_journal = (messages_in x.outbox.letters.items ++ posted.lost, posted.kept);
  exec_first = λ t port ident has. each_at (MayGo journal said d) (said d) (Connect t port ident) posted.went (has_from (said d) (Connect t port ident) has);
}
  where
    must_of : MustDrop e.view → MustDrop (end_of x)
    must_of (inl misled) = inl (sym same.misled ∙ misled)
    must_of (inr (inl ended)) = inr (inl (subst (λ (o : Option EndedBy). IsSome o) same.ended ended))
    must_of (inr (inr faulty)) = inr (inr (subst (λ (g : List ℕ). IsSome (hears broker_version to_broker g).fault) same.got faulty))

    by_gone : (gone : Bool) → is_gone x ≡ gone → MustDrop (end_of x) → is_gone x ≡ true
    by_gone true is must = is
    by_gone false is must = absurd (stays (end_of x) (read.going is) (read.fine is) must)

-- ---- all domains

at_paired : {A B : Type 0} (R : A → B → Type 0) (xs : List A) (ys : List B) (i : ℕ) (y : B) → EachPair R xs ys → IsAt ys i y → (x : A) × IsAt xs i x × R x y
at_paired R [] [] i y all at = absurd (omega (arith, at.within))
at_paired R [] (b ∷ ys) i y all at = absurd all
at_paired R (a ∷ xs) [] i y all at = absurd all
at_paired R (a ∷ xs) (b ∷ ys) zero y all at = (a, record { within = omega arith; is = refl }, subst (R a) (sym at.is) all.0)
at_paired R (a ∷ xs) (b ∷ ys) (suc i) y all at =
    let rest = at_paired R xs ys i y all.1 (record { within = omega (arith, at.within); is = at.is }) in
    (rest.0, record { within = omega (arith, rest.1.within); is = rest.1.is }, rest.2)

stands : (s : Switchboard) → IsReady s → Stands s.broker.hub s.broker.journal (map end_on (lines_of s.daemons.items))
stands s ready = record {
  decided = ready.posting.decided;
  numbered = ready.posting.numbered;
  count = length-map (lines_of s.daemons.items) end_on ∙ (length-map s.daemons.items line_of ∙ ready.posting.count);
  said = ready.posting.said;
  each = λ i e at.
      let of = at_mapped end_on (lines_of s.daemons.items) i e at in
      let from = at_mapped line_of s.daemons.items i of.0 of.1 in
      let x = from.0 in
      let line = ready.posting.lines i x from.1 in
      subst (λ (b : BrokerEnd). IsAttended s.broker.hub s.broker.journal ready.posting.said (i + 1) b) (sym (of.2 ∙ ap end_on from.2))
      (attended s.broker.hub s.broker.journal ready.posting.said (i + 1) x (broker_end x) line (ready.posting.posted i x from.1) (ready.read i x from.1) (shows_itself (i + 1) x line));
}

-- ---- what is left to be done

pub awaited_at : (ds : List Daemon) (i : ℕ) (x : Daemon) → IsAt ds i x → slice_index_or (map (λ z. z.awaited) ds) i 0 ≡ x.awaited
awaited_at [] i x at = absurd (omega (arith, at.within))
awaited_at (y ∷ ds) zero x at = ap (λ (z : Daemon). z.awaited) (sym at.is)
awaited_at (y ∷ ds) (suc i) x at = awaited_at ds i x (record { within = omega (arith, at.within); is = at.is })

none_left : {A : Type 0} (xs : List A) → length xs ≡ 0 → xs ≡ []
none_left [] none = refl
none_left (x ∷ xs) none = absurd (omega (arith, none))

-- as many messages were said as the outbox has, and so none waits
all_went : (said waits lost all : List Message) → IsPermutation said all → IsPermutation (said ++ (waits ++ lost)) all → length waits ≡ 0
all_went said waits lost all whole kept =
    omega (arith, length_permutation said all whole, length_permutation (said ++ (waits ++ lost)) all kept, length-append said (waits ++ lost), length-append waits lost)

settled_within : (s : Switchboard) (ready : IsReady s) → AreSettled s.broker.hub (map (λ x. x.awaited) s.daemons.items) s.broker.journal ready.posting.said
    → EachAt (IsSettled s.broker.hub s.broker.journal (length s.daemons.items)) s.daemons.items
settled_within s ready all = λ i x at up.
    let hub = s.broker.hub in
    let journal = s.broker.journal in
    let ds = s.daemons.items in
    let posted = ready.posting.posted i x at in
    let number = (ready.posting.lines i x at).number in
    let there : is_domain hub (i + 1) ≡ true = subst (λ (d : ℕ). is_domain hub d ≡ true) number (domain_there hub ds i x ready.posting.count at number) in
    let one = all (i + 1) there (posted.dropped ∙ up) in
    let place : i + 1 - 1 ≡ i = omega arith in
    let awaited : awaited_of (map (λ z. z.awaited) ds) (i + 1) ≡ x.awaited = ap (λ (k : ℕ). slice_index_or (map (λ z. z.awaited) ds) k 0) place ∙ awaited_at ds i x at in
    let calls : live_calls hub journal (numbers 1 1 (length ds)) (i + 1) ≡ live_calls hub journal (numbers 1 1 (count_of hub)) (i + 1) = ap (λ (n : ℕ). live_calls hub journal (numbers 1 1 n) (i + 1)) ready.posting.count in
    let answered_is : x.answered ≡ answered journal (i + 1) = posted.counted in (
      omega (arith, one.0, awaited, calls, answered_is),
      λ some.
          let went = all_went (ready.posting.said (i + 1)) (messages_in x.outbox.letters.items) posted.lost (outbox hub journal (i + 1)) (one.1 (omega (arith, awaited, some))) posted.kept in
          none_left x.outbox.letters.items (sym (length-map x.outbox.letters.items (λ (l : Letter). l.message)) ∙ went),
    )

-- a domain that isn't dropped lost no letter
none_lost_lem : (hub : Domains) (journal : List Entry) (ds : List Daemon) (p : IsPosting hub journal ds) → NoneIsLost hub journal p.said (lines_of ds)
none_lost_lem hub journal ds p = λ place line at up.
    let of = at_mapped line_of ds place line at in
    let h = p.posted place of.0 of.1 in
    let none : h.lost ≡ [] = h.none_lost (ap (λ (l : BrokerLine). is_shut (view l.port.end).state) (sym of.2) ∙ up) in
    subst (λ (l : BrokerLine). IsPermutation (p.said (place + 1) ++ messages_in l.letters) (outbox hub journal (place + 1))) (sym of.2)
    (subst (λ (w : List Message). IsPermutation (p.said (place + 1) ++ w) (outbox hub journal (place + 1))) (append-nil (messages_in of.0.outbox.letters.items))
    (subst (λ (l : List Message). IsPermutation (p.said (place + 1) ++ (messages_in of.0.outbox.letters.items ++ l)) (outbox hub journal (place + 1))) none h.kept))

-- and one that is dropped is shut
shut_are_dropped : (hub : Domains) (journal : List Entry) (ds : List Daemon) → IsPosting hub journal ds → ShutAreDropped journal (lines_of ds)
shut_are_dropped hub journal ds p = λ place line at.
    let of = at_mapped line_of ds place line at in
    (p.posted place of.0 of.1).dropped ∙ ap (λ (l : BrokerLine). is_shut (view l.port.end).state) (sym of.2)

-- each port stands for what was said and heard
port_stands : (said : List Message) (d : ℕ) (events : List Event) (x : Daemon) → IsLine d x → HasSaid x.port said → HasRead x events → PortStands said (line_of x)
port_stands said d events x line says read = record {
  talker = line.talker;
  own = line.own;
  says = says;
  hears = λ up.
      let got = (end_of x).got in
      let fault : (heard_by (end_of x)).fault ≡ x.port.fault = read.fine up ∙ sym (read.on up).fine in
      ap (λ (own : ℕ). hears own (may_hear x.port.talker) got) line.own ∙ ap (λ (t : Talker). hears broker_version (may_hear t) got) line.talker
      ∙ (λ i. record { version = read.version i; messages = (heard_by (end_of x)).messages; fault = fault i });
}

ports_stand : (hub : Domains) (journal : List Entry) (ds : List Daemon) (p : IsPosting hub journal ds) → HaveRead journal ds → PortsStand p.said (lines_of ds)
ports_stand hub journal ds p read = λ place line at.
    let of = at_mapped line_of ds place line at in
    let x = of.0 in
    subst (λ (l : BrokerLine). PortStands (p.said (place + 1)) l) (sym of.2)
    (port_stands (p.said (place + 1)) (place + 1) (read_from journal (place + 1)) x (p.lines place x of.1) (p.posted place x of.1).says (read place x of.1))

-- what stands of a task that goes on
pub goes_on : (s : Switchboard) → IsReady s → (EachAt (IsSettled s.broker.hub s.broker.journal (length s.daemons.items)) s.daemons.items → ⊥)
    → (st : Stands s.broker.hub s.broker.journal (map end_on (lines_of s.daemons.items))) × (AreSettled s.broker.hub (map (λ x. x.awaited) s.daemons.items) s.broker.journal st.said → ⊥)
    × NoneIsLost s.broker.hub s.broker.journal st.said (lines_of s.daemons.items) × HoldsForExecs (lines_of s.daemons.items) × ShutAreDropped s.broker.journal (lines_of s.daemons.items)
    × PortsStand st.said (lines_of s.daemons.items)
unfolding stands
goes_on s ready unsettled = (stands s ready, (λ all. unsettled (settled_within s ready all)), none_lost_lem s.broker.hub s.broker.journal s.daemons.items ready.posting, ready.holds, shut_are_dropped s.broker.hub s.broker.journal s.daemons.items ready.posting, ports_stand s.broker.hub s.broker.journal s.daemons.items ready.posting ready.read)

-- ---- all ends are given back

pub stands_done : (s : Switchboard) (ends : List RetiredEnd) → IsReady s → EachPair IsRetiredOf s.daemons.items ends → Stands s.broker.hub s.broker.journal (map retired_end ends)
stands_done s ends ready pairs = record {
  decided = ready.posting.decided;
  numbered = ready.posting.numbered;
  count = length-map ends retired_end ∙ AllZip-long IsRetiredOf s.daemons.items ends pairs ∙ ready.posting.count;
  said = ready.posting.said;
  each = λ i e at.
      let of = at_mapped retired_end ends i e at in
      let from = at_paired IsRetiredOf s.daemons.items ends i of.0 pairs of.1 in
      let x = from.0 in
      let line = ready.posting.lines i x from.1 in
      subst (λ (b : BrokerEnd). IsAttended s.broker.hub s.broker.journal ready.posting.said (i + 1) b) (sym of.2)
      (attended s.broker.hub s.broker.journal ready.posting.said (i + 1) x (retired_end of.0) line (ready.posting.posted i x from.1) (ready.read i x from.1) (shows_retired (i + 1) x of.0 line from.2));
}
