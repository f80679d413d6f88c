-- The letters that are held, step by step: the Exec of each one's call waits for its target.
use Rattle.std.proofs.Common.{◌≡◌, ◌≢◌, ℕ, ◌+◌, ◌-◌, suc, zero, Bool, true, false, List, [], ◌∷◌, map, Option, Some, None, refl, sym, ap, ◌∙◌, subst, arith, inl, inr}
use Rattle.std.specs.Prelude.{◌⊎◌, ◌==◌, Contains, if◌then◌else◌}
use Rattle.std.specs.List.{remove, AllByRecursion as Each}
use Rattle.std.proofs.Math.ListN.{set}
use Rattle.std.proofs.lemmas.Bool.{false≢true}
use Rattle.std.proofs.lemmas.Bool.Decides.{nat_tests}
use Rattle.list_laws.proofs.Tests.{same_number}
use Rattle.list_laws.proofs.Each.{each_append, each_weaker}
use Rattle.vchan_rule.specs.Seated.{view}
use Rattle.qrexec_frame.specs.declared.message.Message.{Message}
use Rattle.qrexec_frame.specs.declared.message.Message.TheVariants.{Hello, Exec, JustExec, Connect, Refused, Terminated, Trigger3, Trigger, Stdin, Stdout, Stderr, ExitCode}
use Rattle.qrexec_frame.specs.Names.{cleaned_service, cleaned_target}
use Rattle.call_broker.specs.declared.event.Event.{Event}
use Rattle.call_broker.specs.declared.event.Event.TheVariants as event
use Rattle.call_broker.specs.declared.decision.Decision.{Decision}
use Rattle.call_broker.specs.declared.decision.Decision.TheVariants as decision
use Rattle.call_broker.specs.declared.decision.Entry.{Entry}
use Rattle.call_broker.specs.Domains.{Domains, is_domain, name_of}
use Rattle.call_broker.specs.Pair as pair
use Rattle.call_broker.specs.Journal.{events, is_dropped}
use Rattle.call_broker.proofs.OpenLaws.{taken_view, domain_found}
use Rattle.call_broker.proofs.AnswerLaws.{of_target}
use Rattle.call_broker.proofs.DroppedLaws.{dropped_is}
use Rattle.call_broker.proofs.StateLaws.{dropped_events}
use Rattle.control_port.specs.Port.{PortState}
use Rattle.task_duties.specs.Words.{exec_line}
use Rattle.task_duties.specs.Broker.Outbox.{puts, only_if}
use Rattle.task_duties.proofs.Elements.{Has, has_from, contains_from, has_left, has_right}
use Rattle.broker_task.specs.declared.outbox.Letter.{Letter}
use Rattle.broker_task.specs.declared.daemon.Daemon.{Daemon}
use Rattle.broker_task.specs.Letters.{IsAt, AreHeld, messages_in, connects, released}
use Rattle.broker_task.specs.Lines.{is_shut, is_gone, SendsOne}
use Rattle.broker_task.specs.Moving.{BrokerLine, line_of}
use Rattle.broker_task.specs.Posting.{EachAt, EachMoves, LetsGo, Posts, IsCallOf, IsPosting, MovesPort}
use Rattle.broker_task.specs.Holding.{lines_of, ExecWaits, MayHold, HoldsForExecs, IsLetGo, HoldsBut}
use Rattle.broker_task.proofs.Lists.{at_mapped, mapped_at, at_one}
use Rattle.broker_task.proofs.PostLaws.{moves_one}
use Rattle.broker_task.proofs.PostingLaws.{messages_append}
use Rattle.broker_task.proofs.HearingSteps.{port_stays, item_at, place_of_domain}
use Rattle.broker_task.proofs.SendingSteps.{Sends, Alone, each_out, is_up}
use Rattle.broker_task.proofs.ReleaseSteps.{released_messages}
use Rattle.broker_task.proofs.DropSteps.{HangsUp}

-- ---- an Exec that waits, by the domains

-- the same of the domains themselves
record Waits (ds : List Daemon) (to from port : ℕ) : Type 0 where
  place : ℕ
  x : Daemon
  there : IsAt ds place x
  number : place + 1 ≡ to
  up : is_gone x ≡ false
  text : List ℕ
  has : Has (messages_in x.outbox.letters.items) (Exec from port text)

waits_line : (ds : List Daemon) (to from port : ℕ) → Waits ds to from port → ExecWaits (lines_of ds) to from port
waits_line ds to from port w = record {
  place = w.place;
  line = line_of w.x;
  there = mapped_at line_of ds w.place w.x w.there;
  number = w.number;
  up = w.up;
  text = w.text;
  waits = contains_from (messages_in w.x.outbox.letters.items) (Exec from port w.text) w.has;
}

line_waits : (ds : List Daemon) (to from port : ℕ) → ExecWaits (lines_of ds) to from port → Waits ds to from port
line_waits ds to from port e =
    let at = at_mapped line_of ds e.place e.line e.there in record {
      place = e.place;
      x = at.0;
      there = at.1;
      number = e.number;
      up = ap (λ (l : BrokerLine). is_shut (view l.port.end).state) (sym at.2) ∙ e.up;
      text = e.text;
      has = has_from _ _ (subst (λ (l : BrokerLine). Contains (messages_in l.letters) (Exec from port e.text)) at.2 e.waits);
    }

-- what may be held is a Connect
record Holding (ds : List Daemon) (d : ℕ) (m : Message) : Type 0 where
  to : ℕ
  port : ℕ
  ident : List ℕ
  is : m ≡ Connect to port ident
  waits : Waits ds to d port

holding : (ds : List Daemon) (d : ℕ) (m : Message) → MayHold (lines_of ds) d m → Holding ds d m
holding ds d (Connect to port ident) may = record { to = to; port = port; ident = ident; is = refl; waits = line_waits ds to d port may }
holding ds d (Hello v) may = absurd may
holding ds d (Exec x p l) may = absurd may
holding ds d (JustExec x p l) may = absurd may
holding ds d (Refused i) may = absurd may
holding ds d (Terminated x p) may = absurd may
holding ds d (Trigger3 x i s) may = absurd may
holding ds d (Trigger x i s) may = absurd may
holding ds d (Stdin b) may = absurd may
holding ds d (Stdout b) may = absurd may
holding ds d (Stderr b) may = absurd may
holding ds d (ExitCode c) may = absurd may

may_hold : (ds : List Daemon) (d : ℕ) (m : Message) (to port : ℕ) (ident : List ℕ) → m ≡ Connect to port ident → Waits ds to d port → MayHold (lines_of ds) d m
may_hold ds d m to port ident is waits = subst (MayHold (lines_of ds) d) (sym is) (waits_line ds to d port waits)

-- ---- what is held, by the domains

-- the letters of a domain that are held satisfy this
abbrev HeldAre : (Message → Type 0) → Daemon → Type 0
HeldAre P x = Each (λ (l : Letter). l.held ≡ true → P l.message) x.outbox.letters.items

holds_of : (ds : List Daemon) → ((i : ℕ) (x : Daemon) → IsAt ds i x → HeldAre (MayHold (lines_of ds) (i + 1)) x) → HoldsForExecs (lines_of ds)
holds_of ds each = λ place line at.
    let of = at_mapped line_of ds place line at in
    subst (λ (w : BrokerLine). Each (λ (l : Letter). l.held ≡ true → MayHold (lines_of ds) (place + 1) l.message) w.letters) (sym of.2) (each place of.0 of.1)

holds_at : (ds : List Daemon) → HoldsForExecs (lines_of ds) → (i : ℕ) (x : Daemon) → IsAt ds i x → HeldAre (MayHold (lines_of ds) (i + 1)) x
holds_at ds holds i x at = holds i (line_of x) (mapped_at line_of ds i x at)

but_of : (except : ℕ → Message → Type 0) (ds : List Daemon) → ((i : ℕ) (x : Daemon) → IsAt ds i x → HeldAre (λ m. MayHold (lines_of ds) (i + 1) m ⊎ except (i + 1) m) x) → HoldsBut except (lines_of ds)
but_of except ds each = λ place line at.
    let of = at_mapped line_of ds place line at in
    subst (λ (w : BrokerLine). Each (λ (l : Letter). l.held ≡ true → MayHold (lines_of ds) (place + 1) l.message ⊎ except (place + 1) l.message) w.letters) (sym of.2) (each place of.0 of.1)

but_at : (except : ℕ → Message → Type 0) (ds : List Daemon) → HoldsBut except (lines_of ds) → (i : ℕ) (x : Daemon) → IsAt ds i x → HeldAre (λ m. MayHold (lines_of ds) (i + 1) m ⊎ except (i + 1) m) x
but_at except ds holds i x at = holds i (line_of x) (mapped_at line_of ds i x at)

-- ---- domains that move

-- where a domain is after a step of each
moved_at : (R : ℕ → Daemon → Daemon → Type 0) (old new : List Daemon) → EachMoves R old new → (i : ℕ) (x : Daemon) → IsAt old i x → (y : Daemon) × IsAt new i y × R (i + 1) x y
moved_at R old new moves i x at =
    let z = item_at new i (omega (arith, at.within, moves.count)) in
    let m = moves.each i z.0 z.1 in
    (z.0, z.1, subst (λ (w : Daemon). R (i + 1) w z.0) (at_one old i m.0 x m.1 at) m.2)

-- a step that keeps each domain up, and all that waits for it
record KeepsWaiting (x y : Daemon) : Type 0 where
  gone : is_gone y ≡ is_gone x
  has : (m : Message) → Has (messages_in x.outbox.letters.items) m → Has (messages_in y.outbox.letters.items) m

waits_moved : (R : ℕ → Daemon → Daemon → Type 0) (old new : List Daemon) → EachMoves R old new → ((d : ℕ) (x y : Daemon) → R d x y → KeepsWaiting x y) → (to from port : ℕ) → Waits old to from port → Waits new to from port
waits_moved R old new moves keeps to from port w =
    let at = moved_at R old new moves w.place w.x w.there in
    let k = keeps (w.place + 1) w.x at.0 at.2 in
    record { place = w.place; x = at.0; there = at.1; number = w.number; up = k.gone ∙ w.up; text = w.text; has = k.has (Exec from port w.text) w.has }

may_moved : (R : ℕ → Daemon → Daemon → Type 0) (old new : List Daemon) → EachMoves R old new → ((d : ℕ) (x y : Daemon) → R d x y → KeepsWaiting x y) → (d : ℕ) (m : Message) → MayHold (lines_of old) d m → MayHold (lines_of new) d m
may_moved R old new moves keeps d m may =
    let h = holding old d m may in
    may_hold new d m h.to h.port h.ident h.is (waits_moved R old new moves keeps h.to d h.port h.waits)

-- ---- only ports move

pub holds_ports : (old new : List Daemon) → EachMoves MovesPort old new → HoldsForExecs (lines_of old) → HoldsForExecs (lines_of new)
holds_ports old new moves holds =
    let keeps : (d : ℕ) (x y : Daemon) → MovesPort d x y → KeepsWaiting x y = λ d x y m. record { gone = m.gone; has = λ w h. subst (λ (l : List Letter). Has (messages_in l) w) (sym m.outbox) h } in
    holds_of new (λ i y at.
    let m = moves.each i y at in
    subst (λ (ls : List Letter). Each (λ (l : Letter). l.held ≡ true → MayHold (lines_of new) (i + 1) l.message) ls) (sym m.2.outbox)
    (each_weaker (λ (l : Letter). l.held ≡ true → MayHold (lines_of old) (i + 1) l.message) (λ (l : Letter). l.held ≡ true → MayHold (lines_of new) (i + 1) l.message) (λ l may held. may_moved MovesPort old new moves keeps (i + 1) l.message (may held))
    m.0.outbox.letters.items (holds_at old holds i m.0 m.1)))

pub holds_next : (ds : List Daemon) (i : ℕ) (x y : Daemon) → IsAt ds i x → MovesPort (i + 1) x y → HoldsForExecs (lines_of ds) → HoldsForExecs (lines_of (set ds i y))
holds_next ds i x y there moves holds = holds_ports ds (set ds i y) (moves_one MovesPort ds i x y there moves (λ d z apart. port_stays d z)) holds

-- ---- letters that are put

-- the target of a call that was accepted is a domain that wasn't dropped
record IsCallTo (hub : Domains) (journal : List Entry) (to : ℕ) : Type 0 where
  is : is_domain hub to ≡ true
  up : is_dropped journal to ≡ false

accepted_to : (hub : Domains) (journal : List Entry) (from : ℕ) (target service ident : List ℕ) (to port : ℕ) → decision.Accepted to port ≡ pair.decision hub (events journal) (event.Trigger from target service ident) → IsCallTo hub journal to
accepted_to hub journal from target service ident to port is =
    let taken = taken_view hub (events journal) from target service ident to port (sym is) in record {
      is = domain_found hub (cleaned_target target) to taken.named;
      up = sym (dropped_events to journal) ∙ sym (dropped_is hub (pair.Ordered from to) to (events journal) (of_target from to)) ∙ taken.open_pair.target_up;
    }

posts_keeps : (hub : Domains) (e : Entry) (d : ℕ) (x y : Daemon) → Posts hub e d x y → KeepsWaiting x y
posts_keeps hub e d x y p = record {
  gone = ap (λ (q : PortState). is_shut (view q.end).state) p.port;
  has = λ m h. subst (λ (l : List Letter). Has (messages_in l) m) (sym p.letters) (subst (λ (l : List Message). Has l m) (sym (messages_append x.outbox.letters.items p.more)) (has_left (messages_in x.outbox.letters.items) (messages_in p.more) m h));
}

-- the Exec that was put for the target
exec_put : (hub : Domains) (from : ℕ) (target service ident : List ℕ) (to port : ℕ) → Has (puts hub to (event.Trigger from target service ident) (decision.Accepted to port)) (Exec from port (exec_line (cleaned_service service) (name_of hub from)))
exec_put hub from target service ident to port =
    let m : Message = Exec from port (exec_line (cleaned_service service) (name_of hub from)) in
    let self : (to == to) ≡ true = grind (arith, nat_tests) in
    has_right (only_if (to == from) (Connect to port ident)) (only_if (to == to) m) m (subst (λ (b : Bool). Has (only_if b m) m) (sym self) (inl refl))

call_waits : (hub : Domains) (journal : List Entry) (old new : List Daemon) (e : Event) (decided : Decision) → EachMoves (Posts hub (record { event = e; decision = decided })) old new → IsPosting hub journal old
    → decided ≡ pair.decision hub (events journal) e → (d : ℕ) (m : Message) → IsCallOf e decided d m → MayHold (lines_of new) d m
call_waits hub journal old new (event.Trigger from target service ident) (decision.Accepted to port) moves posting is d m call =
    let q : Entry = record { event = event.Trigger from target service ident; decision = decision.Accepted to port } in
    let call_to = accepted_to hub journal from target service ident to port is in
    let place = place_of_domain hub old to call_to.is posting.count in
    let x = item_at old (to - 1) place.0 in
    let y = moved_at (Posts hub q) old new moves (to - 1) x.0 x.1 in
    let p = subst (λ (k : ℕ). Posts hub q k x.0 y.0) place.1 y.2 in
    let text = exec_line (cleaned_service service) (name_of hub from) in
    let put : Has (messages_in y.0.outbox.letters.items) (Exec from port text) =
    subst (λ (l : List Letter). Has (messages_in l) (Exec from port text)) (sym p.letters)
    (subst (λ (l : List Message). Has l (Exec from port text)) (sym (messages_append x.0.outbox.letters.items p.more))
    (has_right (messages_in x.0.outbox.letters.items) (messages_in p.more) (Exec from port text) (subst (λ (l : List Message). Has l (Exec from port text)) (sym p.are) (exec_put hub from target service ident to port)))) in
    let dropped : is_dropped journal to ≡ is_gone x.0 = subst (λ (k : ℕ). is_dropped journal k ≡ is_gone x.0) place.1 (posting.posted (to - 1) x.0 x.1).dropped in
    may_hold new d m to port ident call.1 (record {
      place = to - 1;
      x = y.0;
      there = y.1;
      number = place.1;
      up = (posts_keeps hub q to x.0 y.0 p).gone ∙ sym dropped ∙ call_to.up;
      text = text;
      has = subst (λ (k : ℕ). Has (messages_in y.0.outbox.letters.items) (Exec k port text)) (sym call.0) put;
    })
call_waits hub journal old new (event.Trigger from target service ident) (decision.Refused cause) moves posting is d m call = absurd call
call_waits hub journal old new (event.Trigger from target service ident) (decision.Ended a b port) moves posting is d m call = absurd call
call_waits hub journal old new (event.Trigger from target service ident) decision.PassedOver moves posting is d m call = absurd call
call_waits hub journal old new (event.Terminated from other port) decided moves posting is d m call = absurd call
call_waits hub journal old new (event.Dropped domain) decided moves posting is d m call = absurd call

pub holds_posts : (hub : Domains) (journal : List Entry) (old new : List Daemon) (e : Event) (decided : Decision) → EachMoves (Posts hub (record { event = e; decision = decided })) old new → IsPosting hub journal old
    → decided ≡ pair.decision hub (events journal) e → HoldsForExecs (lines_of old) → HoldsForExecs (lines_of new)
holds_posts hub journal old new e decided moves posting is holds =
    let q : Entry = record { event = e; decision = decided } in
    holds_of new (λ i y at.
    let m = moves.each i y at in
    let P : Letter → Type 0 = λ l. l.held ≡ true → MayHold (lines_of new) (i + 1) l.message in
    subst (λ (ls : List Letter). Each P ls) (sym m.2.letters)
    (each_append P m.0.outbox.letters.items m.2.more
    (each_weaker (λ (l : Letter). l.held ≡ true → MayHold (lines_of old) (i + 1) l.message) P (λ l may held. may_moved (Posts hub q) old new moves (posts_keeps hub q) (i + 1) l.message (may held))
    m.0.outbox.letters.items (holds_at old holds i m.0 m.1))
    (each_weaker (λ (l : Letter). l.held ≡ true → IsCallOf e decided (i + 1) l.message) P (λ l call held. call_waits hub journal old new e decided moves posting is (i + 1) l.message (call held)) m.2.more m.2.held)))

-- ---- a letter that is sent

-- what waits without the letter that was sent
has_out : (letters : List Letter) (at : ℕ) (l : Letter) (m : Message) → IsAt letters at l → Has (messages_in letters) m → Has (messages_in (remove letters at)) m ⊎ (l.message ≡ m)
has_out [] at l m there h = absurd h
has_out (x ∷ letters) zero l m there (inl h) = inr (ap (λ (k : Letter). k.message) there.is ∙ h)
has_out (x ∷ letters) zero l m there (inr h) = inl h
has_out (x ∷ letters) (suc at) l m there (inl h) = inl (inl h)
has_out (x ∷ letters) (suc at) l m there (inr h) = by_rest (has_out letters at l m (record { within = omega (arith, there.within); is = there.is }) h)
  where
    by_rest : Has (messages_in (remove letters at)) m ⊎ (l.message ≡ m) → Has (messages_in (remove (x ∷ letters) (suc at))) m ⊎ (l.message ≡ m)
    by_rest (inl a) = inl (inr a)
    by_rest (inr b) = inr b

-- the Connect of a call is let go at the call's port
connects_own : (to port : ℕ) (ident : List ℕ) → connects to (Some port) (Connect to port ident) ≡ true
connects_own to port ident = grind (arith, nat_tests)

pub holds_sent : (hub : Domains) (journal : List Entry) (domain : ℕ) (m : Message) (old new : List Daemon) → EachMoves (Alone domain (Sends m)) old new → IsPosting hub journal old → HoldsForExecs (lines_of old) → HoldsBut (IsLetGo domain m) (lines_of new)
holds_sent hub journal domain m old new moves posting holds =
    but_of (IsLetGo domain m) new (λ i y at.
    let s = moves.each i y at in
    by_test i s.0 y s.1 s.2 (i + 1 == domain) refl)
  where
    after : (d : ℕ) (w : Message) → MayHold (lines_of old) d w → MayHold (lines_of new) d w ⊎ IsLetGo domain m d w
    after d w may = by_test (h.waits.place + 1 == domain) refl
      where
        h : Holding old d w
        h = holding old d w may

        at : (y : Daemon) × IsAt new h.waits.place y × Alone domain (Sends m) (h.waits.place + 1) h.waits.x y
        at = moved_at (Alone domain (Sends m)) old new moves h.waits.place h.waits.x h.waits.there

        still : (up : is_gone at.0 ≡ false) → Has (messages_in at.0.outbox.letters.items) (Exec d h.port h.waits.text) → MayHold (lines_of new) d w
        still up has = may_hold new d w h.to h.port h.ident h.is (record { place = h.waits.place; x = at.0; there = at.1; number = h.waits.number; up = up; text = h.waits.text; has = has })

        by_test : (b : Bool) → (h.waits.place + 1 == domain) ≡ b → MayHold (lines_of new) d w ⊎ IsLetGo domain m d w
        by_test false is =
            let apart : h.waits.place + 1 ≢ domain = λ same. grind (arith, nat_tests, is, same) in
            let same = at.2.1 apart in
            inl (still (ap is_gone same ∙ h.waits.up) (subst (λ (z : Daemon). Has (messages_in z.outbox.letters.items) (Exec d h.port h.waits.text)) (sym same) h.waits.has))
        by_test true is =
            let same : h.waits.place + 1 ≡ domain = same_number (h.waits.place + 1) domain is in
            let s = at.2.0 same in
            let one = s.sends (posting.said (h.waits.place + 1)) (posting.posted h.waits.place h.waits.x h.waits.there).says in
            by_out s one (has_out h.waits.x.outbox.letters.items one.0 one.1 (Exec d h.port h.waits.text) one.2 h.waits.has)
          where
            by_out : (s : Sends m h.waits.x at.0) (one : SendsOne h.waits.x at.0 (posting.said (h.waits.place + 1)) (Some m)) → Has (messages_in (remove h.waits.x.outbox.letters.items one.0)) (Exec d h.port h.waits.text) ⊎ (one.1.message ≡ Exec d h.port h.waits.text)
                → MayHold (lines_of new) d w ⊎ IsLetGo domain m d w
            by_out s one (inl has) = inl (still (is_up at.0 s.opened) (subst (λ (ls : List Letter). Has (messages_in ls) (Exec d h.port h.waits.text)) (sym one.5) has))
            by_out s one (inr it) =
                let to_is : h.to ≡ domain = sym h.waits.number ∙ same_number (h.waits.place + 1) domain is in
                inr (h.port, h.waits.text, one.4 ∙ it, subst (λ (z : Message). connects domain (Some h.port) z ≡ true) (sym h.is) (subst (λ (k : ℕ). connects domain (Some h.port) (Connect k h.port h.ident) ≡ true) (sym to_is) (connects_own domain h.port h.ident)))

    by_test : (i : ℕ) (x y : Daemon) → IsAt old i x → Alone domain (Sends m) (i + 1) x y → (b : Bool) → (i + 1 == domain) ≡ b → Each (λ (l : Letter). l.held ≡ true → MayHold (lines_of new) (i + 1) l.message ⊎ IsLetGo domain m (i + 1) l.message) y.outbox.letters.items
    by_test i x y at move true is =
        let s = move.0 (same_number (i + 1) domain is) in
        let one = s.sends (posting.said (i + 1)) (posting.posted i x at).says in
        subst (λ (ls : List Letter). Each (λ (l : Letter). l.held ≡ true → MayHold (lines_of new) (i + 1) l.message ⊎ IsLetGo domain m (i + 1) l.message) ls) (sym one.5)
        (each_out (λ (l : Letter). l.held ≡ true → MayHold (lines_of new) (i + 1) l.message ⊎ IsLetGo domain m (i + 1) l.message) x.outbox.letters.items one.0
        (each_weaker (λ (l : Letter). l.held ≡ true → MayHold (lines_of old) (i + 1) l.message) (λ (l : Letter). l.held ≡ true → MayHold (lines_of new) (i + 1) l.message ⊎ IsLetGo domain m (i + 1) l.message) (λ l may held. after (i + 1) l.message (may held))
        x.outbox.letters.items (holds_at old holds i x at)))
    by_test i x y at move false is =
        let apart : i + 1 ≢ domain = λ same. grind (arith, nat_tests, is, same) in
        subst (λ (z : Daemon). Each (λ (l : Letter). l.held ≡ true → MayHold (lines_of new) (i + 1) l.message ⊎ IsLetGo domain m (i + 1) l.message) z.outbox.letters.items) (sym (move.1 apart))
        (each_weaker (λ (l : Letter). l.held ≡ true → MayHold (lines_of old) (i + 1) l.message) (λ (l : Letter). l.held ≡ true → MayHold (lines_of new) (i + 1) l.message ⊎ IsLetGo domain m (i + 1) l.message) (λ l may held. after (i + 1) l.message (may held))
        x.outbox.letters.items (holds_at old holds i x at))

-- ---- letters that are let go

-- what is still held after a release isn't one of those that were meant
released_held : (t : ℕ) (meant : Option ℕ) (letters : List Letter) (P : Message → Type 0) → Each (λ (l : Letter). l.held ≡ true → P l.message) letters
    → Each (λ (l : Letter). l.held ≡ true → P l.message × (connects t meant l.message ≡ false)) (map (released t meant) letters)
released_held t meant [] P each = tt
released_held t meant (l ∷ letters) P each = (by_test (connects t meant l.message) refl, released_held t meant letters P each.1)
  where
    by_test : (b : Bool) → connects t meant l.message ≡ b → (let r : Letter = if b then record l { held = false } else l in r.held ≡ true → P r.message × (connects t meant r.message ≡ false))
    by_test true is = λ held. absurd (false≢true held)
    by_test false is = λ held. (each.0 held, is)

lets_keeps : (t : ℕ) (meant : Option ℕ) (x y : Daemon) → LetsGo t meant x y → KeepsWaiting x y
lets_keeps t meant x y lets = record {
  gone = ap (λ (q : PortState). is_shut (view q.end).state) lets.port;
  has = λ m h. subst (λ (l : List Letter). Has (messages_in l) m) (sym lets.letters) (subst (λ (l : List Message). Has l m) (sym (released_messages t meant x.outbox.letters.items)) h);
}

keeps_itself : (x : Daemon) → KeepsWaiting x x
keeps_itself x = record { gone = refl; has = λ m h. h }

-- a step of one domain alone
alone_keeps : (f : ℕ) (R : Daemon → Daemon → Type 0) → ((x y : Daemon) → R x y → KeepsWaiting x y) → (d : ℕ) (x y : Daemon) → Alone f R d x y → KeepsWaiting x y
alone_keeps f R keeps d x y move = by_test (d == f) refl
  where
    by_test : (b : Bool) → (d == f) ≡ b → KeepsWaiting x y
    by_test true is = keeps x y (move.0 (same_number d f is))
    by_test false is = let apart : d ≢ f = λ same. grind (arith, nat_tests, is, same) in subst (λ (z : Daemon). KeepsWaiting x z) (sym (move.1 apart)) (keeps_itself x)

-- the Connect of the call whose Exec was sent was let go
pub holds_let_go : (t f port : ℕ) (text : List ℕ) (old new : List Daemon) → EachMoves (Alone f (LetsGo t (Some port))) old new → HoldsBut (IsLetGo t (Exec f port text)) (lines_of old) → HoldsForExecs (lines_of new)
holds_let_go t f port text old new moves holds =
    holds_of new (λ i y at. let m = moves.each i y at in by_test i m.0 y m.1 m.2 (i + 1 == f) refl)
  where
    on : (d : ℕ) (w : Message) → MayHold (lines_of old) d w → MayHold (lines_of new) d w
    on d w may = may_moved (Alone f (LetsGo t (Some port))) old new moves (alone_keeps f (LetsGo t (Some port)) (lets_keeps t (Some port))) d w may

    -- a Connect that was meant connects at this port
    meant : (d : ℕ) (w : Message) → IsLetGo t (Exec f port text) d w → (d ≡ f) × (connects t (Some port) w ≡ true)
    meant d w go =
        let d_is : d ≡ f = cc (go.2) in
        let port_is : go.0 ≡ port = cc (go.2) in
        (d_is, subst (λ (k : ℕ). connects t (Some k) w ≡ true) port_is go.3)

    by_test : (i : ℕ) (x y : Daemon) → IsAt old i x → Alone f (LetsGo t (Some port)) (i + 1) x y → (b : Bool) → (i + 1 == f) ≡ b → HeldAre (MayHold (lines_of new) (i + 1)) y
    by_test i x y at move true is =
        let lets = move.0 (same_number (i + 1) f is) in
        let P : Message → Type 0 = λ w. MayHold (lines_of old) (i + 1) w ⊎ IsLetGo t (Exec f port text) (i + 1) w in
        subst (λ (ls : List Letter). Each (λ (l : Letter). l.held ≡ true → MayHold (lines_of new) (i + 1) l.message) ls) (sym lets.letters)
        (each_weaker (λ (l : Letter). l.held ≡ true → P l.message × (connects t (Some port) l.message ≡ false)) (λ (l : Letter). l.held ≡ true → MayHold (lines_of new) (i + 1) l.message) (λ l p held. let q = p held in by_cause l q.0 q.1)
        (map (released t (Some port)) x.outbox.letters.items) (released_held t (Some port) x.outbox.letters.items P (but_at (IsLetGo t (Exec f port text)) old holds i x at)))
      where
        by_cause : (l : Letter) → MayHold (lines_of old) (i + 1) l.message ⊎ IsLetGo t (Exec f port text) (i + 1) l.message → connects t (Some port) l.message ≡ false → MayHold (lines_of new) (i + 1) l.message
        by_cause l (inl may) none = on (i + 1) l.message may
        by_cause l (inr go) none = absurd (false≢true (sym none ∙ (meant (i + 1) l.message go).1))
    by_test i x y at move false is =
        let apart : i + 1 ≢ f = λ same. grind (arith, nat_tests, is, same) in
        subst (HeldAre (MayHold (lines_of new) (i + 1))) (sym (move.1 apart))
        (each_weaker (λ (l : Letter). l.held ≡ true → MayHold (lines_of old) (i + 1) l.message ⊎ IsLetGo t (Exec f port text) (i + 1) l.message) (λ (l : Letter). l.held ≡ true → MayHold (lines_of new) (i + 1) l.message) (λ l p held. by_cause l (p held))
        x.outbox.letters.items (but_at (IsLetGo t (Exec f port text)) old holds i x at))
      where
        by_cause : (l : Letter) → MayHold (lines_of old) (i + 1) l.message ⊎ IsLetGo t (Exec f port text) (i + 1) l.message → MayHold (lines_of new) (i + 1) l.message
        by_cause l (inl may) = on (i + 1) l.message may
        by_cause l (inr go) = let apart : i + 1 ≢ f = λ same. grind (arith, nat_tests, is, same) in absurd (apart (meant (i + 1) l.message go).0)

-- a message that is no Exec lets nothing go
pub holds_as_is : (t : ℕ) (sent : Message) (ds : List Daemon) → ((f port : ℕ) (text : List ℕ) → sent ≡ Exec f port text → ⊥) → HoldsBut (IsLetGo t sent) (lines_of ds) → HoldsForExecs (lines_of ds)
holds_as_is t sent ds none holds = λ place line at.
    each_weaker (λ (l : Letter). l.held ≡ true → MayHold (lines_of ds) (place + 1) l.message ⊎ IsLetGo t sent (place + 1) l.message) (λ (l : Letter). l.held ≡ true → MayHold (lines_of ds) (place + 1) l.message) (λ l p held. by_cause place l (p held))
    line.letters (holds place line at)
  where
    by_cause : (place : ℕ) (l : Letter) → MayHold (lines_of ds) (place + 1) l.message ⊎ IsLetGo t sent (place + 1) l.message → MayHold (lines_of ds) (place + 1) l.message
    by_cause place l (inl may) = may
    by_cause place l (inr go) = absurd (none (place + 1) go.0 go.1 go.2)

-- ---- a domain that is dropped

-- a Connect to another domain isn't meant
connects_to : (t to port : ℕ) (ident : List ℕ) → to ≡ t → connects t None (Connect to port ident) ≡ true
connects_to t to port ident same = grind (arith, nat_tests, same)

holds_hung_up : (t : ℕ) (old mid : List Daemon) → EachMoves (Alone t HangsUp) old mid → HoldsForExecs (lines_of old) → HoldsBut (λ d m. connects t None m ≡ true) (lines_of mid)
holds_hung_up t old mid moves holds =
    but_of (λ d m. connects t None m ≡ true) mid (λ i y at. let s = moves.each i y at in by_test i s.0 y s.1 s.2 (i + 1 == t) refl)
  where
    after : (d : ℕ) (w : Message) → MayHold (lines_of old) d w → MayHold (lines_of mid) d w ⊎ (connects t None w ≡ true)
    after d w may = by_number (h.waits.place + 1 == t) refl
      where
        h : Holding old d w
        h = holding old d w may

        by_number : (b : Bool) → (h.waits.place + 1 == t) ≡ b → MayHold (lines_of mid) d w ⊎ (connects t None w ≡ true)
        by_number true is = inr (subst (λ (z : Message). connects t None z ≡ true) (sym h.is) (connects_to t h.to h.port h.ident (sym h.waits.number ∙ same_number (h.waits.place + 1) t is)))
        by_number false is =
            let apart : h.waits.place + 1 ≢ t = λ same. grind (arith, nat_tests, is, same) in
            let at = moved_at (Alone t HangsUp) old mid moves h.waits.place h.waits.x h.waits.there in
            let same = at.2.1 apart in
            inl (may_hold mid d w h.to h.port h.ident h.is (record {
              place = h.waits.place;
              x = h.waits.x;
              there = subst (λ (z : Daemon). IsAt mid h.waits.place z) same at.1;
              number = h.waits.number;
              up = h.waits.up;
              text = h.waits.text;
              has = h.waits.has;
            }))

    by_test : (i : ℕ) (x y : Daemon) → IsAt old i x → Alone t HangsUp (i + 1) x y → (b : Bool) → (i + 1 == t) ≡ b → HeldAre (λ m. MayHold (lines_of mid) (i + 1) m ⊎ (connects t None m ≡ true)) y
    by_test i x y at move true is =
        subst (λ (ls : List Letter). Each (λ (l : Letter). l.held ≡ true → MayHold (lines_of mid) (i + 1) l.message ⊎ (connects t None l.message ≡ true)) ls) (sym (move.0 (same_number (i + 1) t is)).letters) tt
    by_test i x y at move false is =
        let apart : i + 1 ≢ t = λ same. grind (arith, nat_tests, is, same) in
        subst (HeldAre (λ m. MayHold (lines_of mid) (i + 1) m ⊎ (connects t None m ≡ true))) (sym (move.1 apart))
        (each_weaker (λ (l : Letter). l.held ≡ true → MayHold (lines_of old) (i + 1) l.message) (λ (l : Letter). l.held ≡ true → MayHold (lines_of mid) (i + 1) l.message ⊎ (connects t None l.message ≡ true)) (λ l may held. after (i + 1) l.message (may held))
        x.outbox.letters.items (holds_at old holds i x at))

holds_without : (t : ℕ) (mid new : List Daemon) → EachMoves (λ d. LetsGo t None) mid new → HoldsBut (λ d m. connects t None m ≡ true) (lines_of mid) → HoldsForExecs (lines_of new)
holds_without t mid new moves holds =
    holds_of new (λ i y at.
    let m = moves.each i y at in
    let P : Message → Type 0 = λ w. MayHold (lines_of mid) (i + 1) w ⊎ (connects t None w ≡ true) in
    subst (λ (ls : List Letter). Each (λ (l : Letter). l.held ≡ true → MayHold (lines_of new) (i + 1) l.message) ls) (sym m.2.letters)
    (each_weaker (λ (l : Letter). l.held ≡ true → P l.message × (connects t None l.message ≡ false)) (λ (l : Letter). l.held ≡ true → MayHold (lines_of new) (i + 1) l.message) (λ l p held. let q = p held in by_cause (i + 1) l q.0 q.1)
    (map (released t None) m.0.outbox.letters.items) (released_held t None m.0.outbox.letters.items P (but_at (λ d w. connects t None w ≡ true) mid holds i m.0 m.1))))
  where
    by_cause : (d : ℕ) (l : Letter) → MayHold (lines_of mid) d l.message ⊎ (connects t None l.message ≡ true) → connects t None l.message ≡ false → MayHold (lines_of new) d l.message
    by_cause d l (inl may) none = may_moved (λ k. LetsGo t None) mid new moves (λ k x y lets. lets_keeps t None x y lets) d l.message may
    by_cause d l (inr meant) none = absurd (false≢true (sym none ∙ meant))

-- the domain hung up, and the Connects to it were let go
pub holds_dropped : (t : ℕ) (old mid new : List Daemon) → EachMoves (Alone t HangsUp) old mid → EachMoves (λ d. LetsGo t None) mid new → HoldsForExecs (lines_of old) → HoldsForExecs (lines_of new)
holds_dropped t old mid new hangs lets holds = holds_without t mid new lets (holds_hung_up t old mid hangs holds)

-- ---- at first

pub holds_none : (ds : List Daemon) → EachAt (λ d x. x.outbox.letters.items ≡ []) ds → HoldsForExecs (lines_of ds)
holds_none ds empty =
    holds_of ds (λ i x at. subst (λ (ls : List Letter). Each (λ (l : Letter). l.held ≡ true → MayHold (lines_of ds) (i + 1) l.message) ls) (sym (empty i x at)) tt)

-- ---- where all that waits is held

-- an Exec isn't held
exec_free : (lines : List BrokerLine) (d from port : ℕ) (text : List ℕ) (letters : List Letter) → AreHeld letters → Each (λ (l : Letter). l.held ≡ true → MayHold lines d l.message) letters → Has (messages_in letters) (Exec from port text) → ⊥
exec_free lines d from port text [] held may h = h
exec_free lines d from port text (l ∷ letters) held may (inl is) = let none : MayHold lines d (Exec from port text) = subst (MayHold lines d) is (may.0 held.0) in none
exec_free lines d from port text (l ∷ letters) held may (inr h) = exec_free lines d from port text letters held.1 may.1 h

-- the letters of no domain that is up wait, if all of them are held
pub none_waits : (lines : List BrokerLine) → HoldsForExecs lines → ((place : ℕ) (line : BrokerLine) → IsAt lines place line → is_shut (view line.port.end).state ≡ false → AreHeld line.letters)
    → (place : ℕ) (line : BrokerLine) → IsAt lines place line → is_shut (view line.port.end).state ≡ false → line.letters ≡ []
none_waits lines holds held place line at up = by_letters line.letters (held place line at up) (holds place line at)
  where
    waits_not : (to from port : ℕ) → ExecWaits lines to from port → ⊥
    waits_not to from port w = exec_free lines (w.place + 1) from port w.text w.line.letters (held w.place w.line w.there w.up) (holds w.place w.line w.there) (has_from (messages_in w.line.letters) (Exec from port w.text) w.waits)

    none : (m : Message) → MayHold lines (place + 1) m → ⊥
    none (Connect to port ident) may = waits_not to (place + 1) port may
    none (Hello v) may = may
    none (Exec x p l) may = may
    none (JustExec x p l) may = may
    none (Refused i) may = may
    none (Terminated x p) may = may
    none (Trigger3 x i s) may = may
    none (Trigger x i s) may = may
    none (Stdin b) may = may
    none (Stdout b) may = may
    none (Stderr b) may = may
    none (ExitCode c) may = may

    by_letters : (letters : List Letter) → AreHeld letters → Each (λ (l : Letter). l.held ≡ true → MayHold lines (place + 1) l.message) letters → letters ≡ []
    by_letters [] all may = refl
    by_letters (l ∷ letters) all may = absurd (none l.message (may.0 all.0))
